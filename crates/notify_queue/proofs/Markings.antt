-- Each step on the senders' words and slots keeps their rule.
use Rattle.std.proofs.Common.{◌≡◌, ◌≢◌, ℕ, zero, suc, ◌+◌, ◌-◌, ◌*◌, ◌/◌, ◌%◌, ◌==◌, ◌<◌, ◌≤◌, true, false, cond, eqb, List, [], ◌∷◌, ◌++◌, length, get_or, replicate, Option, Some, None, sym, refl, ap, ◌∙◌, subst, inl, inr, ⊎_elim, append_assoc, append-nil, set, arith}
use Rattle.std.specs.declared.alloc.Global.{Global}
use Rattle.std.proofs.Common.{get_or-set_same, get_or-set_other}
use Rattle.std.proofs.Math.ListN.{length-set}
use Rattle.std.proofs.lemmas.Bool.{eq-eqb, ne_eqb}
use Rattle.std.proofs.lemmas.List.{length-append, length-map, length-replicate, get_or-replicate, set-get_or}
use Rattle.std.proofs.lemmas.List.Elements.{All-nil, All-push}
use mathlib.Core.Option as core
use mathlib.Core.Logic.{dite}
use native.Mathlib.Decide.{ℕ_discrete}
use lib.ListN.{get_elem?}
use Rattle.atomic_table.specs.Table.{State, Step, Me, Act, takes, gives, keeps, Valid, stepped, carried_after, rest, Allows, Splits, opening}
use Rattle.atomic_table.proofs.Lists.{at_index, at_map, set_here, set_else}
use Rattle.crossbeam_queue.specs.SegTies.{SegId}
use Rattle.notify_queue.specs.declared.marks.Look.{Look}
use Rattle.notify_queue.specs.declared.marks.Marking.{Marking}
use Rattle.notify_queue.specs.declared.marks.Role.TheVariants.{Sends, Fills, Ended}
use Rattle.notify_queue.specs.Marks.{Marked, IsMarked, IsShown, IsSlotAt, Stage, is_waiting, is_filling, is_ended, is_read, mark_at, place, look_at, KnowsAll, HasShown, HasMarked, HasLooked, FoundMark, HasRead, Looked, reading, marks_sending, marks_filling, marks_ended}
use Rattle.notify_queue.specs.Passes.{PassOf}
use Rattle.queue_packets.proofs.Views.{some_is, all_set, all_more}
use Rattle.notify_queue.proofs.Lists.{length_set}

-- the word of one sender changes, and what its stage and its puts are
words_set : (stage stage' : ℕ → Stage) (puts puts' : ℕ → ℕ) (i n word : ℕ) (words : List ℕ) → length words ≡ place n
    → ((k : ℕ) → k ≢ i → stage' k ≡ stage k) → ((k : ℕ) → k ≢ i → puts' k ≡ puts k) → word ≡ 2 * puts' i + mark_at (stage' i)
    → ((k : ℕ) → k < n → get_or words (place k) 0 ≡ 2 * puts k + mark_at (stage k)) → (k : ℕ) → k < n → get_or (set words (place i) word) (place k) 0 ≡ 2 * puts' k + mark_at (stage' k)
words_set stage stage' puts puts' i n word words long stages putses here old k lt = dite (ℕ_discrete k i)
    (λ e.
    let inside : i < n = subst (λ (m : ℕ). m < n) e lt in
    let at : 8 * i < length words = omega (arith, long) in
    let w : get_or (set words (8 * i) word) (8 * i) 0 ≡ word = rw get_or-set_same in
    let F : ℕ → Type 0 = λ m. get_or (set words (8 * i) word) (8 * m) 0 ≡ 2 * puts' m + mark_at (stage' m) in
    subst F (sym e) (w ∙ here))
    (λ ne.
    let apart : 8 * k ≢ 8 * i = λ e. ne (omega arith) in
    let w : get_or (set words (8 * i) word) (8 * k) 0 ≡ get_or words (8 * k) 0 = rw get_or-set_other in
    w ∙ old k lt ∙ ap (λ m. 2 * m + mark_at (stage k)) (sym (putses k ne)) ∙ ap (λ t. 2 * puts' k + mark_at t) (sym (stages k ne)))

-- a seat of another sender than that of a seat with its number
not_his : (seat_of : ℕ → Option ℕ) (i j seat n : ℕ) → seat_of i ≡ Some seat → j ≢ seat → seat_of n ≡ Some j → n ≢ i
not_his seat_of i j seat n mine apart at same = apart (some_is (sym at ∙ ap seat_of same ∙ mine))

module _ {M : Type 0} (queue : SegId Global) where
  -- the slot of one sender changes
  slots_set : (stage stage' : ℕ → Stage) (i : ℕ) (homes : List (core.Option (Option (PassOf M)))) (home : core.Option (Option (PassOf M)))
      → ((k : ℕ) → k ≢ i → stage' k ≡ stage k) → IsSlotAt queue i (stage' i) (core.some home)
      → ((k : ℕ) → k < length homes → IsSlotAt queue k (stage k) (get_elem? homes k)) → (k : ℕ) → k < length (set homes i home) → IsSlotAt queue k (stage' k) (get_elem? (set homes i home) k)
  slots_set stage stage' i homes home stages here old k lt =
      let inside : k < length homes = rw length-set at lt in
      dite (ℕ_discrete k i)
      (λ e.
      let at : i < length homes = subst (λ (n : ℕ). n < length homes) e inside in
      let h : get_elem? (set homes i home) i ≡ core.some home = set_here homes i home at in
      let F : ℕ → Type 0 = λ n. IsSlotAt queue n (stage' n) (get_elem? (set homes i home) n) in
      subst F (sym e) (rw h here))
      (λ ne. rw (stages k ne, set_else homes i k home ne) (old k inside))

  -- a seat's number of puts stays
  shown_stays : (puts puts' : ℕ → ℕ) (looks : List Look) (v : Marking M) (mark : ℕ) → puts' v.number ≡ puts v.number → IsShown puts looks v mark → IsShown puts' looks v mark
  shown_stays puts puts' looks v mark same s = record { puts_are = same ∙ s.puts_are; since = s.since; looks_are = s.looks_are; found = s.found }

  -- the receiver makes a look more
  shown_more : (puts : ℕ → ℕ) (looks : List Look) (v : Marking M) (mark i word : ℕ) → (i ≡ v.number → word ≡ 2 * v.puts + mark) → IsShown puts looks v mark → IsShown puts (looks ++ look_at i word ∷ []) v mark
  shown_more puts looks v mark i word same s = record {
    puts_are = s.puts_are;
    since = s.since ++ look_at i word ∷ [];
    looks_are = ap (λ l. l ++ look_at i word ∷ []) s.looks_are ∙ append_assoc v.looks s.since (look_at i word ∷ []);
    found = All-push (λ (look : Look). look.sender ≡ v.number → look ≡ look_at v.number (2 * v.puts + mark)) s.since (look_at i word) s.found
        (λ e. ap (λ n. look_at n word) e ∙ ap (look_at v.number) (same e));
  }

  -- the seat's own step was the last
  shown_now : (puts : ℕ → ℕ) (looks : List Look) (v : Marking M) (mark : ℕ) → puts v.number ≡ v.puts → v.looks ≡ looks → IsShown puts looks v mark
  shown_now puts looks v mark same here = record {
    puts_are = same;
    since = [];
    looks_are = sym here ∙ sym (append-nil v.looks);
    found = All-nil (λ (look : Look). look.sender ≡ v.number → look ≡ look_at v.number (2 * v.puts + mark));
  }

  -- a seat whose sender's stage and puts stay, or become what it admits
  known_stays : (seat_of : ℕ → Option ℕ) (stage stage' : ℕ → Stage) (puts puts' : ℕ → ℕ) (made : ℕ) (looks : List Look) (i j : ℕ) (u : Marking M)
      → ((k : ℕ) → k ≢ i → stage' k ≡ stage k) → ((k : ℕ) → k ≢ i → puts' k ≡ puts k)
      → (u.role ≡ Sends → u.number ≢ i) → (u.role ≡ Fills → u.number ≢ i) → (u.role ≡ Ended → u.number ≡ i → (stage' i ≡ is_read) × (puts' i ≡ puts i)) → (j ≡ 0 → (stage i ≢ is_read) × (stage' i ≢ is_read))
      → IsMarked queue seat_of stage puts made looks j u → IsMarked queue seat_of stage' puts' made looks j u
  known_stays seat_of stage stage' puts puts' made looks i j u stages putses sends fills ended first k = record {
    of_queue = k.of_queue;
    sends = λ r. let o = k.sends r in (o.0, o.1, stages u.number (sends r) ∙ o.2, shown_stays puts puts' looks u 0 (putses u.number (sends r)) o.3);
    fills = λ r. let o = k.fills r in (o.0, o.1, stages u.number (fills r) ∙ o.2, shown_stays puts puts' looks u 0 (putses u.number (fills r)) o.3);
    ended = λ r.
        let o = k.ended r in
        dite (ℕ_discrete u.number i)
        (λ e. let n = ended r e in (inr (ap stage' e ∙ n.0), shown_stays puts puts' looks u 1 (ap puts' e ∙ n.1 ∙ ap puts (sym e)) o.1))
        (λ ne. (
          ⊎_elim (λ (t : stage u.number ≡ is_ended). inl (stages u.number ne ∙ t)) (λ (t : stage u.number ≡ is_read). inr (stages u.number ne ∙ t)) o.0,
          shown_stays puts puts' looks u 1 (putses u.number ne) o.1,
        ));
    reads = λ z.
        let o = k.reads z in
        let f = first z in (
          o.0,
          o.1,
          o.2,
          (λ s lt. stages s (λ e. f.0 (subst (λ (n : ℕ). stage n ≡ is_read) e (o.3 s lt))) ∙ o.3 s lt),
          (λ s le is. dite (ℕ_discrete s i) (λ e. f.1 (ap stage' (sym e) ∙ is)) (λ ne. o.4 s le (sym (stages s ne) ∙ is))),
        );
  }

  -- a sender's seat while the receiver looks at the word of i
  known_looked : (seat_of : ℕ → Option ℕ) (stage : ℕ → Stage) (puts : ℕ → ℕ) (made : ℕ) (looks : List Look) (i word j : ℕ) (u : Marking M)
      → word ≡ 2 * puts i + mark_at (stage i) → j ≢ 0 → IsMarked queue seat_of stage puts made looks j u → IsMarked queue seat_of stage puts made (looks ++ look_at i word ∷ []) j u
  known_looked seat_of stage puts made looks i word j u is other k =
      let shows : (mark : ℕ) → IsShown puts looks u mark → mark_at (stage u.number) ≡ mark → IsShown puts (looks ++ look_at i word ∷ []) u mark = λ mark s at.
      shown_more puts looks u mark i word
      (λ e. is ∙ ap (λ n. 2 * puts n + mark_at (stage n)) e ∙ ap (λ n. 2 * n + mark_at (stage u.number)) s.puts_are ∙ ap (λ n. 2 * u.puts + n) at) s in
      record {
        of_queue = k.of_queue;
        sends = λ r. let o = k.sends r in (o.0, o.1, o.2, shows 0 o.3 (ap mark_at o.2));
        fills = λ r. let o = k.fills r in (o.0, o.1, o.2, shows 0 o.3 (ap mark_at o.2));
        ended = λ r.
            let o = k.ended r in
            (o.0, shows 1 o.1 (⊎_elim (λ (t : stage u.number ≡ is_ended). ap mark_at t) (λ (t : stage u.number ≡ is_read). ap mark_at t) o.0));
        reads = λ z. absurd (other z);
      }

  -- a sender that has not ended takes its slot
  pub takes_slot : (slots seat : ℕ) (v : Marking M) → v.role ≡ Sends → v.number < slots
      → Allows (Marked queue) slots seat (v, []) (place v.number) (λ n. n) (λ found me. me ≡ (marks_filling v.queue v.number v.puts v.looks, (v.number, None) ∷ []))
  takes_slot slots seat v sends inside s m len here range =
      let i = v.number in
      let w : Marking M = marks_filling v.queue i v.puts v.looks in
      let mine = m.known seat v here in
      let own = mine.sends sends in
      let lt : i < length s.homes = omega (arith, len) in
      let slot : IsSlotAt queue i is_waiting (get_elem? s.homes i) = subst (λ (t : Stage). IsSlotAt queue i t (get_elem? s.homes i)) own.2 (m.slots_are i lt) in
      let stage : ℕ → Stage = λ k. cond (eqb k i) is_filling (m.stage k) in
      let is_here : stage i ≡ is_filling = ap (λ b. cond b is_filling (m.stage i)) (eq-eqb i i refl) in
      let else : (k : ℕ) → k ≢ i → stage k ≡ m.stage k = λ k ne. ap (λ b. cond b is_filling (m.stage k)) (ne_eqb k i ne) in
      let word : get_or s.words (place i) 0 ≡ 2 * m.puts i + mark_at (stage i) = m.words_are i lt ∙ ap (λ t. 2 * m.puts i + mark_at t) own.2 ∙ ap (λ t. 2 * m.puts i + mark_at t) (sym is_here) in
      let Now : ℕ → Marking M → Type 0 = IsMarked queue m.seat_of stage m.puts m.made m.looks in (
        w,
        takes i None,
        slot,
        record {
          seat_of = m.seat_of;
          stage = stage;
          puts = m.puts;
          made = m.made;
          looks = m.looks;
          a_place_each = omega (arith, m.a_place_each, length-set s.words (place i) (get_or s.words (place i) 0), length-set s.homes i core.none);
          words_are = λ k less. words_set m.stage stage m.puts m.puts i (length s.homes) _ s.words m.a_place_each else (λ k ne. refl) word m.words_are k (rw length-set at less);
          slots_are = slots_set m.stage stage i s.homes core.none else (rw is_here refl) m.slots_are;
          unmade = λ k le. (else k (λ e. omega (arith, own.1)) ∙ (m.unmade k le).0, (m.unmade k le).1);
          has_seat = length_set s.views seat w m.has_seat;
          known = all_set Now s.views seat w
              record {
                of_queue = mine.of_queue;
                sends = λ r. cc;
                fills = λ r. (own.0, own.1, is_here, record { puts_are = own.3.puts_are; since = own.3.since; looks_are = own.3.looks_are; found = own.3.found });
                ended = λ r. cc;
                reads = λ z. absurd (let r = mine.reads z in cc);
              }
              (λ j u apart e.
              let k = m.known j u e in
              known_stays m.seat_of m.stage stage m.puts m.puts m.made m.looks i j u else (λ k ne. refl)
              (λ r. not_his m.seat_of i j seat u.number own.0 apart (k.sends r).0) (λ r. not_his m.seat_of i j seat u.number own.0 apart (k.fills r).0)
              (λ r same. ⊎_elim
              (λ (t : m.stage u.number ≡ is_ended). absurd (let q : is_ended ≡ is_waiting = sym t ∙ ap m.stage same ∙ own.2 in cc))
              (λ (t : m.stage u.number ≡ is_read). absurd (let q : is_read ≡ is_waiting = sym t ∙ ap m.stage same ∙ own.2 in cc)) (k.ended r).0)
              (λ z. ((λ t. let q : is_read ≡ is_waiting = sym t ∙ own.2 in cc), (λ t. let q : is_read ≡ is_filling = sym t ∙ is_here in cc))) k);
        },
        refl,
      )

  -- and gives it back with a pass in it, as it sets its mark
  pub sets_mark : (slots seat : ℕ) (v : Marking M) (pass : PassOf M) → v.role ≡ Fills → v.number < slots → KnowsAll v.queue v.number pass
      → Allows (Marked queue) slots seat (v, (v.number, Some pass) ∷ []) (place v.number) (λ _. 2 * v.puts + 1) (λ found me'. HasMarked v.queue v.number v.puts me')
  sets_mark slots seat v pass fills inside knows s m len here range =
      let i = v.number in
      let w : Marking M = marks_ended v.queue i v.puts m.looks in
      let mine = m.known seat v here in
      let own = mine.fills fills in
      let stage : ℕ → Stage = λ k. cond (eqb k i) is_ended (m.stage k) in
      let is_here : stage i ≡ is_ended = ap (λ b. cond b is_ended (m.stage i)) (eq-eqb i i refl) in
      let else : (k : ℕ) → k ≢ i → stage k ≡ m.stage k = λ k ne. ap (λ b. cond b is_ended (m.stage k)) (ne_eqb k i ne) in
      let word : 2 * v.puts + 1 ≡ 2 * m.puts i + mark_at (stage i) = ap (λ n. 2 * n + 1) (sym own.3.puts_are) ∙ ap (λ t. 2 * m.puts i + mark_at t) (sym is_here) in
      let its : KnowsAll queue i pass = subst (λ (q : SegId Global). KnowsAll q i pass) mine.of_queue knows in
      let slot : IsSlotAt queue i is_ended (core.some (core.some (Some pass))) = (pass, its, refl) in
      let Now : ℕ → Marking M → Type 0 = IsMarked queue m.seat_of stage m.puts m.made m.looks in (
        w,
        gives,
        tt,
        record {
          seat_of = m.seat_of;
          stage = stage;
          puts = m.puts;
          made = m.made;
          looks = m.looks;
          a_place_each = omega (arith, m.a_place_each, length-set s.words (place i) (2 * v.puts + 1), length-set s.homes i (core.some (Some pass)));
          words_are = λ k less. words_set m.stage stage m.puts m.puts i (length s.homes) _ s.words m.a_place_each else (λ k ne. refl) word m.words_are k (rw length-set at less);
          slots_are = slots_set m.stage stage i s.homes (core.some (Some pass)) else (rw is_here slot) m.slots_are;
          unmade = λ k le. (else k (λ e. omega (arith, own.1)) ∙ (m.unmade k le).0, (m.unmade k le).1);
          has_seat = length_set s.views seat w m.has_seat;
          known = all_set Now s.views seat w
              record {
                of_queue = mine.of_queue;
                sends = λ r. cc;
                fills = λ r. cc;
                ended = λ r. (inl is_here, shown_now m.puts m.looks w 1 own.3.puts_are refl);
                reads = λ z. absurd (let r = mine.reads z in cc);
              }
              (λ j u apart e.
              let k = m.known j u e in
              known_stays m.seat_of m.stage stage m.puts m.puts m.made m.looks i j u else (λ k ne. refl)
              (λ r. not_his m.seat_of i j seat u.number own.0 apart (k.sends r).0) (λ r. not_his m.seat_of i j seat u.number own.0 apart (k.fills r).0)
              (λ r same. ⊎_elim
              (λ (t : m.stage u.number ≡ is_ended). absurd (let q : is_ended ≡ is_filling = sym t ∙ ap m.stage same ∙ own.2 in cc))
              (λ (t : m.stage u.number ≡ is_read). absurd (let q : is_read ≡ is_filling = sym t ∙ ap m.stage same ∙ own.2 in cc)) (k.ended r).0)
              (λ z. ((λ t. let q : is_read ≡ is_filling = sym t ∙ own.2 in cc), (λ t. let q : is_read ≡ is_ended = sym t ∙ is_here in cc))) k);
        },
        record { looks = m.looks; me_is = refl },
      )

  -- a sender's word shows one put more
  pub shows_put : (slots seat : ℕ) (v : Marking M) → v.role ≡ Sends → v.number < slots
      → Allows (Marked queue) slots seat (v, []) (place v.number) (λ _. 2 * (v.puts + 1)) (λ found me'. HasShown v.queue v.number (v.puts + 1) me')
  shows_put slots seat v sends inside s m len here range =
      let i = v.number in
      let w : Marking M = marks_sending v.queue i (v.puts + 1) m.looks in
      let mine = m.known seat v here in
      let own = mine.sends sends in
      let puts : ℕ → ℕ = λ k. cond (eqb k i) (v.puts + 1) (m.puts k) in
      let is_here : puts i ≡ v.puts + 1 = ap (λ b. cond b (v.puts + 1) (m.puts i)) (eq-eqb i i refl) in
      let else : (k : ℕ) → k ≢ i → puts k ≡ m.puts k = λ k ne. ap (λ b. cond b (v.puts + 1) (m.puts k)) (ne_eqb k i ne) in
      let word : 2 * (v.puts + 1) ≡ 2 * puts i + mark_at (m.stage i) = omega (arith, is_here, ap mark_at own.2) in
      let Now : ℕ → Marking M → Type 0 = IsMarked queue m.seat_of m.stage puts m.made m.looks in (
        w,
        keeps,
        tt,
        record {
          seat_of = m.seat_of;
          stage = m.stage;
          puts = puts;
          made = m.made;
          looks = m.looks;
          a_place_each = omega (arith, m.a_place_each, length-set s.words (place i) (2 * (v.puts + 1)));
          words_are = words_set m.stage m.stage m.puts puts i (length s.homes) _ s.words m.a_place_each (λ k ne. refl) else word m.words_are;
          slots_are = m.slots_are;
          unmade = λ k le. ((m.unmade k le).0, else k (λ e. omega (arith, own.1)) ∙ (m.unmade k le).1);
          has_seat = length_set s.views seat w m.has_seat;
          known = all_set Now s.views seat w
              record {
                of_queue = mine.of_queue;
                sends = λ r. (own.0, own.1, own.2, shown_now puts m.looks w 0 is_here refl);
                fills = λ r. cc;
                ended = λ r. cc;
                reads = λ z. absurd (let r = mine.reads z in cc);
              }
              (λ j u apart e.
              let k = m.known j u e in
              known_stays m.seat_of m.stage m.stage m.puts puts m.made m.looks i j u (λ k ne. refl) else
              (λ r. not_his m.seat_of i j seat u.number own.0 apart (k.sends r).0) (λ r. not_his m.seat_of i j seat u.number own.0 apart (k.fills r).0)
              (λ r same. ⊎_elim
              (λ (t : m.stage u.number ≡ is_ended). absurd (let q : is_ended ≡ is_waiting = sym t ∙ ap m.stage same ∙ own.2 in cc))
              (λ (t : m.stage u.number ≡ is_read). absurd (let q : is_read ≡ is_waiting = sym t ∙ ap m.stage same ∙ own.2 in cc)) (k.ended r).0)
              (λ z. ((λ t. let q : is_read ≡ is_waiting = sym t ∙ own.2 in cc), (λ t. let q : is_read ≡ is_waiting = sym t ∙ own.2 in cc))) k);
        },
        record { looks = m.looks; me_is = refl },
      )

  -- the receiver looks at a word, and nothing else changes
  looks_only : (v : Marking M) (c : List (ℕ × Option (PassOf M))) (s : State (Option (PassOf M)) (Marking M)) (m : Marked queue s) → get_elem? s.views 0 ≡ core.some v → (i : ℕ) → i < length s.homes
      → Marked queue (stepped s (place i) (get_or s.words (place i) 0) 0 c (reading v.queue v.made v.read (v.looks ++ look_at i (get_or s.words (place i) 0) ∷ [])) keeps)
  looks_only v c s m here i inside =
      let word = get_or s.words (place i) 0 in
      let looks = m.looks ++ look_at i word ∷ [] in
      let w : Marking M = reading v.queue v.made v.read (v.looks ++ look_at i word ∷ []) in
      let mine = m.known 0 v here in
      let own = mine.reads refl in
      let words_are : set s.words (place i) word ≡ s.words = set-get_or s.words (place i) 0 in
      let Now : ℕ → Marking M → Type 0 = IsMarked queue m.seat_of m.stage m.puts m.made looks in
      record {
        seat_of = m.seat_of;
        stage = m.stage;
        puts = m.puts;
        made = m.made;
        looks = looks;
        a_place_each = ap length words_are ∙ m.a_place_each;
        words_are = λ k lt. ap (λ l. get_or l (place k) 0) words_are ∙ m.words_are k lt;
        slots_are = m.slots_are;
        unmade = m.unmade;
        has_seat = length_set s.views 0 w m.has_seat;
        known = all_set Now s.views 0 w
            record {
              of_queue = mine.of_queue;
              sends = λ r. cc;
              fills = λ r. cc;
              ended = λ r. cc;
              reads = λ z. (refl, own.1, ap (λ l. l ++ look_at i word ∷ []) own.2, own.3, own.4);
            }
            (λ j u apart e. known_looked m.seat_of m.stage m.puts m.made m.looks i word j u (m.words_are i inside) apart (m.known j u e));
      }

  -- the receiver looks at a sender's word
  pub looks : (slots : ℕ) (v : Marking M) (c : List (ℕ × Option (PassOf M))) (i : ℕ) → i < slots → (step : Step (Option (PassOf M))) → step.word / 8 ≡ i
      → Allows (Marked queue) slots 0 (v, c) (place i) (λ n. n) (Looked step (v, c))
  looks slots v c i inside step at s m len here range =
      let word = get_or s.words (place i) 0 in (
        reading v.queue v.made v.read (v.looks ++ look_at i word ∷ []),
        keeps,
        tt,
        looks_only v c s m here i (omega (arith, len)),
        ap (λ n. (reading v.queue v.made v.read (v.looks ++ look_at n word ∷ []), c)) (sym at),
      )

  -- the receiver finds the mark in turn set, and takes its slot
  finds : (v : Marking M) (c : List (ℕ × Option (PassOf M))) (s : State (Option (PassOf M)) (Marking M)) (m : Marked queue s) → get_elem? s.views 0 ≡ core.some v → v.read < length s.homes
      → m.stage v.read ≡ is_ended → (step : Step (Option (PassOf M)))
      → (w : Marking M) × (a : Act (Option (PassOf M))) × Valid s.homes c a × Marked queue (stepped s (place v.read) (get_or s.words (place v.read) 0) 0 c w a) × HasRead step (v, c) (get_or s.words (place v.read) 0) (w, carried_after c a)
  finds v c s m here inside is step =
      let i = v.read in
      let word = get_or s.words (place i) 0 in
      let looks = m.looks ++ look_at i word ∷ [] in
      let w : Marking M = reading v.queue v.made (i + 1) (v.looks ++ look_at i word ∷ []) in
      let mine = m.known 0 v here in
      let own = mine.reads refl in
      let slot : IsSlotAt queue i is_ended (get_elem? s.homes i) = subst (λ (t : Stage). IsSlotAt queue i t (get_elem? s.homes i)) is (m.slots_are i inside) in
      let stage : ℕ → Stage = λ k. cond (eqb k i) is_read (m.stage k) in
      let is_here : stage i ≡ is_read = ap (λ b. cond b is_read (m.stage i)) (eq-eqb i i refl) in
      let else : (k : ℕ) → k ≢ i → stage k ≡ m.stage k = λ k ne. ap (λ b. cond b is_read (m.stage k)) (ne_eqb k i ne) in
      let word_is : word ≡ 2 * m.puts i + mark_at (stage i) = m.words_are i inside ∙ ap (λ t. 2 * m.puts i + mark_at t) is ∙ ap (λ t. 2 * m.puts i + mark_at t) (sym is_here) in
      let Now : ℕ → Marking M → Type 0 = IsMarked queue m.seat_of stage m.puts m.made looks in (
        w,
        takes i (Some slot.0),
        slot.2,
        record {
          seat_of = m.seat_of;
          stage = stage;
          puts = m.puts;
          made = m.made;
          looks = looks;
          a_place_each = omega (arith, m.a_place_each, length-set s.words (place i) word, length-set s.homes i core.none);
          words_are = λ k less. words_set m.stage stage m.puts m.puts i (length s.homes) word s.words m.a_place_each else (λ k ne. refl) word_is m.words_are k (rw length-set at less);
          slots_are = slots_set m.stage stage i s.homes core.none else (rw is_here refl) m.slots_are;
          unmade = λ k le. (else k (λ e. let q : is_ended ≡ is_waiting = sym is ∙ ap m.stage (sym e) ∙ (m.unmade k le).0 in cc) ∙ (m.unmade k le).0, (m.unmade k le).1);
          has_seat = length_set s.views 0 w m.has_seat;
          known = all_set Now s.views 0 w
              record {
                of_queue = mine.of_queue;
                sends = λ r. cc;
                fills = λ r. cc;
                ended = λ r. cc;
                reads = λ z. (
                  refl,
                  own.1,
                  ap (λ l. l ++ look_at i word ∷ []) own.2,
                  (λ k lt. dite (ℕ_discrete k i) (λ e. ap stage e ∙ is_here) (λ ne. else k ne ∙ own.3 k (omega arith))),
                  (λ k le t. own.4 k (omega arith) (sym (else k (λ e. omega arith)) ∙ t)),
                );
              }
              (λ j u apart e.
              let k = m.known j u e in
              known_stays m.seat_of m.stage stage m.puts m.puts m.made looks i j u else (λ k ne. refl)
              (λ r same. let q : is_waiting ≡ is_ended = sym (k.sends r).2 ∙ ap m.stage same ∙ is in cc)
              (λ r same. let q : is_filling ≡ is_ended = sym (k.fills r).2 ∙ ap m.stage same ∙ is in cc)
              (λ r same. (is_here, refl)) (λ z. absurd (apart z))
              (known_looked m.seat_of m.stage m.puts m.made m.looks i word j u (m.words_are i inside) apart k));
        },
        record {
          found = λ _. record { pass = slot.0; knows = subst (λ (q : SegId Global). KnowsAll q i slot.0) (sym mine.of_queue) slot.1; me_is = refl };
          live = λ ne. absurd (ne (omega (arith, word_is, ap mark_at is_here)));
        },
      )

  -- the receiver finds that the sender in turn has not ended
  misses : (v : Marking M) (c : List (ℕ × Option (PassOf M))) (s : State (Option (PassOf M)) (Marking M)) (m : Marked queue s) → get_elem? s.views 0 ≡ core.some v → v.read < length s.homes
      → mark_at (m.stage v.read) ≡ 0 → (step : Step (Option (PassOf M)))
      → (w : Marking M) × (a : Act (Option (PassOf M))) × Valid s.homes c a × Marked queue (stepped s (place v.read) (get_or s.words (place v.read) 0) 0 c w a) × HasRead step (v, c) (get_or s.words (place v.read) 0) (w, carried_after c a)
  misses v c s m here inside unset step =
      let i = v.read in
      let word = get_or s.words (place i) 0 in (
        reading v.queue v.made i (v.looks ++ look_at i word ∷ []),
        keeps,
        tt,
        looks_only v c s m here i inside,
        record {
          found = λ one. absurd (omega (arith, m.words_are i inside, unset, one));
          live = λ _. refl;
        },
      )

  reads_at : (v : Marking M) (c : List (ℕ × Option (PassOf M))) (s : State (Option (PassOf M)) (Marking M)) (m : Marked queue s) → get_elem? s.views 0 ≡ core.some v → v.read < length s.homes → (step : Step (Option (PassOf M)))
      → (t : Stage) → m.stage v.read ≡ t
      → (w : Marking M) × (a : Act (Option (PassOf M))) × Valid s.homes c a × Marked queue (stepped s (place v.read) (get_or s.words (place v.read) 0) 0 c w a) × HasRead step (v, c) (get_or s.words (place v.read) 0) (w, carried_after c a)
  reads_at v c s m here inside step is_waiting is = misses v c s m here inside (ap mark_at is) step
  reads_at v c s m here inside step is_filling is = misses v c s m here inside (ap mark_at is) step
  reads_at v c s m here inside step is_ended is = finds v c s m here inside is step
  reads_at v c s m here inside step is_read is = absurd (((m.known 0 v here).reads refl).4 v.read (omega arith) is)

  -- the receiver reads the mark in turn
  pub reads_mark : (slots : ℕ) (v : Marking M) (c : List (ℕ × Option (PassOf M))) → v.read < slots → (step : Step (Option (PassOf M)))
      → Allows (Marked queue) slots 0 (v, c) (place v.read) (λ n. n) (HasRead step (v, c))
  reads_mark slots v c inside step s m len here range = reads_at v c s m here (omega (arith, len)) step (m.stage v.read) refl

  -- the receiver makes the seat of a sender
  pub makes_seat : (v : Marking M) → Splits (Marked queue) 0 v (reading v.queue (v.made + 1) v.read v.looks) (marks_sending v.queue v.made 0 v.looks)
  makes_seat v s m here =
      let left : Marking M = reading v.queue (v.made + 1) v.read v.looks in
      let right : Marking M = marks_sending v.queue v.made 0 v.looks in
      let mine = m.known 0 v here in
      let own = mine.reads refl in
      let after = set s.views 0 left in
      let new = m.unmade v.made (omega (arith, own.1)) in
      let seat_of : ℕ → Option ℕ = λ k. cond (eqb k v.made) (Some (length after)) (m.seat_of k) in
      let before : (k : ℕ) → k < m.made → seat_of k ≡ m.seat_of k = λ k lt. ap (λ b. cond b (Some (length after)) (m.seat_of k)) (ne_eqb k v.made (λ e. omega (arith, own.1))) in
      let Now : ℕ → Marking M → Type 0 = IsMarked queue seat_of m.stage m.puts (v.made + 1) m.looks in
      record {
        seat_of = seat_of;
        stage = m.stage;
        puts = m.puts;
        made = v.made + 1;
        looks = m.looks;
        a_place_each = m.a_place_each;
        words_are = m.words_are;
        slots_are = m.slots_are;
        unmade = λ k le. m.unmade k (omega (arith, own.1));
        has_seat = omega (arith, length-append after (right ∷ []));
        known = all_more Now after right
            record {
              of_queue = mine.of_queue;
              sends = λ _. (ap (λ b. cond b (Some (length after)) (m.seat_of v.made)) (eq-eqb v.made v.made refl), omega arith, new.0, shown_now m.puts m.looks right 0 new.1 own.2);
              fills = λ r. cc;
              ended = λ r. cc;
              reads = λ z. absurd (omega (arith, length_set s.views 0 left m.has_seat));
            }
            (all_set Now s.views 0 left
            record {
              of_queue = mine.of_queue;
              sends = λ r. cc;
              fills = λ r. cc;
              ended = λ r. cc;
              reads = λ z. (refl, refl, own.2, own.3, own.4);
            }
            (λ j u apart e.
            let k = m.known j u e in
            record {
              of_queue = k.of_queue;
              sends = λ r. let o = k.sends r in (before u.number o.1 ∙ o.0, omega (arith, o.1, own.1), o.2, o.3);
              fills = λ r. let o = k.fills r in (before u.number o.1 ∙ o.0, omega (arith, o.1, own.1), o.2, o.3);
              ended = k.ended;
              reads = λ z. absurd (apart z);
            }));
      }

  only : (seat : ℕ) (v : Marking M) → get_elem? (reading queue 0 0 [] ∷ []) seat ≡ core.some v → IsMarked queue (λ _. None) (λ _. is_waiting) (λ _. 0) 0 [] seat v
  only zero v e = subst (IsMarked queue (λ _. None) (λ _. is_waiting) (λ _. 0) 0 [] 0) (core.some-injective (reading queue 0 0 []) v e)
      record {
        of_queue = refl;
        sends = λ r. cc;
        fills = λ r. cc;
        ended = λ r. cc;
        reads = λ z. (refl, refl, refl, (λ k lt. absurd (omega arith)), (λ k le t. cc));
      }
  only (suc seat) v e = absurd (core.some-ne-none v (sym e))

  -- words that are all 0
  pub opens : (words : List ℕ) (n : ℕ) → length words ≡ place n → ((k : ℕ) → k < length words → get_or words k 0 ≡ 0) → Marked {M = M} queue (opening words (replicate n None) (reading queue 0 0 []))
  opens words n long zeros =
      let homes : length {A = core.Option (Option (PassOf M))} _ ≡ n = length-map {A = Option (PassOf M)} (replicate n None) core.some ∙ length-replicate {A = Option (PassOf M)} n None in
      record {
        seat_of = λ _. None;
        stage = λ _. is_waiting;
        puts = λ _. 0;
        made = 0;
        looks = [];
        a_place_each = long ∙ ap place (sym homes);
        words_are = λ k lt. zeros (place k) (omega (arith, long, homes));
        slots_are = λ k lt.
            at_map core.some (replicate n None) k None (at_index (replicate n None) k None (omega (arith, homes, length-replicate {A = Option (PassOf M)} n None)) (sym (get_or-replicate n k None None (omega (arith, homes)))));
        unmade = λ k le. (refl, refl);
        has_seat = omega arith;
        known = only;
      }

  -- the steps as a seat makes them
  pub takes_own_slot : (slots seat : ℕ) (me : Me (Option (PassOf M)) (Marking M)) (q : SegId Global) (sender puts word : ℕ) → HasShown q sender puts me → sender < slots → word ≡ place sender
      → Allows (Marked queue) slots seat me word (λ n. n) (λ found me'. me' ≡ (marks_filling me.0.queue me.0.number me.0.puts me.0.looks, (me.0.number, None) ∷ []))
  takes_own_slot slots seat me q sender puts word h inside at =
      let F : Me (Option (PassOf M)) (Marking M) → ℕ → Type 0 =
      λ m n. Allows (Marked queue) slots seat m n (λ n. n) (λ found me'. me' ≡ (marks_filling m.0.queue m.0.number m.0.puts m.0.looks, (m.0.number, None) ∷ [])) in
      subst (F me) (sym at) (subst (λ (m : Me (Option (PassOf M)) (Marking M)). F m (place sender)) (sym h.me_is) (takes_slot slots seat (marks_sending q sender puts h.looks) refl inside))

  pub sets_own_mark : (slots seat : ℕ) (me : Me (Option (PassOf M)) (Marking M)) (q : SegId Global) (sender puts : ℕ) (looks : List Look) (pass : PassOf M) (word new : ℕ)
      → me ≡ (marks_filling q sender puts looks, (sender, Some pass) ∷ []) → sender < slots → KnowsAll q sender pass → word ≡ place sender → new ≡ 2 * puts + 1
      → Allows (Marked queue) slots seat me word (λ _. new) (λ found me'. HasMarked me.0.queue me.0.number me.0.puts me')
  sets_own_mark slots seat me q sender puts looks pass word new e inside knows at is =
      let F : Me (Option (PassOf M)) (Marking M) → ℕ → ℕ → Type 0 = λ m n k. Allows (Marked queue) slots seat m n (λ _. k) (λ found me'. HasMarked m.0.queue m.0.number m.0.puts me') in
      subst (F me word) (sym is) (subst (λ n. F me n (2 * puts + 1)) (sym at) (subst (λ (m : Me (Option (PassOf M)) (Marking M)). F m (place sender) (2 * puts + 1)) (sym e)
      (sets_mark slots seat (marks_filling q sender puts looks) pass refl inside knows)))

  pub shows_own_put : (slots seat : ℕ) (me : Me (Option (PassOf M)) (Marking M)) (q : SegId Global) (sender puts word new : ℕ) → HasShown q sender puts me → sender < slots → word ≡ place sender → new ≡ 2 * (puts + 1)
      → Allows (Marked queue) slots seat me word (λ _. new) (λ found me'. HasShown me.0.queue me.0.number (me.0.puts + 1) me')
  shows_own_put slots seat me q sender puts word new h inside at is =
      let F : Me (Option (PassOf M)) (Marking M) → ℕ → ℕ → Type 0 = λ m n k. Allows (Marked queue) slots seat m n (λ _. k) (λ found me'. HasShown m.0.queue m.0.number (m.0.puts + 1) me') in
      subst (F me word) (sym is) (subst (λ n. F me n (2 * (puts + 1))) (sym at) (subst (λ (m : Me (Option (PassOf M)) (Marking M)). F m (place sender) (2 * (puts + 1))) (sym h.me_is)
      (shows_put slots seat (marks_sending q sender puts h.looks) refl inside)))

  pub looks_itself : (slots seat : ℕ) (me : Me (Option (PassOf M)) (Marking M)) (sender word : ℕ) → seat ≡ 0 → sender < slots → word ≡ place sender → (step : Step (Option (PassOf M))) → step.word ≡ word
      → Allows (Marked queue) slots seat me word (λ n. n) (Looked step me)
  looks_itself slots seat me sender word first inside at step is =
      let F : ℕ → ℕ → Type 0 = λ i n. Allows (Marked queue) slots i me n (λ n. n) (Looked step me) in
      let eighth : step.word / 8 ≡ sender = omega (arith, is, at) in
      subst (F seat) (sym at) (subst (λ i. F i (place sender)) (sym first) (looks slots me.0 me.1 sender inside step eighth))

  pub reads_own_mark : (slots seat : ℕ) (me : Me (Option (PassOf M)) (Marking M)) (sender word : ℕ) → seat ≡ 0 → me.0.read ≡ sender → sender < slots → word ≡ place sender → (step : Step (Option (PassOf M)))
      → Allows (Marked queue) slots seat me word (λ n. n) (HasRead step me)
  reads_own_mark slots seat me sender word first turn inside at step =
      let F : ℕ → ℕ → Type 0 = λ i n. Allows (Marked queue) slots i me n (λ n. n) (HasRead step me) in
      subst (F seat) (ap place turn ∙ sym at) (subst (λ i. F i (place me.0.read)) (sym first) (reads_mark slots me.0 me.1 (omega (arith, turn)) step))

  pub makes_own_seat : (seat : ℕ) (v : Marking M) → seat ≡ 0 → Splits (Marked queue) seat v (reading v.queue (v.made + 1) v.read v.looks) (marks_sending v.queue v.made 0 v.looks)
  makes_own_seat seat v first =
      let F : ℕ → Type 0 = λ i. Splits (Marked queue) i v (reading v.queue (v.made + 1) v.read v.looks) (marks_sending v.queue v.made 0 v.looks) in
      subst F (sym first) (makes_seat v)

-- the value of the first slot
first_value : {X : Type 0} → X → List (ℕ × X) → X
first_value d [] = d
first_value d (slot ∷ slots) = slot.1

first_slot : {X : Type 0} (i j : ℕ) (x y : X) (xs ys : List (ℕ × X)) → (i, x) ∷ xs ≡ (j, y) ∷ ys → x ≡ y
unfolding first_value
first_slot i j x y xs ys e = ap (first_value x) e

module _ {M : Type 0} where
  -- the slot that was found is in front
  pub found_slot : (me' me : Me (Option (PassOf M)) (Marking M)) (word : ℕ) → FoundMark me word me' → (sender : ℕ) → me.0.read ≡ sender → (x : Option (PassOf M)) × (me'.1 ≡ (sender, x) ∷ rest me'.1)
  found_slot me' me word f sender turn =
      let e : me'.1 ≡ (me.0.read, Some f.pass) ∷ me.1 = ap (λ (m : Me (Option (PassOf M)) (Marking M)). m.1) f.me_is in
      (Some f.pass, e ∙ ap (λ n. (n, Some f.pass) ∷ me.1) turn ∙ ap (λ l. (sender, Some f.pass) ∷ l) (sym (ap rest e)))

  -- what the steps tell, of the queue and the sender that the seat is of
  pub shown_as : (me me' : Me (Option (PassOf M)) (Marking M)) (q : SegId Global) (sender puts : ℕ) → 0 < puts → HasShown q sender (puts - 1) me → HasShown me.0.queue me.0.number (me.0.puts + 1) me' → HasShown q sender puts me'
  shown_as me me' q sender puts some was now =
      let e : me.0 ≡ marks_sending q sender (puts - 1) was.looks = ap (λ (m : Me (Option (PassOf M)) (Marking M)). m.0) was.me_is in
      let one : puts - 1 + 1 ≡ puts = omega (arith, some) in
      record { looks = now.looks; me_is = now.me_is ∙ ap (λ (v : Marking M). (marks_sending v.queue v.number (v.puts + 1) now.looks, [])) e ∙ ap (λ n. (marks_sending q sender n now.looks, [])) one }

  pub looked_as : (me me' : Me (Option (PassOf M)) (Marking M)) (sender at word : ℕ) → at ≡ place sender → me' ≡ (reading me.0.queue me.0.made me.0.read (me.0.looks ++ look_at (at / 8) word ∷ []), me.1)
      → (look : Look) × HasLooked sender me.0.read look me.0 me'.0 × (look.puts ≡ word / 2)
  looked_as me me' sender at word is looked =
      let eighth : at / 8 ≡ sender = omega (arith, is) in
      (look_at (at / 8) word, record { at = eighth; view = ap (λ (m : Me (Option (PassOf M)) (Marking M)). m.0) looked }, refl)

  pub live_as : (me me' : Me (Option (PassOf M)) (Marking M)) (sender word : ℕ) → me.0.read ≡ sender → word % 2 ≢ 1 → me' ≡ (reading me.0.queue me.0.made me.0.read (me.0.looks ++ look_at me.0.read word ∷ []), me.1)
      → (look : Look) × HasLooked sender sender look me.0 me'.0 × (look.ended ≡ false)
  live_as me me' sender word turn unset looked =
      let look = look_at me.0.read word in
      let view : me'.0 ≡ reading me.0.queue me.0.made me.0.read (me.0.looks ++ look ∷ []) = ap (λ (m : Me (Option (PassOf M)) (Marking M)). m.0) looked in
      (look, record { at = turn; view = view ∙ ap (λ n. reading me.0.queue me.0.made n (me.0.looks ++ look ∷ [])) turn }, ne_eqb (word % 2) 1 unset)

  pub found_as : (me me₁ me₂ : Me (Option (PassOf M)) (Marking M)) (q : SegId Global) (sender word : ℕ) (r : Option (PassOf M)) → me.0.read ≡ sender → me.0.queue ≡ q → word % 2 ≡ 1 → FoundMark me word me₁ → me₁.1 ≡ (sender, r) ∷ rest me₁.1 → me₂.0 ≡ me₁.0
      → (pass : PassOf M) × (r ≡ Some pass) × ((look : Look) × HasLooked sender (sender + 1) look me.0 me₂.0 × (look.ended ≡ true) × KnowsAll q sender pass)
  found_as me me₁ me₂ q sender word r turn of set f slot same =
      let look = look_at me.0.read word in
      let view : me₂.0 ≡ reading me.0.queue me.0.made (me.0.read + 1) (me.0.looks ++ look ∷ []) = same ∙ ap (λ (m : Me (Option (PassOf M)) (Marking M)). m.0) f.me_is in
      let slots : me₁.1 ≡ (me.0.read, Some f.pass) ∷ me.1 = ap (λ (m : Me (Option (PassOf M)) (Marking M)). m.1) f.me_is in
      let F : SegId Global → ℕ → Type 0 = λ a n. KnowsAll a n f.pass in (
        f.pass,
        first_slot sender me.0.read r (Some f.pass) (rest me₁.1) me.1 (sym slot ∙ slots),
        (
          look,
          record { at = turn; view = view ∙ ap (λ n. reading me.0.queue me.0.made (n + 1) (me.0.looks ++ look ∷ [])) turn },
          eq-eqb (word % 2) 1 set,
          subst (F q) turn (subst (λ a. F a me.0.read) of f.knows),
        ),
      )
