-- Each step on the queue keeps its rule.
use Rattle.std.proofs.Common.{◌≡◌, ◌≢◌, ℕ, zero, suc, ◌+◌, ◌^◌, ◌<◌, ◌≤◌, true, true≢false, cond, eqb, List, [], ◌∷◌, ◌++◌, length, map, take, get_or, Option, Some, None, sym, refl, ap, ◌∙◌, subst, ⊎_elim, append_assoc, append-nil, set, arith}
use Rattle.std.specs.List.{All}
use Rattle.std.proofs.lemmas.Bool.{eq-eqb, ne_eqb}
use Rattle.std.proofs.lemmas.List.{length-append}
use Rattle.std.proofs.lemmas.List.Elements.{All-append, All-nil}
use mathlib.Core.List.{IsPrefix}
use mathlib.Core.Option.{some, some-injective, some-ne-none}
use mathlib.Core.Logic.{dite}
use native.Mathlib.Decide.{ℕ_discrete}
use lib.ListN.{get_elem?}
use Rattle.crossbeam_queue.specs.Fifo.{Pushes, Pops, PopsMany, Forks, Merges, Admits, Learns}
use Rattle.crossbeam_queue.proofs.Lists.{at_set}
use Rattle.notify_queue.specs.declared.delivery.Knowledge.{Knowledge}
use Rattle.notify_queue.specs.declared.delivery.EndedSender.{EndedSender}
use Rattle.notify_queue.specs.declared.stamp.Stamped.{Stamped}
use Rattle.notify_queue.specs.Delivery.{Delivers, IsKnown, IsWhole, Takes, Shows, idle, sending, ending, receiving, ended_sender}
use Rattle.notify_queue.specs.History.{Event, put, taken, puts, takes}
use Rattle.notify_queue.specs.Stamps.{stamped_of, messages_of}
use Rattle.notify_queue.proofs.Counts.{length-few}
use Rattle.queue_packets.proofs.Views.{some_is, none_some, all_set, all_more}
use Rattle.notify_queue.proofs.Lists.{All-one, All-front, All-back, length_set}
use Rattle.notify_queue.proofs.Histories.{puts-append, takes-append, messages_of-append, messages_of-same, messages_of-other, in_order_front, puts-taken, takes-taken, lawful_put, lawful_takes}

-- of a sender that is yet to be made there are no messages
none_of : {M : Type 0} (s : ℕ) (xs : List (Stamped M)) → All (λ x. x.stamp.sender < s) xs → messages_of s xs ≡ []
none_of s [] all = refl
none_of s (x ∷ xs) all =
    let first : x.stamp.sender < s = all 0 x (omega arith) in
    ap (λ b. map (λ (y : Stamped _). y.message) (cond b (x ∷ stamped_of s xs) (stamped_of s xs))) (ne_eqb x.stamp.sender s (λ e. omega arith))
    ∙ none_of s xs (λ k d lt. all (suc k) d (omega arith))

module _ {M : Type 0} where
  -- what is known of senders that have ended stays so where they keep their messages
  whole_stays : (h k : List (Event M)) (p q : ℕ → Option ℕ) (m n : ℕ) (ts : List (EndedSender M)) → m ≤ n
      → ((t : EndedSender M) → IsWhole h p m t → (q t.sender ≡ None) × (messages_of t.sender (puts k) ≡ messages_of t.sender (puts h))) → All (IsWhole h p m) ts → All (IsWhole k q n) ts
  whole_stays h k p q m n ts le same all i d lt =
      let t = get_or ts i d in
      let was = all i d lt in
      let is = same t was in
      record { ended = is.0; made_before = omega (arith, was.made_before); whole = is.1 ∙ was.whole }

  -- a sender puts a message
  pub pushes : (n pass : ℕ) (v : Knowledge M) (x : Stamped M) → v.sends ≡ true → x.stamp.sender ≡ v.number → x.stamp.index ≡ length v.put → length v.put + 1 < 2 ^ 32
      → Pushes Delivers n pass v x (λ w. w ≡ sending v.number (v.put ++ x.message ∷ []))
  pushes n pass v x may from at room items views _ d here =
      let w : Knowledge M = sending v.number (v.put ++ x.message ∷ []) in
      let mine = (d.known pass v here).sends may in
      let history = d.history ++ put x ∷ [] in
      let put_is : puts history ≡ puts d.history ++ x ∷ [] = puts-append d.history (put x ∷ []) in
      let taken_is : takes history ≡ takes d.history = takes-append d.history (put x ∷ []) ∙ append-nil (takes d.history) in
      let own : messages_of v.number (puts history) ≡ v.put ++ x.message ∷ [] =
      ap (messages_of v.number) put_is ∙ messages_of-same v.number (puts d.history) x from ∙ ap (λ l. l ++ x.message ∷ []) mine.2 in
      let others : (s : ℕ) → s ≢ v.number → messages_of s (puts history) ≡ messages_of s (puts d.history) =
      λ s ne. ap (messages_of s) put_is ∙ messages_of-other s (puts d.history) x (λ e. ne (sym e ∙ from)) in
      let none : (t : EndedSender M) → IsWhole d.history d.pass_of d.made t → (d.pass_of t.sender ≡ None) × (messages_of t.sender (puts history) ≡ messages_of t.sender (puts d.history)) =
      λ t is. (is.ended, others t.sender (λ e. none_some (sym is.ended ∙ ap d.pass_of e ∙ mine.0))) in
      let Now : ℕ → Knowledge M → Type 0 = IsKnown history d.pass_of d.made in (
        w,
        record {
          history = history;
          pass_of = d.pass_of;
          made = d.made;
          lawful = lawful_put d.history x d.lawful (at ∙ ap length (sym mine.2 ∙ ap (λ s. messages_of s (puts d.history)) (sym from)));
          held = put_is ∙ ap (λ l. l ++ x ∷ []) d.held ∙ append_assoc (takes d.history) items (x ∷ []) ∙ ap (λ l. l ++ (items ++ x ∷ [])) (sym taken_is);
          few = d.few;
          from_senders = rw put_is (All-append (λ (y : Stamped M). y.stamp.sender < d.made) (puts d.history) (x ∷ []) d.from_senders
              (All-one (λ (y : Stamped M). y.stamp.sender < d.made) x (rw from mine.1)));
          short = λ s. dite (ℕ_discrete s v.number)
              (λ same. rw (ap (λ n. messages_of n (puts history)) same ∙ own, length-append v.put (x.message ∷ [])) room)
              (λ other. rw (others s other) (d.short s));
          has_pass = length_set views pass w d.has_pass;
          known = all_set Now views pass w
              record {
                sends = λ _. (mine.0, mine.1, own);
                ended = All-nil (IsWhole history d.pass_of d.made);
                receives = λ first. absurd (true≢false (sym may ∙ ((d.known pass v here).receives first).0));
              }
              (λ j u apart e.
              let k = d.known j u e in
              record {
                sends = λ s. let o = k.sends s in (o.0, o.1, others u.number (λ same. apart (some_is (sym o.0 ∙ ap d.pass_of same ∙ mine.0))) ∙ o.2);
                ended = whole_stays d.history history d.pass_of d.pass_of d.made d.made u.ended (omega arith) none k.ended;
                receives = λ first. let o = k.receives first in (o.0, o.1 ∙ sym taken_is, o.2);
              });
        },
        refl,
      )

  -- the receiver takes messages in front
  pub pops_many : (v : Knowledge M) (n : ℕ) → PopsMany Delivers 0 v n (Takes v)
  pops_many v n xs items views _ d here =
      let w : Knowledge M = receiving v.made v.ended (v.taken ++ xs) in
      let mine = (d.known 0 v here).receives refl in
      let history = d.history ++ map taken xs in
      let put_is : puts history ≡ puts d.history = puts-append d.history (map taken xs) ∙ ap (λ l. puts d.history ++ l) (puts-taken xs) ∙ append-nil (puts d.history) in
      let taken_is : takes history ≡ takes d.history ++ xs = takes-append d.history (map taken xs) ∙ ap (λ l. takes d.history ++ l) (takes-taken xs) in
      let held : puts d.history ≡ (v.taken ++ xs) ++ items = d.held ∙ ap (λ l. l ++ (xs ++ items)) (sym mine.1) ∙ sym (append_assoc v.taken xs items) in
      let lawful = lawful_takes d.history xs items d.lawful d.held in
      let same : (s : ℕ) → messages_of s (puts history) ≡ messages_of s (puts d.history) = λ s. ap (messages_of s) put_is in
      let stays : (t : EndedSender M) → IsWhole d.history d.pass_of d.made t → (d.pass_of t.sender ≡ None) × (messages_of t.sender (puts history) ≡ messages_of t.sender (puts d.history)) =
      λ t is. (is.ended, same t.sender) in
      let ended = whole_stays d.history history d.pass_of d.pass_of d.made d.made v.ended (omega arith) stays (d.known 0 v here).ended in
      let senders : All (λ (y : Stamped M). y.stamp.sender < d.made) ((v.taken ++ xs) ++ items) = rw held at d.from_senders in
      let Now : ℕ → Knowledge M → Type 0 = IsKnown history d.pass_of d.made in (
        w,
        record {
          history = history;
          pass_of = d.pass_of;
          made = d.made;
          lawful = lawful;
          held = put_is ∙ held ∙ ap (λ l. (l ++ xs) ++ items) mine.1 ∙ ap (λ l. l ++ items) (sym taken_is);
          few = d.few;
          from_senders = rw put_is d.from_senders;
          short = λ s. rw (same s) (d.short s);
          has_pass = length_set views 0 w d.has_pass;
          known = all_set Now views 0 w
              record {
                sends = λ s. absurd (true≢false (sym s));
                ended = ended;
                receives = λ _. (refl, ap (λ l. l ++ xs) mine.1 ∙ sym taken_is, mine.2);
              }
              (λ j u apart e.
              let k = d.known j u e in
              record {
                sends = λ s. let o = k.sends s in (o.0, o.1, same u.number ∙ o.2);
                ended = whole_stays d.history history d.pass_of d.pass_of d.made d.made u.ended (omega arith) stays k.ended;
                receives = λ first. absurd (apart first);
              });
        },
        record {
          view = refl;
          in_order = in_order_front (v.taken ++ xs) items (rw held at d.lawful.in_order);
          few =
              let all = length-few d.made (puts d.history) d.few d.from_senders d.short in
              omega (arith, all, ap length held, length-append (v.taken ++ xs) items);
          from_senders = rw mine.2 (All-back (λ (y : Stamped M). y.stamp.sender < d.made) v.taken xs (All-front (λ (y : Stamped M). y.stamp.sender < d.made) (v.taken ++ xs) items senders));
          within = λ i e lt.
              let t = get_or v.ended i e in
              let is = (d.known 0 v here).ended i e lt in
              (messages_of t.sender items, sym (messages_of-append t.sender (v.taken ++ xs) items) ∙ ap (messages_of t.sender) (sym held) ∙ is.whole);
        },
      )

  -- the message in front
  pub pops : (v : Knowledge M) → Pops Delivers 0 v (λ x w. Takes v (x ∷ []) w)
  pops v x items views d here = pops_many v 1 (x ∷ []) items views refl d here

  -- a pass that knows nothing may come
  pub admits : Admits {T = Stamped M} Delivers idle
  admits items views d =
      let Now : ℕ → Knowledge M → Type 0 = IsKnown d.history d.pass_of d.made in
      record {
        history = d.history;
        pass_of = d.pass_of;
        made = d.made;
        lawful = d.lawful;
        held = d.held;
        few = d.few;
        from_senders = d.from_senders;
        short = d.short;
        has_pass = omega (arith, d.has_pass, length-append views (idle ∷ []));
        known = all_more Now views idle
            record {
              sends = λ s. absurd (true≢false (sym s));
              ended = All-nil (IsWhole d.history d.pass_of d.made);
              receives = λ first. absurd (omega (arith, first, d.has_pass));
            }
            d.known;
      }

  -- the receiver looks at what the queue holds
  pub shows : (v : Knowledge M) → Learns Delivers 0 v (Shows v)
  shows v items views d here =
      let mine = (d.known 0 v here).receives refl in
      let put_is : puts d.history ≡ v.taken ++ items = d.held ∙ ap (λ l. l ++ items) (sym mine.1) in
      record {
        history = d.history;
        lawful = d.lawful;
        taken_is = sym mine.1;
        put_is = put_is;
        whole = λ i e lt. ap (messages_of (get_or v.ended i e).sender) (sym put_is) ∙ ((d.known 0 v here).ended i e lt).whole;
        from_senders = rw (← put_is, mine.2) d.from_senders;
        short = λ s. rw (← put_is) (d.short s);
        few = rw mine.2 d.few;
      }

  -- the receiver makes a sender
  pub makes : (v : Knowledge M) → v.made < 64 → Forks Delivers 0 v (receiving (v.made + 1) v.ended v.taken) (sending v.made [])
  makes v room items views d here =
      let left : Knowledge M = receiving (v.made + 1) v.ended v.taken in
      let right : Knowledge M = sending v.made [] in
      let mine = (d.known 0 v here).receives refl in
      let after = set views 0 left in
      let pass_of : ℕ → Option ℕ = λ s. cond (eqb s v.made) (Some (length after)) (d.pass_of s) in
      let before : (s : ℕ) → s < d.made → pass_of s ≡ d.pass_of s = λ s lt. ap (λ b. cond b (Some (length after)) (d.pass_of s)) (ne_eqb s v.made (λ e. omega (arith, mine.2))) in
      let stays : (t : EndedSender M) → IsWhole d.history d.pass_of d.made t → (pass_of t.sender ≡ None) × (messages_of t.sender (puts d.history) ≡ messages_of t.sender (puts d.history)) =
      λ t is. (before t.sender is.made_before ∙ is.ended, refl) in
      let Now : ℕ → Knowledge M → Type 0 = IsKnown d.history pass_of (v.made + 1) in
      record {
        history = d.history;
        pass_of = pass_of;
        made = v.made + 1;
        lawful = d.lawful;
        held = d.held;
        few = omega arith;
        from_senders = λ i e lt. let was = d.from_senders i e lt in omega (arith, was, mine.2);
        short = d.short;
        has_pass = omega (arith, length-append after (right ∷ []));
        known = all_more Now after right
            record {
              sends = λ _. (ap (λ b. cond b (Some (length after)) (d.pass_of v.made)) (eq-eqb v.made v.made refl), omega arith, none_of v.made (puts d.history) (rw mine.2 d.from_senders));
              ended = All-nil (IsWhole d.history pass_of (v.made + 1));
              receives = λ first. absurd (omega (arith, length_set views 0 left d.has_pass));
            }
            (all_set Now views 0 left
            record {
              sends = λ s. absurd (true≢false (sym s));
              ended = whole_stays d.history d.history d.pass_of pass_of d.made (v.made + 1) v.ended (omega (arith, mine.2)) stays (d.known 0 v here).ended;
              receives = λ _. (refl, mine.1, refl);
            }
            (λ j u apart e.
            let k = d.known j u e in
            record {
              sends = λ s. let o = k.sends s in (before u.number o.1 ∙ o.0, omega (arith, o.1, mine.2), o.2);
              ended = whole_stays d.history d.history d.pass_of pass_of d.made (v.made + 1) u.ended (omega (arith, mine.2)) stays k.ended;
              receives = λ first. absurd (apart first);
            }));
      }

  -- a sender ends
  pub ends : (pass : ℕ) (v : Knowledge M) → v.sends ≡ true → Forks Delivers pass v (ending v.number v.put) (ending v.number v.put)
  ends pass v may items views d here =
      let w : Knowledge M = ending v.number v.put in
      let mine = (d.known pass v here).sends may in
      let after = set views pass w in
      let pass_of : ℕ → Option ℕ = λ s. cond (eqb s v.number) None (d.pass_of s) in
      let here_none : pass_of v.number ≡ None = ap (λ b. cond b None (d.pass_of v.number)) (eq-eqb v.number v.number refl) in
      let else_same : (s : ℕ) → s ≢ v.number → pass_of s ≡ d.pass_of s = λ s ne. ap (λ b. cond b None (d.pass_of s)) (ne_eqb s v.number ne) in
      let stays : (t : EndedSender M) → IsWhole d.history d.pass_of d.made t → (pass_of t.sender ≡ None) × (messages_of t.sender (puts d.history) ≡ messages_of t.sender (puts d.history)) =
      λ t is. (else_same t.sender (λ e. none_some (sym is.ended ∙ ap d.pass_of e ∙ mine.0)) ∙ is.ended, refl) in
      let ended = All-one (IsWhole d.history pass_of d.made) (ended_sender v.number v.put) record { ended = here_none; made_before = mine.1; whole = mine.2 } in
      let Now : ℕ → Knowledge M → Type 0 = IsKnown d.history pass_of d.made in
      record {
        history = d.history;
        pass_of = pass_of;
        made = d.made;
        lawful = d.lawful;
        held = d.held;
        few = d.few;
        from_senders = d.from_senders;
        short = d.short;
        has_pass = omega (arith, length-append after (w ∷ []));
        known = all_more Now after w
            record {
              sends = λ s. absurd (true≢false (sym s));
              ended = ended;
              receives = λ first. absurd (omega (arith, length_set views pass w d.has_pass));
            }
            (all_set Now views pass w
            record {
              sends = λ s. absurd (true≢false (sym s));
              ended = ended;
              receives = λ first. absurd (true≢false (sym may ∙ ((d.known pass v here).receives first).0));
            }
            (λ j u apart e.
            let k = d.known j u e in
            record {
              sends = λ s. let o = k.sends s in (else_same u.number (λ same. apart (some_is (sym o.0 ∙ ap d.pass_of same ∙ mine.0))) ∙ o.0, o.1, o.2);
              ended = whole_stays d.history d.history d.pass_of pass_of d.made d.made u.ended (omega arith) stays k.ended;
              receives = k.receives;
            }));
      }

  -- the receiver takes in the pass of a sender that has ended
  pub joins : (v : Knowledge M) (other : ℕ) (u : Knowledge M) → Merges Delivers 0 v other u (receiving v.made (v.ended ++ u.ended) v.taken) idle
  joins v other u items views d here two there =
      let both : Knowledge M = receiving v.made (v.ended ++ u.ended) v.taken in
      let mine = d.known 0 v here in
      let after = set views 0 both in
      let was : get_elem? views other ≡ some u = ⊎_elim (λ (x : (other ≡ 0) × (both ≡ u)). absurd (two x.0)) (λ (x : (other ≢ 0) × (get_elem? views other ≡ some u)). x.1) (at_set views 0 other both u there) in
      let Now : ℕ → Knowledge M → Type 0 = IsKnown d.history d.pass_of d.made in
      record {
        history = d.history;
        pass_of = d.pass_of;
        made = d.made;
        lawful = d.lawful;
        held = d.held;
        few = d.few;
        from_senders = d.from_senders;
        short = d.short;
        has_pass = length_set after other idle (length_set views 0 both d.has_pass);
        known = all_set Now after other idle
            record {
              sends = λ s. absurd (true≢false (sym s));
              ended = All-nil (IsWhole d.history d.pass_of d.made);
              receives = λ first. absurd (two first);
            }
            (λ j y _ e. all_set Now views 0 both
            record {
              sends = λ s. absurd (true≢false (sym s));
              ended = All-append (IsWhole d.history d.pass_of d.made) v.ended u.ended mine.ended (d.known other u was).ended;
              receives = λ first. let r = mine.receives first in (refl, r.1, r.2);
            }
            (λ i z _ at. d.known i z at) j y e);
      }

no_moment : {M : Type 0} (n : ℕ) → IsPrefix (takes {M = M} (take n [])) (puts (take n []))
no_moment zero = ([], refl)
no_moment (suc n) = ([], refl)

knows_nothing : {M : Type 0} (pass : ℕ) (v : Knowledge M) → get_elem? (idle ∷ []) pass ≡ some v → IsKnown [] (λ _. None) 0 pass v
knows_nothing {M} zero v e = subst (IsKnown [] (λ _. None) 0 0) (some-injective idle v e)
    record {
      sends = λ s. absurd (true≢false (sym s));
      ended = All-nil (IsWhole {M = M} [] (λ _. None) 0);
      receives = λ _. (refl, refl, refl);
    }
knows_nothing (suc pass) v e = absurd (some-ne-none v (sym e))

-- a queue in which nothing was put
pub begins : {M : Type 0} → Delivers {M = M} [] (idle ∷ [])
begins {M} = record {
  history = [];
  pass_of = λ _. None;
  made = 0;
  lawful = record { in_order = record { index_is = λ s k x e. cc }; oldest_first = no_moment };
  held = refl;
  few = omega arith;
  from_senders = All-nil (λ (x : Stamped M). x.stamp.sender < 0);
  short = λ s. omega arith;
  has_pass = omega arith;
  known = knows_nothing;
}
