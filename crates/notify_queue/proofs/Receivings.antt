-- What a receiver knows stays so after its steps.
use Rattle.std.proofs.Common.{◌≡◌, ◌≢◌, ℕ, ◌+◌, ◌<◌, ◌≤◌, List, [], ◌∷◌, ◌++◌, length, map, get_or, set, true, false, sym, refl, ap, ◌∙◌, subst, append_assoc, append-nil, arith}
use Rattle.std.specs.List.{All, Any}
use Rattle.std.specs.Arc.{arc_value}
use Rattle.std.specs.Global.{Vec}
use Rattle.std.proofs.Common.{get_or-set_same, get_or-set_other}
use Rattle.std.proofs.Math.ListN.{length-set}
use Rattle.std.proofs.lemmas.List.{length-append}
use Rattle.std.proofs.lemmas.List.Elements.{All-push}
use Rattle.std.proofs.lemmas.List.Quantifiers.{Any-push}
use mathlib.Core.List.{IsPrefix}
use mathlib.Core.Logic.{dite}
use native.Mathlib.Decide.{dec_le, ℕ_discrete}
use Rattle.atomic_table.specs.declared.shared.Seat.{Seat}
use Rattle.std.specs.Prelude.{Option}
use Rattle.crossbeam_queue.specs.SegTies.{IsSegPassOf}
use Rattle.notify_queue.specs.declared.delivery.Knowledge.{Knowledge}
use Rattle.notify_queue.specs.declared.delivery.EndedSender.{EndedSender}
use Rattle.notify_queue.specs.declared.marks.Look.{Look}
use Rattle.notify_queue.specs.declared.marks.Marking.{Marking}
use Rattle.notify_queue.specs.declared.receiver.Receiver.TheInside.{Inside}
use Rattle.notify_queue.specs.declared.stamp.Stamped.{Stamped}
use Rattle.notify_queue.specs.Delivery.{Takes, Shows, receiving, ended_sender}
use Rattle.notify_queue.specs.Ends.{Receiving, Sending, HasEnded, HasTaken, IsDrained, ShowsNoMore, FoundNoMore, whole_of}
use Rattle.notify_queue.specs.Marks.{KnowsAll, HasLooked, reading}
use Rattle.notify_queue.specs.Passes.{PassOf, IsFirstPassOf, known_by}
use Rattle.notify_queue.specs.Receivers.{AreCounts, IsReceiver, receiving_of}
use Rattle.notify_queue.specs.Stamps.{messages_of}
use Rattle.notify_queue.proofs.Histories.{messages_of-append, messages_of-same, messages_of-other, length-messages_of-le}
use Rattle.notify_queue.proofs.Lists.{all_any, Any-front}

abbrev pub SeatOf : Type 0 → Type 0
SeatOf M = Seat (Option (PassOf M)) (Marking M)

module _ {M : Type 0} where
  -- messages more, each counted for its sender
  pub counts_more : (n : ℕ) (counts now : List ℕ) (taken xs : List (Stamped M)) → AreCounts n counts taken → length now ≡ length counts
      → ((s : ℕ) → s < length counts → get_or now s 0 ≡ get_or counts s 0 + length (messages_of s xs)) → AreCounts n now (taken ++ xs)
  counts_more n counts now taken xs a same each = record {
    as_many = same ∙ a.as_many;
    count_is = λ s lt. omega (arith, each s (omega (arith, a.as_many)), a.count_is s lt, ap length (messages_of-append s taken xs), length-append (messages_of s taken) (messages_of s xs));
  }

  -- one message more
  pub counts_one : (n : ℕ) (counts : List ℕ) (taken : List (Stamped M)) (x : Stamped M) → AreCounts n counts taken → x.stamp.sender < n
      → AreCounts n (set counts x.stamp.sender (get_or counts x.stamp.sender 0 + 1)) (taken ++ x ∷ [])
  counts_one n counts taken x a from =
      let i = x.stamp.sender in
      let new = get_or counts i 0 + 1 in
      record {
        as_many = length-set counts i new ∙ a.as_many;
        count_is = λ s lt. dite (ℕ_discrete s i)
            (λ e.
            let inside : i < length counts = omega (arith, a.as_many) in
            let here : get_or (set counts i new) i 0 ≡ new = rw get_or-set_same in
            let F : ℕ → Type 0 = λ k. get_or (set counts i new) k 0 ≡ length (messages_of k (taken ++ x ∷ [])) in
            subst F (sym e) (here ∙ omega (arith, a.count_is i from, ap length (messages_of-same i taken x refl), length-append (messages_of i taken) (x.message ∷ []))))
            (λ ne.
            let else : get_or (set counts i new) s 0 ≡ get_or counts s 0 = rw get_or-set_other in
            else ∙ a.count_is s lt ∙ ap length (sym (messages_of-other s taken x (λ e. ne (sym e)))));
      }

  -- a count is small
  pub count_small : (n : ℕ) (counts : List ℕ) (taken : List (Stamped M)) (s : ℕ) → AreCounts n counts taken → s < n → get_or counts s 0 ≤ length taken
  count_small n counts taken s a lt = omega (arith, a.count_is s lt, length-messages_of-le s taken)

  -- a message that was taken is of one of the senders
  pub from_sender : (r : Inside M) (p : PassOf M) (x : Stamped M) → IsReceiver r → Takes (known_by r.pass) (x ∷ []) (known_by p) → x.stamp.sender < r.senders
  from_sender r p x i takes =
      let made : (known_by r.pass).made ≡ r.senders = ap (λ w. w.made) i.knows in
      rw made at (takes.from_senders 0 x (omega arith))

  pub from_counted : (r : Inside M) (p : PassOf M) (xs : List (Stamped M)) → IsReceiver r → Takes (known_by r.pass) xs (known_by p) → All (λ x. x.stamp.sender < length r.counts.items) xs
  from_counted r p xs i takes =
      let made : (known_by r.pass).made ≡ length r.counts.items = ap (λ w. w.made) i.knows ∙ sym i.counts.as_many in
      rw made at takes.from_senders

  -- there is room in a count for as many messages as were taken
  pub count_room : (r : Inside M) (p : PassOf M) (xs : List (Stamped M)) → IsReceiver r → Takes (known_by r.pass) xs (known_by p) → (s : ℕ) → s < length r.counts.items → get_or r.counts.items s 0 + length xs < 9223372036854775808
  count_room r p xs i takes s lt =
      omega (arith, count_small r.senders r.counts.items (known_by r.pass).taken s i.counts (omega (arith, i.counts.as_many)), takes.few, length-append (known_by r.pass).taken xs)

  -- a pass that knows the same
  pub same_keeps : (r : Inside M) (p : PassOf M) → IsReceiver r → IsFirstPassOf (arc_value r.channel).line p → known_by p ≡ known_by r.pass → IsReceiver (record r { pass = p })
  same_keeps r p i of same = record {
    pass_of = of.0;
    first_pass = of.1;
    knows = rw same i.knows;
    count = rw same i.count;
    counts = rw same i.counts;
    few = rw same i.few;
    in_order = rw same i.in_order;
    seat_of = i.seat_of;
    first_seat = i.first_seat;
    seat_knows = i.seat_knows;
    slot_each = i.slot_each;
    found = i.found;
    ended = rw same i.ended;
    ended_below = rw same i.ended_below;
  }

  -- a pass that knows of more messages that were taken
  pub takes_keeps : (r : Inside M) (p : PassOf M) (counts : Vec ℕ) (n : ℕ) (xs : List (Stamped M)) → IsReceiver r → IsFirstPassOf (arc_value r.channel).line p → Takes (known_by r.pass) xs (known_by p)
      → AreCounts r.senders counts.items ((known_by r.pass).taken ++ xs) → n ≡ r.taken + length xs → IsReceiver (record r { pass = p; taken = n; counts = counts })
  takes_keeps r p counts n xs i of takes are so_many =
      let v = known_by r.pass in
      let e = takes.view in
      let made : v.made ≡ r.senders = ap (λ w. w.made) i.knows in
      record {
        pass_of = of.0;
        first_pass = of.1;
        knows = rw (e, made) refl;
        count = rw e (omega (arith, so_many, i.count, length-append v.taken xs));
        counts = rw e are;
        few = rw e takes.few;
        in_order = rw e takes.in_order;
        seat_of = i.seat_of;
        first_seat = i.first_seat;
        seat_knows = i.seat_knows;
        slot_each = i.slot_each;
        found = i.found;
        ended = rw e i.ended;
        ended_below = rw e i.ended_below;
      }

  -- the blocks that it keeps don't matter
  pub other_blocks : (r : Inside M) (blocks : List (Option (Stamped M))) → IsReceiver r → IsReceiver (record r { blocks = blocks })
  other_blocks r blocks i = record {
    pass_of = i.pass_of;
    first_pass = i.first_pass;
    knows = i.knows;
    count = i.count;
    counts = i.counts;
    few = i.few;
    in_order = i.in_order;
    seat_of = i.seat_of;
    first_seat = i.first_seat;
    seat_knows = i.seat_knows;
    slot_each = i.slot_each;
    found = i.found;
    ended = i.ended;
    ended_below = i.ended_below;
  }

  -- how contracts see that
  pub takes_seen : (r : Inside M) (p : PassOf M) (counts : Vec ℕ) (n : ℕ) (xs : List (Stamped M)) (m : Receiving M) → IsReceiver r → Takes (known_by r.pass) xs (known_by p) → receiving_of r ≡ m
      → HasTaken m xs (receiving_of (record r { pass = p; taken = n; counts = counts }))
  takes_seen r p counts n xs m i takes is =
      let v = known_by r.pass in
      let new = receiving_of (record r { pass = p; taken = n; counts = counts }) in
      let made : v.made ≡ r.senders = ap (λ w. w.made) i.knows in
      let view : new ≡ record (receiving_of r) { taken = v.taken ++ xs } =
      ap (λ (w : Knowledge M). record (receiving_of r) { taken = w.taken; ended = w.ended }) takes.view in
      subst (λ (q : Receiving M). HasTaken q xs new) is record {
        view = view;
        in_order = rw takes.view takes.in_order;
        from_senders = rw made at takes.from_senders;
        within = rw takes.view takes.within;
      }

  -- a pass that knows the same, at an empty queue
  pub none_seen : (r : Inside M) (p : PassOf M) (m : Receiving M) → known_by p ≡ known_by r.pass → Shows (known_by r.pass) [] → receiving_of r ≡ m
      → (receiving_of (record r { pass = p }) ≡ m) × IsDrained (receiving_of (record r { pass = p }))
  none_seen r p m same shows is =
      let keeps : receiving_of (record r { pass = p }) ≡ receiving_of r = ap (λ (v : Knowledge M). record (receiving_of r) { taken = v.taken; ended = v.ended }) same in
      (keeps ∙ is, subst (λ (n : Receiving M). IsDrained n) (sym keeps) (rw append-nil at shows.whole))

  -- a seat that has made a look more
  pub looked_keeps : (r : Inside M) (seat : SeatOf M) (sender : ℕ) (look : Look) → IsReceiver r → seat.table_id ≡ r.seat.table_id → seat.id ≡ 0
      → HasLooked sender r.seat.me.0.read look r.seat.me.0 seat.me.0 → IsReceiver (record r { seat = seat })
  looked_keeps r seat sender look i same first h =
      let line = (arc_value r.channel).line in
      let view : seat.me.0 ≡ reading line r.senders r.found (r.seat.me.0.looks ++ look ∷ []) = h.view ∙ ap (λ (v : Marking M). reading v.queue v.made v.read (v.looks ++ look ∷ [])) i.seat_knows in
      record {
        pass_of = i.pass_of;
        first_pass = i.first_pass;
        knows = i.knows;
        count = i.count;
        counts = i.counts;
        few = i.few;
        in_order = i.in_order;
        seat_of = same ∙ i.seat_of;
        first_seat = first;
        seat_knows = view ∙ ap (reading line r.senders r.found) (sym (ap (λ (v : Marking M). v.looks) view));
        slot_each = rw same i.slot_each;
        found = i.found;
        ended = i.ended;
        ended_below = i.ended_below;
      }

  -- a seat and a pass that know of one sender more that has ended
  ended_keeps : (r : Inside M) (seat : SeatOf M) (p : PassOf M) (put : List M) (look : Look) → IsReceiver r → r.found < r.senders → seat.table_id ≡ r.seat.table_id → seat.id ≡ 0
      → HasLooked r.found (r.found + 1) look r.seat.me.0 seat.me.0 → IsFirstPassOf (arc_value r.channel).line p
      → known_by p ≡ receiving (known_by r.pass).made ((known_by r.pass).ended ++ ended_sender r.found put ∷ []) (known_by r.pass).taken
      → IsReceiver (record r { pass = p; seat = seat; found = r.found + 1 })
  ended_keeps r seat p put look i more same first h of joins =
      let line = (arc_value r.channel).line in
      let view : seat.me.0 ≡ reading line r.senders (r.found + 1) (r.seat.me.0.looks ++ look ∷ []) = h.view ∙ ap (λ (v : Marking M). reading v.queue v.made (r.found + 1) (v.looks ++ look ∷ [])) i.seat_knows in
      let senders : (known_by r.pass).made ≡ r.senders = ap (λ w. w.made) i.knows in
      let es = (known_by r.pass).ended in
      let e = ended_sender r.found put in
      record {
        pass_of = of.0;
        first_pass = of.1;
        knows = rw (joins, senders) refl;
        count = rw joins i.count;
        counts = rw joins i.counts;
        few = rw joins i.few;
        in_order = rw joins i.in_order;
        seat_of = same ∙ i.seat_of;
        first_seat = first;
        seat_knows = view ∙ ap (reading line r.senders (r.found + 1)) (sym (ap (λ (v : Marking M). v.looks) view));
        slot_each = rw same i.slot_each;
        found = omega arith;
        ended = rw joins (λ s lt. dite (ℕ_discrete s r.found)
            (λ is. Any-push (λ (u : EndedSender M). u.sender ≡ s) es e (sym is))
            (λ ne. Any-front (λ (u : EndedSender M). u.sender ≡ s) es (e ∷ []) (i.ended s (omega arith))));
        ended_below = rw joins (All-push (λ (u : EndedSender M). u.sender < r.found + 1) es e (λ k d lt. let h = i.ended_below k d lt in omega (arith, h)) (omega arith));
      }

  -- what a look tells of a pass, it tells of the receiver
  pub shows_as : (v : Knowledge M) (made : ℕ) (es : List (EndedSender M)) (xs : List (Stamped M)) → v.made ≡ made → v.ended ≡ es → v.taken ≡ xs → Shows v [] → Shows (receiving made es xs) []
  shows_as v made es xs m e t s =
      let F : ℕ × (List (EndedSender M) × List (Stamped M)) → Type 0 = λ x. Shows (receiving x.0 x.1.0 x.1.1) [] in
      let plain : Shows (receiving v.made v.ended v.taken) [] = record {
        history = s.history;
        lawful = s.lawful;
        taken_is = s.taken_is;
        put_is = s.put_is;
        whole = s.whole;
        from_senders = s.from_senders;
        short = s.short;
        few = s.few;
      } in
      subst F (λ i. (m i, (e i, t i))) plain

  -- a receiver that has found all ended has no mark to read
  pub all_found : (r : Inside M) → IsReceiver r → HasEnded (receiving_of r) → r.found ≡ r.senders
  all_found r i all = dite (dec_le r.senders r.found)
      (λ le. omega (arith, i.found))
      (λ lt. let t = all_any {P = λ (u : EndedSender M). u.sender < r.found} {Q = λ (u : EndedSender M). u.sender ≡ r.found} (known_by r.pass).ended i.ended_below (all r.found (omega arith)) in
      absurd (omega (arith, t.1, t.2)))

  -- what a receiver was, and what it is after it has read some marks, each of which was set
  pub record GoesOn (old new : Inside M) : Type 0 where
    pub knows : IsReceiver new
    pub channel : new.channel ≡ old.channel
    pub senders : new.senders ≡ old.senders
    pub taken : (known_by new.pass).taken ≡ (known_by old.pass).taken
    pub looks : List Look
    pub looked : new.seat.me.0.looks ≡ old.seat.me.0.looks ++ looks
    pub all_ended : All (λ look. look.ended ≡ true) looks
    pub more : IsPrefix (known_by old.pass).ended (known_by new.pass).ended
    pub stays : old.found ≡ old.senders → (new.found ≡ old.found) × (receiving_of new ≡ receiving_of old)

  pub goes_not : (r : Inside M) → IsReceiver r → GoesOn r r
  goes_not r i = record {
    knows = i;
    channel = refl;
    senders = refl;
    taken = refl;
    looks = [];
    looked = sym (append-nil r.seat.me.0.looks);
    all_ended = λ k d lt. absurd (omega arith);
    more = ([], append-nil (known_by r.pass).ended);
    stays = λ _. (refl, refl);
  }

  pub goes_on : (old r : Inside M) (seat : SeatOf M) (p q : PassOf M) (look : Look) → GoesOn old r → r.found < r.senders → seat.table_id ≡ r.seat.table_id → seat.id ≡ 0
      → HasLooked r.found (r.found + 1) look r.seat.me.0 seat.me.0 → look.ended ≡ true → KnowsAll (arc_value r.channel).line r.found q → IsFirstPassOf (arc_value r.channel).line p
      → known_by p ≡ receiving (known_by r.pass).made ((known_by r.pass).ended ++ (known_by q).ended) (known_by r.pass).taken
      → GoesOn old (record r { pass = p; seat = seat; found = r.found + 1 })
  goes_on old r seat p q look before lt same first h set knows of joins =
      let es = (known_by r.pass).ended in
      let joins' : known_by p ≡ receiving (known_by r.pass).made (es ++ ended_sender r.found knows.put ∷ []) (known_by r.pass).taken =
      joins ∙ ap (λ (v : Knowledge M). receiving (known_by r.pass).made (es ++ v.ended) (known_by r.pass).taken) knows.view in
      record {
        knows = ended_keeps r seat p knows.put look before.knows lt same first h of joins';
        channel = before.channel;
        senders = before.senders;
        taken = rw joins' before.taken;
        looks = before.looks ++ look ∷ [];
        looked = ap (λ (v : Marking M). v.looks) h.view ∙ ap (λ l. l ++ look ∷ []) before.looked ∙ append_assoc old.seat.me.0.looks before.looks (look ∷ []);
        all_ended = All-push (λ (l : Look). l.ended ≡ true) before.looks look before.all_ended set;
        more = rw joins' (before.more.0 ++ ended_sender r.found knows.put ∷ [], sym (append_assoc (known_by old.pass).ended before.more.0 (ended_sender r.found knows.put ∷ [])) ∙ ap (λ l. l ++ ended_sender r.found knows.put ∷ []) before.more.1);
        stays = λ all. absurd (let h = before.stays all in omega (arith, h.0, all, before.senders));
      }

  -- a receiver that looks at one sender's word after another, and finds no more there than was taken
  pub record LooksOn (r : Inside M) (seat : SeatOf M) (count : ℕ) : Type 0 where
    pub knows : IsReceiver (record r { seat = seat })
    pub looks : List Look
    pub looked : seat.me.0.looks ≡ r.seat.me.0.looks ++ looks
    pub no_more : (s : ℕ) → s < count → Any (ShowsNoMore (receiving_of r) s) looks

  pub looks_not : (r : Inside M) → IsReceiver r → LooksOn r r.seat 0
  looks_not r i = record { knows = i; looks = []; looked = sym (append-nil r.seat.me.0.looks); no_more = λ s lt. absurd (omega arith) }

  pub looks_on : (r : Inside M) (seat next : SeatOf M) (sender : ℕ) (look : Look) → LooksOn r seat sender → sender < r.senders → next.table_id ≡ seat.table_id → next.id ≡ 0
      → HasLooked sender seat.me.0.read look seat.me.0 next.me.0 → look.puts ≤ get_or r.counts.items sender 0 → LooksOn r next (sender + 1)
  looks_on r seat next sender look before lt same first h few =
      let shows : ShowsNoMore (receiving_of r) sender look = (h.at, omega (arith, few, before.knows.counts.count_is sender lt)) in
      record {
        knows = looked_keeps (record r { seat = seat }) next sender look before.knows same first h;
        looks = before.looks ++ look ∷ [];
        looked = ap (λ (v : Marking M). v.looks) h.view ∙ ap (λ l. l ++ look ∷ []) before.looked ∙ append_assoc r.seat.me.0.looks before.looks (look ∷ []);
        no_more = λ s less. dite (ℕ_discrete s sender)
            (λ e. Any-push (ShowsNoMore (receiving_of r) s) before.looks look (subst (λ k. ShowsNoMore (receiving_of r) k look) (sym e) shows))
            (λ ne. Any-front (ShowsNoMore (receiving_of r) s) before.looks (look ∷ []) (before.no_more s (omega arith)));
      }

  pub looks_before : (r : Inside M) (m : Receiving M) (seat next : SeatOf M) (sender count : ℕ) (look : Look) → LooksOn r seat count → HasLooked sender seat.me.0.read look seat.me.0 next.me.0 → receiving_of r ≡ m
      → IsPrefix m.looks next.me.0.looks
  looks_before r m seat next sender count look before h is =
      let made : next.me.0.looks ≡ seat.me.0.looks ++ look ∷ [] = ap (λ (v : Marking M). v.looks) h.view in
      subst (λ (q : Receiving M). IsPrefix q.looks next.me.0.looks) is
      (before.looks ++ look ∷ [], sym (append_assoc r.seat.me.0.looks before.looks (look ∷ [])) ∙ ap (λ l. l ++ look ∷ []) (sym before.looked) ∙ sym made)

  pub looks_all : (r n : Inside M) (m : Receiving M) (count : ℕ) → n ≡ record r { seat = n.seat } → LooksOn r n.seat count → r.senders ≤ count → receiving_of r ≡ m → FoundNoMore m (receiving_of n)
  looks_all r n m count e l all is =
      let now : Receiving M = record (receiving_of r) { looks = n.seat.me.0.looks } in
      let view : receiving_of n ≡ now = ap receiving_of e in
      let found : FoundNoMore (receiving_of r) now = record { looks = l.looks; looked = l.looked; no_more = λ s lt. l.no_more s (omega arith) } in
      subst (λ (q : Receiving M). FoundNoMore q (receiving_of n)) is (subst (λ (q : Receiving M). FoundNoMore (receiving_of r) q) (sym view) found)

  -- how contracts see it
  pub counted : (r : Inside M) (m : Receiving M) → IsReceiver r → receiving_of r ≡ m → r.taken ≡ length m.taken
  counted r m i e = i.count ∙ ap (λ (m : Receiving M). length m.taken) e

  pub closes_of : (r : Inside M) (m : Receiving M) (ends : List (Sending M)) (rest : List (Stamped M)) → IsReceiver r → receiving_of r ≡ m
      → Shows (receiving (known_by r.pass).made ((known_by r.pass).ended ++ map whole_of ends) ((known_by r.pass).taken ++ rest)) []
      → Shows (receiving m.senders (m.ended ++ map whole_of ends) (m.taken ++ rest)) []
  closes_of r m ends rest i e shows =
      let v = known_by r.pass in
      let F : ℕ → Type 0 = λ n. Shows (receiving n (v.ended ++ map whole_of ends) (v.taken ++ rest)) [] in
      let G : Receiving M → Type 0 = λ m. Shows (receiving m.senders (m.ended ++ map whole_of ends) (m.taken ++ rest)) [] in
      subst G e (subst F (ap (λ (w : Knowledge M). w.made) i.knows) shows)
