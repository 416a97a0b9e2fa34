-- What the receiver knows of all messages, once it has taken in all ends and then found the queue empty.
use Rattle.std.proofs.Common.{◌≡◌, ◌≢◌, ℕ, zero, suc, ◌+◌, ◌^◌, ◌<◌, ◌≤◌, cond, eqb, List, [], ◌∷◌, ◌++◌, length, map, get_or, sym, refl, ap, ◌∙◌, append-nil, arith}
use Rattle.std.specs.List.{All, sum_by}
use Rattle.std.proofs.lemmas.Bool.{eq-eqb, ne_eqb}
use Rattle.std.proofs.lemmas.List.{length-append, length-map, nil_from_length}
use Rattle.std.proofs.lemmas.List.Elements.{All-nil, All-cons, All-rest}
use Rattle.std.proofs.lemmas.List.Sums.{sum_by-cons, sum_by-append}
use mathlib.Core.Logic.{dite}
use native.Mathlib.Decide.{ℕ_discrete}
use Rattle.notify_queue.specs.declared.delivery.EndedSender.{EndedSender}
use Rattle.notify_queue.specs.declared.stamp.Stamped.{Stamped}
use Rattle.notify_queue.specs.Delivery.{Shows, receiving}
use Rattle.notify_queue.specs.Ends.{Receiving, Sending, IsDry, AreAllEnds, whole_of}
use Rattle.notify_queue.specs.Stamps.{stamped_of, messages_of, IsInOrder}
use Rattle.notify_queue.proofs.Counts.{sum_below, sum_below-none, length-by_sender, weight-by_sender, length-few}
use Rattle.notify_queue.proofs.Histories.{messages_of-append}
use Rattle.notify_queue.proofs.Lists.{All-first, All-front, All-back, all_any}

-- how often a number stands in the list
times : ℕ → List ℕ → ℕ
times s [] = 0
times s (n ∷ ns) = cond (eqb n s) 1 0 + times s ns

times_here : (s n : ℕ) (ns : List ℕ) → n ≡ s → times s (n ∷ ns) ≡ times s ns + 1
unfolding times
times_here s n ns e = omega (arith, ap {B = ℕ} (λ b. cond b 1 0) (eq-eqb n s e))

times_else : (s n : ℕ) (ns : List ℕ) → n ≢ s → times s (n ∷ ns) ≡ times s ns
unfolding times
times_else s n ns ne = omega (arith, ap {B = ℕ} (λ b. cond b 1 0) (ne_eqb n s ne))

times_some : (s : ℕ) (ns : List ℕ) (k : ℕ) → k < length ns → get_or ns k s ≡ s → 0 < times s ns
times_some s [] k lt e = absurd (omega arith)
times_some s (n ∷ ns) zero lt e = omega (arith, times_here s n ns e)
times_some s (n ∷ ns) (suc k) lt e = dite (ℕ_discrete n s) (λ h. omega (arith, times_here s n ns h)) (λ ne. omega (arith, times_else s n ns ne, times_some s ns k (omega arith) e))

-- the list without one place of a number
record Without (f : ℕ → ℕ) (m : ℕ) (ns : List ℕ) : Type 0 where
  others : List ℕ
  shorter : length ns ≡ length others + 1
  lighter : sum_by f ns ≡ sum_by f others + f m
  elsewhere : (s : ℕ) → s ≢ m → times s ns ≡ times s others

without : (f : ℕ → ℕ) (m : ℕ) (ns : List ℕ) → 0 < times m ns → Without f m ns
without f m [] some = absurd (let h : times m [] ≡ 0 = unfold times in refl in omega (arith, h))
without f m (n ∷ ns) some = dite (ℕ_discrete n m)
    (λ e. record {
      others = ns;
      shorter = omega arith;
      lighter = omega (arith, sum_by-cons f n ns, ap f e);
      elsewhere = λ s ne. times_else s n ns (λ h. ne (sym h ∙ e));
    })
    (λ ne.
    let w = without f m ns (omega (arith, times_else m n ns ne)) in
    record {
      others = n ∷ w.others;
      shorter = omega (arith, w.shorter);
      lighter = omega (arith, sum_by-cons f n ns, sum_by-cons f n w.others, w.lighter);
      elsewhere = λ s other. dite (ℕ_discrete n s)
          (λ h. omega (arith, times_here s n ns h, times_here s n w.others h, w.elsewhere s other))
          (λ h. omega (arith, times_else s n ns h, times_else s n w.others h, w.elsewhere s other));
    })

-- as many numbers as n, with each below n among them, are those below n
covers : (f : ℕ → ℕ) (n : ℕ) (ns : List ℕ) → length ns ≡ n → ((s : ℕ) → s < n → 0 < times s ns) → sum_by f ns ≡ sum_below f n
covers f zero [] e each = unfold sum_below in refl
covers f zero (k ∷ ns) e each = absurd (omega arith)
covers f (suc n) ns e each =
    let w = without f n ns (each n (omega arith)) in
    let h = covers f n w.others (omega (arith, w.shorter, e)) (λ s lt. let t = each s (omega arith) in omega (arith, w.elsewhere s (λ same. omega arith))) in
    let step : sum_below f (suc n) ≡ sum_below f n + f n = unfold sum_below in refl in
    omega (arith, w.lighter, h, step)

sum_by-map : {X : Type 0} (f : ℕ → ℕ) (g : X → ℕ) (h : X → ℕ) (xs : List X) → All (λ x. h x ≡ f (g x)) xs → sum_by h xs ≡ sum_by f (map g xs)
sum_by-map f g h [] all = refl
sum_by-map f g h (x ∷ xs) all =
    let first : h x ≡ f (g x) = all 0 x (omega arith) in
    omega (arith, sum_by-cons h x xs, sum_by-cons f (g x) (map g xs), first, sum_by-map f g h xs (λ k d lt. all (suc k) d (omega arith)))

All-of_map : {X Y : Type 0} (P : Y → Type 0) (f : X → Y) (xs : List X) → All P (map f xs) → All (λ x. P (f x)) xs
All-of_map P f [] all k d lt = absurd (omega arith)
All-of_map P f (x ∷ xs) all zero d lt = all 0 (f d) (omega arith)
All-of_map P f (x ∷ xs) all (suc k) d lt = All-of_map P f xs (λ i e h. all (suc i) e (omega arith)) k d (omega arith)

none : {A : Type 0} (xs ys : List A) → xs ++ ys ≡ xs → length ys ≡ 0
none xs ys e = omega (arith, ap length e, length-append xs ys)

-- the number of the end at a place
number_at : {M : Type 0} (ends : List (Sending M)) (k s : ℕ) (e : Sending M) → k < length ends → get_or ends k e ≡ e → e.number ≡ s → get_or (map (λ x. x.number) ends) k s ≡ s
number_at [] k s e lt at is = absurd (omega arith)
number_at (x ∷ ends) zero s e lt at is = ap (λ (y : Sending _). y.number) at ∙ is
number_at (x ∷ ends) (suc k) s e lt at is = number_at ends k s e (omega arith) at is

module _ {M : Type 0} where
  -- what the receiver knows once it has taken in the ends and taken the rest
  abbrev pub Closes : Receiving M → List (Sending M) → List (Stamped M) → Type 0
  Closes r ends rest = Shows (receiving r.senders (r.ended ++ map whole_of ends) (r.taken ++ rest)) []

  pub from_senders : (r : Receiving M) (ends : List (Sending M)) (rest : List (Stamped M)) → Closes r ends rest → All (λ x. x.stamp.sender < r.senders) (r.taken ++ rest)
  from_senders r ends rest c = rw append-nil at c.from_senders

  pub few : (r : Receiving M) (ends : List (Sending M)) (rest : List (Stamped M)) → Closes r ends rest → length (r.taken ++ rest) ≤ 2 ^ 38
  few r ends rest c =
      length-few r.senders (r.taken ++ rest) c.few (from_senders r ends rest c) (λ s. rw append-nil at (c.short s))

  -- all that was put by the senders
  put_by : (r : Receiving M) (ends : List (Sending M)) (rest : List (Stamped M)) → Closes r ends rest → All (λ t. messages_of t.sender (r.taken ++ rest) ≡ t.put) (r.ended ++ map whole_of ends)
  put_by r ends rest c = rw append-nil at c.whole

  pub whole : (r : Receiving M) (ends : List (Sending M)) (rest : List (Stamped M)) → Closes r ends rest → All (λ e. messages_of e.number (r.taken ++ rest) ≡ e.sent) ends
  whole r ends rest c =
      let P : EndedSender M → Type 0 = λ t. messages_of t.sender (r.taken ++ rest) ≡ t.put in
      All-of_map P whole_of ends (All-back P r.ended (map whole_of ends) (put_by r ends rest c))

  -- what is so much for each end is so much for each sender
  all_senders : (r : Receiving M) (ends : List (Sending M)) → AreAllEnds r ends → (f : ℕ → ℕ) (g : Sending M → ℕ) → All (λ e. g e ≡ f e.number) ends → sum_by g ends ≡ sum_below f r.senders
  all_senders r ends all f g same =
      let numbers : List ℕ = map (λ (e : Sending M). e.number) ends in
      let weights : sum_by g ends ≡ sum_by f numbers = sum_by-map f (λ (e : Sending M). e.number) g ends same in
      let some : (s : ℕ) → s < r.senders → 0 < times s numbers = λ s lt. let e = all.each s lt in
      times_some s numbers e.0 (omega (arith, e.2, length-map ends (λ (e : Sending M). e.number))) (number_at ends e.0 s e.1 e.2 e.3 e.4) in
      weights ∙ covers f r.senders numbers (length-map ends (λ (e : Sending M). e.number) ∙ all.as_many) some

  pub total : (r : Receiving M) (ends : List (Sending M)) (rest : List (Stamped M)) → AreAllEnds r ends → Closes r ends rest → length (r.taken ++ rest) ≡ sum_by (λ e. length e.sent) ends
  total r ends rest all c =
      let xs = r.taken ++ rest in
      length-by_sender r.senders xs (from_senders r ends rest c)
      ∙ sym (all_senders r ends all (λ s. length (messages_of s xs)) (λ (e : Sending M). length e.sent) (λ k d lt. sym (ap length (whole r ends rest c k d lt))))

  pub account : (r : Receiving M) (ends : List (Sending M)) (rest : List (Stamped M)) → AreAllEnds r ends → Closes r ends rest → (weight : M → ℕ)
      → sum_by (λ x. weight x.message) r.taken + sum_by (λ x. weight x.message) rest ≡ sum_by (λ e. sum_by weight e.sent) ends
  account r ends rest all c weight =
      let xs = r.taken ++ rest in
      sym (sum_by-append (λ (x : Stamped M). weight x.message) r.taken rest) ∙ weight-by_sender weight r.senders xs (from_senders r ends rest c)
      ∙ sym (all_senders r ends all (λ s. sum_by weight (messages_of s xs)) (λ (e : Sending M). sum_by weight e.sent) (λ k d lt. sym (ap (sum_by weight) (whole r ends rest c k d lt))))

  pub dry : (r : Receiving M) (ends : List (Sending M)) (rest : List (Stamped M)) → Closes r ends rest → IsDry r → rest ≡ []
  dry r ends rest c d =
      let P : EndedSender M → Type 0 = λ t. messages_of t.sender (r.taken ++ rest) ≡ t.put in
      let known = All-front P r.ended (map whole_of ends) (put_by r ends rest c) in
      let nothing : (s : ℕ) → s < r.senders → length (messages_of s rest) ≡ 0 = λ s lt.
      let t = all_any {P = λ (t : EndedSender M). (messages_of t.sender (r.taken ++ rest) ≡ t.put) × (messages_of t.sender r.taken ≡ t.put)} {Q = λ (t : EndedSender M). t.sender ≡ s}
      r.ended (λ k e h. (known k e h, d.drained k e h)) (d.ended s lt) in
      rw (← t.2) (none (messages_of t.0.sender r.taken) (messages_of t.0.sender rest) (sym (messages_of-append t.0.sender r.taken rest) ∙ t.1.0 ∙ sym t.1.1)) in
      let below = All-back (λ (x : Stamped M). x.stamp.sender < r.senders) r.taken rest (from_senders r ends rest c) in
      nil_from_length rest (length-by_sender r.senders rest below ∙ sum_below-none (λ s. length (messages_of s rest)) r.senders nothing)

  pub in_order : (r : Receiving M) (ends : List (Sending M)) (rest : List (Stamped M)) → Closes r ends rest → IsInOrder (r.taken ++ rest)
  in_order r ends rest c = rw append-nil at (rw c.put_is at c.lawful.in_order)

  -- what holds of each sender's messages holds of all
  All-by_sender : (Q : M → Type 0) (n : ℕ) (xs : List (Stamped M)) → All (λ x. x.stamp.sender < n) xs → ((s : ℕ) → s < n → All Q (messages_of s xs)) → All (λ x. Q x.message) xs
  All-by_sender Q n [] below each = All-nil (λ (y : Stamped M). Q y.message)
  All-by_sender Q n (x ∷ xs) below each =
      let P : List (Stamped M) → List M = map (λ (y : Stamped M). y.message) in
      let from : x.stamp.sender < n = below 0 x (omega arith) in
      let here : messages_of x.stamp.sender (x ∷ xs) ≡ x.message ∷ messages_of x.stamp.sender xs =
      ap (λ b. P (cond b (x ∷ stamped_of x.stamp.sender xs) (stamped_of x.stamp.sender xs))) (eq-eqb x.stamp.sender x.stamp.sender refl) in
      let first : Q x.message = All-first Q (messages_of x.stamp.sender (x ∷ xs)) x.message (messages_of x.stamp.sender xs) here (each x.stamp.sender from) in
      let others : (s : ℕ) → s < n → All Q (messages_of s xs) = λ s lt. dite (ℕ_discrete x.stamp.sender s)
      (λ e. All-rest Q x.message (messages_of s xs) (messages_of s (x ∷ xs)) (ap (λ b. P (cond b (x ∷ stamped_of s xs) (stamped_of s xs))) (eq-eqb x.stamp.sender s e)) (each s lt))
      (λ ne. let same : messages_of s (x ∷ xs) ≡ messages_of s xs = ap (λ b. P (cond b (x ∷ stamped_of s xs) (stamped_of s xs))) (ne_eqb x.stamp.sender s ne) in rw same at (each s lt)) in
      All-cons (λ (y : Stamped M). Q y.message) x xs first (All-by_sender Q n xs (λ k d lt. below (suc k) d (omega arith)) others)

  pub each_message : (r : Receiving M) (ends : List (Sending M)) (rest : List (Stamped M)) → AreAllEnds r ends → Closes r ends rest
      → (Q : M → Type 0) → All (λ e. All Q e.sent) ends → All (λ x. Q x.message) (r.taken ++ rest)
  each_message r ends rest all c Q sent =
      All-by_sender Q r.senders (r.taken ++ rest) (from_senders r ends rest c) (λ s lt.
      let e = all_any {P = λ (e : Sending M). (messages_of e.number (r.taken ++ rest) ≡ e.sent) × All Q e.sent} {Q = λ (e : Sending M). e.number ≡ s}
      ends (λ k d h. (whole r ends rest c k d h, sent k d h)) (all.each s lt) in
      rw (← e.2, e.1.0) e.1.1)
