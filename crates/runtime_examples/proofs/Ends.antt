-- The two senders of a queue, and what is known of their messages at its close.
use Rattle.std.proofs.Common.{◌≡◌, ℕ, ◌+◌, List, [], ◌∷◌, ◌++◌, length, sym, subst, ap, ◌∙◌, refl, arith}
use Rattle.std.specs.Prelude.{Some}
use Rattle.std.specs.List.{All, slice_get}
use Rattle.std.proofs.lemmas.List.{length_push}
use Rattle.std.proofs.lemmas.List.Elements.{All-cons, All-nil, All-head, All-tail}
use mathlib.Core.Logic.{dite}
use native.Mathlib.Decide.{ℕ_discrete}
use Rattle.notify_queue.specs.declared.stamp.Stamped.{Stamped}
use Rattle.notify_queue.specs.Ends.{QueueId, Sending, Receiving, AreAllEnds, AreNewSenders, new_sender}
use Rattle.notify_queue.specs.Stamps.{messages_of}

module _ {M : Type 0} where
  -- taken from the back, the senders of a new queue of two are the second and the first
  pub two_popped : (q : QueueId) (all mid rest : List (Sending M)) (first second : Sending M) → AreNewSenders q 2 all
      → all ≡ mid ++ second ∷ [] → mid ≡ rest ++ first ∷ [] → (first ≡ new_sender q 0) × (second ≡ new_sender q 1)
  two_popped q all mid [] first second new last before =
      let is : all ≡ first ∷ second ∷ [] = last ∙ ap (λ (l : List (Sending M)). l ++ second ∷ []) before in
      let zero_is : Some first ≡ Some (new_sender q 0) = ap (λ (l : List (Sending M)). slice_get l 0) (sym is) ∙ new.1 0 (omega arith) in
      let one_is : Some second ≡ Some (new_sender q 1) = ap (λ (l : List (Sending M)). slice_get l 1) (sym is) ∙ new.1 1 (omega arith) in
      (cc, cc)
  two_popped q all mid (x ∷ rest) first second new last before =
      let inner : length mid ≡ length (x ∷ rest) + 1 = ap (λ (l : List (Sending M)). length l) before ∙ length_push (x ∷ rest) first in
      let outer : length all ≡ length mid + 1 = ap (λ (l : List (Sending M)). length l) last ∙ length_push mid second in
      let two : length all ≡ 2 = new.0 in
      let some : length (x ∷ rest) ≡ length rest + 1 = omega arith in
      absurd (omega (arith, inner, outer, two, some))

  pub two_ends : (r : Receiving M) (first second : Sending M) → r.senders ≡ 2 → first.queue ≡ r.queue → first.number ≡ 0 → second.queue ≡ r.queue → second.number ≡ 1
      → AreAllEnds r (first ∷ second ∷ [])
  two_ends r first second two first_of zero_is second_of one_is =
      let P : Sending M → Type 0 = λ e. e.queue ≡ r.queue in
      record {
        of_queue = All-cons P first (second ∷ []) first_of (All-cons P second [] second_of (All-nil P));
        each = λ s lt. dite (ℕ_discrete s 0)
            (λ e. (0, first, omega arith, refl, zero_is ∙ sym e))
            (λ ne. (1, second, omega arith, refl, omega (arith, one_is, two)));
        as_many = sym two;
      }

  -- what was taken and then what is left is what each of the two put
  pub two_put : (r : Receiving M) (got left : List (Stamped M)) (ends : List (Sending M)) (first second : Sending M)
      → ends ≡ first ∷ second ∷ [] → All (λ e. messages_of e.number r.taken ++ messages_of e.number left ≡ e.sent) ends
      → r.taken ≡ got → first.number ≡ 0 → second.number ≡ 1
      → (messages_of 0 got ++ messages_of 0 left ≡ first.sent) × (messages_of 1 got ++ messages_of 1 left ≡ second.sent)
  two_put r got left ends first second are whole is zero_is one_is =
      let P : Sending M → Type 0 = λ e. messages_of e.number r.taken ++ messages_of e.number left ≡ e.sent in
      let both : All P (first ∷ second ∷ []) = subst (λ (l : List (Sending M)). All P l) are whole in
      let of_first : P first = All-head P first (second ∷ []) both in
      let of_second : P second = All-head P second [] (All-tail P first (second ∷ []) both) in (
        ap (λ (n : ℕ). messages_of n got ++ messages_of n left) (sym zero_is) ∙ (ap (λ (l : List (Stamped M)). messages_of first.number l ++ messages_of first.number left) (sym is) ∙ of_first),
        ap (λ (n : ℕ). messages_of n got ++ messages_of n left) (sym one_is) ∙ (ap (λ (l : List (Stamped M)). messages_of second.number l ++ messages_of second.number left) (sym is) ∙ of_second),
      )
