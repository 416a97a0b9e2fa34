-- Posters that are taken one by one, and ends that come back one by one.
use Rattle.std.proofs.Common.{◌≡◌, ℕ, zero, suc, ◌<◌, ◌≤◌, List, [], ◌∷◌, ◌++◌, length, length-append, refl, sym, ap, ◌∙◌, subst, arith, All}
use Rattle.std.specs.Prelude.{slice_get, Some}
use Rattle.std.specs.List.{Any, sum_by}
use Rattle.std.proofs.lemmas.List.{get_or_append_left}
use Rattle.std.proofs.lemmas.List.Sums.{sum_by-append}
use Rattle.std.proofs.lemmas.List.Elements.{All-nil, All-push}
use Rattle.std.proofs.lemmas.Option.{same_Some}
use Rattle.std.proofs.lemmas.List.Quantifiers.{Any-push}
use mathlib.Core.Logic.{dite}
use native.Mathlib.Decide.{ℕ_discrete}
use Rattle.fan_base.specs.declared.number.ExecId.{ExecId}
use Rattle.job_trait.specs.declared.job.Head.{Head}
use Rattle.notify_queue.specs.Ends.{AreAllEnds, AreNewSenders, QueueId, Receiving, Sending, new_sender}
use Rattle.event_base.specs.Closing.{AreOn}
use Rattle.run_bases.specs.Columns.{AreBack, IsEndOf}

get_front : {X : Type 0} (xs ys : List X) (k : ℕ) → k < length xs → slice_get (xs ++ ys) k ≡ slice_get xs k
get_front [] ys k lt = absurd (omega (arith, lt))
get_front (x ∷ xs) ys zero lt = refl
get_front (x ∷ xs) ys (suc k) lt = get_front xs ys k (omega (arith, lt))

get_last : {X : Type 0} (xs : List X) (y : X) → slice_get (xs ++ y ∷ []) (length xs) ≡ Some y
get_last [] y = refl
get_last (x ∷ xs) y = get_last xs y

any_front : {X : Type 0} (P : X → Type 0) (xs : List X) (y : X) → Any P xs → Any P (xs ++ y ∷ [])
any_front P xs y a = (a.0, a.1, omega (arith, a.2, length-append xs (y ∷ [])), get_or_append_left xs (y ∷ []) a.1 a.0 a.2 ∙ a.3, a.4)

module _ {J : Type 0} where
  -- the last of some unused posters
  pub last_poster : (queue : QueueId) (left : ℕ) (posters : List (Sending J)) (p : Sending J) → AreNewSenders queue (suc left) (posters ++ p ∷ [])
      → (p ≡ new_sender queue left) × AreNewSenders queue left posters
  last_poster queue left posters p new =
      let many : length posters ≡ left = omega (arith, new.0, length-append posters (p ∷ [])) in
      let last : Some p ≡ Some (new_sender queue left) = sym (get_last posters p) ∙ (ap (slice_get (posters ++ p ∷ [])) many ∙ new.1 left (omega arith)) in
      (same_Some p (new_sender queue left) last, (many, λ number below. sym (get_front posters (p ∷ []) number (omega (arith, many, below))) ∙ new.1 number (omega (arith, below))))

module _ {J : Type 0} where
  pub sent_push : (ends : List (Sending J)) (e : Sending J) → sum_by (λ (x : Sending J). length x.sent) ends ≡ 0 → e.sent ≡ [] → sum_by (λ (x : Sending J). length x.sent) (ends ++ e ∷ []) ≡ 0
  sent_push ends e none unused = omega (arith, sum_by-append (λ (x : Sending J). length x.sent) ends (e ∷ []), none, ap length unused)

module _ {J : Type 0} (head : J → Head) where
  pub unused_end : (queue : QueueId) (number : ℕ) (exec : ExecId) (e : Sending J) → e ≡ new_sender queue number → IsEndOf head queue number exec e
  unused_end queue number exec e is = subst (λ (x : Sending J). IsEndOf head queue number exec x) (sym is) record { queue_is = refl; number_is = refl; on_base = All-nil (λ job. (head job).exec ≡ exec) }

  pub back_none : (queue : QueueId) (exec : ExecId) (senders : ℕ) → AreBack head queue exec senders senders []
  back_none queue exec senders = record {
    of_queue = All-nil (λ (e : Sending J). e.queue ≡ queue);
    on_base = All-nil (λ (e : Sending J). All (λ job. (head job).exec ≡ exec) e.sent);
    each = λ number from to. absurd (omega (arith, from, to));
    as_many = omega arith;
  }

  pub back_more : (queue : QueueId) (exec : ExecId) (senders low : ℕ) (ends : List (Sending J)) (e : Sending J) → AreBack head queue exec senders (suc low) ends
      → IsEndOf head queue low exec e → AreBack head queue exec senders low (ends ++ e ∷ [])
  back_more queue exec senders low ends e back is = record {
    of_queue = All-push (λ (x : Sending J). x.queue ≡ queue) ends e back.of_queue is.queue_is;
    on_base = All-push (λ (x : Sending J). All (λ job. (head job).exec ≡ exec) x.sent) ends e back.on_base is.on_base;
    each = λ number from to. each_of number from to;
    as_many = omega (arith, back.as_many, length-append ends (e ∷ []));
  }
    where
      each_of : (number : ℕ) → low ≤ number → number < senders → Any (λ (x : Sending J). x.number ≡ number) (ends ++ e ∷ [])
      each_of number from to = dite (ℕ_discrete low number)
          (λ same. Any-push (λ (x : Sending J). x.number ≡ number) ends e (is.number_is ∙ same))
          (λ other. any_front (λ (x : Sending J). x.number ≡ number) ends e (back.each number (omega (arith, from, other)) to))

  pub all_back : (queue : QueueId) (exec : ExecId) (senders : ℕ) (ends : List (Sending J)) (base : Receiving J) → AreBack head queue exec senders 0 ends
      → base.queue ≡ queue → base.senders ≡ senders → AreAllEnds base ends × AreOn head exec ends
  all_back queue exec senders ends base back queue_is senders_are = (
    record {
      of_queue = subst (λ (q : QueueId). All (λ (e : Sending J). e.queue ≡ q) ends) (sym queue_is) back.of_queue;
      each = λ sender below. back.each sender (omega arith) (omega (arith, below, senders_are));
      as_many = omega (arith, back.as_many, senders_are);
    },
    back.on_base,
  )
