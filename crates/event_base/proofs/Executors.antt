-- What each sender put has the base's executor, and so has all that was taken or left.
use Rattle.std.proofs.Common.{◌≡◌, ℕ, ◌==◌, Bool, IsTrue, List, ap}
use Rattle.std.specs.List.{All}
use Rattle.std.proofs.lemmas.List.Elements.{All-weaker}
use Rattle.std.proofs.lemmas.Bool.{eqb-true, eq-eqb}
use Rattle.fan_base.specs.declared.number.ExecId.{ExecId}
use Rattle.job_trait.specs.declared.job.Head.{Head}
use Rattle.notify_queue.specs.declared.stamp.Stamped.{Stamped}
use Rattle.notify_queue.specs.Ends.{Sending}
use Rattle.event_base.specs.Closing.{AreOn}

module _ {J : Type 0} (head : J → Head) (exec : ExecId) where
  -- whether a job has this executor
  abbrev pub is_on : J → Bool
  is_on job = (head job).exec.0 == exec.0

  on_if : (job : J) → IsTrue (is_on job) → (head job).exec ≡ exec
  on_if job t = let same : (head job).exec.0 ≡ exec.0 = eqb-true (head job).exec.0 exec.0 t in ap (λ (n : ℕ). let e : ExecId = record { 0 = n } in e) same

  if_on : (job : J) → (head job).exec ≡ exec → IsTrue (is_on job)
  if_on job same = eq-eqb (head job).exec.0 exec.0 (ap (λ (e : ExecId). e.0) same)

  pub all_pass : (ends : List (Sending J)) → AreOn head exec ends → All (λ (e : Sending J). All (λ (job : J). IsTrue (is_on job)) e.sent) ends
  all_pass ends on =
      All-weaker (λ (e : Sending J). All (λ (job : J). (head job).exec ≡ exec) e.sent) (λ (e : Sending J). All (λ (job : J). IsTrue (is_on job)) e.sent)
      (λ e each. All-weaker (λ (job : J). (head job).exec ≡ exec) (λ (job : J). IsTrue (is_on job)) if_on e.sent each) ends on

  pub all_on : (xs : List (Stamped J)) → All (λ (x : Stamped J). IsTrue (is_on x.message)) xs → All (λ (x : Stamped J). (head x.message).exec ≡ exec) xs
  all_on xs each = All-weaker (λ (x : Stamped J). IsTrue (is_on x.message)) (λ (x : Stamped J). (head x.message).exec ≡ exec) (λ x t. on_if x.message t) xs each
