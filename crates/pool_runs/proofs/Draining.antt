-- Tasks that a join runs, one after another.
use Rattle.std.proofs.Common.{◌≡◌, ℕ, List, [], ◌∷◌, ◌++◌, map, refl, sym, ap, ◌∙◌, subst, append-nil}
use Rattle.std.proofs.lemmas.List.{map-append}
use Rattle.fan_base.specs.declared.number.JobId.{JobId}
use Rattle.fan_base.specs.declared.number.Mark.{Mark}
use Rattle.job_trait.specs.declared.job.Head.{Head}
use Rattle.job_trait.specs.Runs.{Ran, Leads}
use Rattle.pool_model.specs.Records.{Record, AreRunsOf, ran_of}
use Rattle.pool_model.specs.Seen.{Returned, task_of}
use Rattle.pool_model.specs.Tasks.{Task}
use Rattle.task_queue.specs.declared.rule.Queued.{Queued}
use Rattle.pool_runs.specs.declared.placed.Placed.{Placed}
use Rattle.pool_runs.specs.Returning.{back_of}
use Rattle.pool_runs.specs.Running.{Drained, DrainedSoFar, RanOnce, task_in}
use Rattle.job_trait.proofs.Histories.{leads_more}
use Rattle.pool_model.proofs.Accounts.{runs-append}
use Rattle.pool_model.proofs.Lists.{one_over}

module _ {J W : Type 0} (head : J → Head) (runs : JobId → W → Mark → W → Type 0) where
  pub drained_none : (tasks : List (Returned J)) (records : List Record) (w : W) → records ≡ [] → DrainedSoFar head runs tasks tasks records w w
  drained_none tasks records w none = record {
    done = [];
    list = refl;
    drained = record {
      ran = subst (AreRunsOf []) (sym none) tt;
      led = subst (λ (l : List Record). Leads runs w (ran_of l) w) (sym none) record { through = refl };
    };
  }

  pub drained_more : (tasks left more : List (Returned J)) (records made after : List Record) (w m v : W) (queue : ℕ) (task : Queued (Placed J)) → DrainedSoFar head runs tasks left records w m → left ≡ back_of queue task ∷ more
      → RanOnce runs (task_in head queue task) m v made → after ≡ records ++ made → DrainedSoFar head runs tasks more after w v
  drained_more tasks left more records made after w m v queue task so_far next ran appended =
      let b : Returned J = back_of queue task in
      let r = ran.entry in
      let d = so_far.drained in
      let is : after ≡ records ++ r ∷ [] = appended ∙ ap (λ (l : List Record). records ++ l) ran.only in
      let tasks_are : map (task_of head) (so_far.done ++ b ∷ []) ≡ map (task_of head) so_far.done ++ task_of head b ∷ [] = map-append (task_of head) so_far.done (b ∷ []) in
      let pairs : ran_of (records ++ r ∷ []) ≡ ran_of records ++ (r.job, r.mark) ∷ [] = map-append (λ (x : Record). (x.job, x.mark)) records (r ∷ []) in
      record {
        done = so_far.done ++ b ∷ [];
        list = one_over so_far.done left more tasks b so_far.list next;
        drained = record {
          ran = subst (AreRunsOf (map (task_of head) (so_far.done ++ b ∷ []))) (sym is)
              (subst (λ (l : List Task). AreRunsOf l (records ++ r ∷ [])) (sym tasks_are) (runs-append (map (task_of head) so_far.done) (task_of head b ∷ []) records (r ∷ []) d.ran (ran.is, tt)));
          led = subst (λ (l : List Record). Leads runs w (ran_of l) v) (sym is)
              (subst (λ (l : List Ran). Leads runs w l v) (sym pairs) (leads_more runs w m v (ran_of records) r.job r.mark d.led ran.ran));
        };
      }

  pub drained_all : (tasks left : List (Returned J)) (records : List Record) (w v : W) → DrainedSoFar head runs tasks left records w v → left ≡ [] → Drained head runs tasks records w v
  drained_all tasks left records w v so_far none =
      let same : so_far.done ≡ tasks = sym (append-nil so_far.done) ∙ (ap (λ (l : List (Returned J)). so_far.done ++ l) (sym none) ∙ so_far.list) in
      subst (λ (l : List (Returned J)). Drained head runs l records w v) same so_far.drained
