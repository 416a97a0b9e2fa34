-- What a pool that has ended says to its caller.
use Rattle.std.proofs.Common.{◌≡◌, ℕ, ◌+◌, List, [], ◌∷◌, ◌++◌, length, length-append, map, Option, Some, refl, sym, ap, ◌∙◌, subst, arith}
use Rattle.std.specs.List.{All, flat_map, sum_by}
use Rattle.std.specs.declared.alloc.Global.{Global}
use Rattle.std.proofs.lemmas.Grind.{flat_map-append}
use Rattle.std.proofs.lemmas.List.{length-map}
use Rattle.std.proofs.lemmas.List.Sums.{sum_by-cons}
use Rattle.std.proofs.lemmas.List.Elements.{All-weaker}
use Rattle.atomic_table.specs.Seated.{TableId}
use Rattle.crossbeam_queue.specs.SegTies.{SegId}
use Rattle.fan_base.specs.declared.number.JobId.{JobId}
use Rattle.fan_base.specs.declared.number.Mark.{Mark}
use Rattle.job_trait.specs.declared.job.Head.{Head}
use Rattle.pool_model.specs.declared.task.Ending.{Ending}
use Rattle.pool_model.specs.declared.task.Ending.TheVariants.{Joins, Stops}
use Rattle.pool_model.specs.Accounts.{AllRun, AllRunOrReturned}
use Rattle.pool_model.specs.Endings.{AreOfEnded, FoundNoOther, HaveHistories, IsHistoryOf, Joined, Stopped, records_of}
use Rattle.pool_model.specs.History.{Event}
use Rattle.pool_model.specs.Orders.{IsSameInAnyOrder}
use Rattle.pool_model.specs.Passes.{adds_of, adds_total, tasks_of}
use Rattle.pool_model.specs.Records.{Record, AreRunsOf}
use Rattle.pool_model.specs.Seen.{PoolId, PassSeen, EndSeen, Returned, at_queue, steps_by, task_of}
use Rattle.pool_model.specs.Steps.{tasks_taken}
use Rattle.pool_model.specs.Tasks.{Task, downwards, numbered}
use Rattle.pool_runs.specs.declared.placed.Placed.{Placed}
use Rattle.task_queue.specs.Seen.{GatheredSeen}
use Rattle.prio_pool.specs.Ended.{CameTo, CameBack}
use Rattle.prio_pool.specs.Gathering.{FoundAs, IsOf, gathered_from, AddersMore, EndsMore}
use Rattle.pool_runs.specs.Returning.{back_from}
use Rattle.pool_runs.specs.Running.{Drained}
use Rattle.prio_pool.proofs.Accounting.{all_accounted, as_many_rests, ends_ran, entries_in, histories_of, tasks_back}
use Rattle.prio_pool.proofs.Orders.{same-length}
use Rattle.pool_model.proofs.Accounts.{length-numbered, length-runs, runs-append}
use Rattle.task_queue.specs.declared.rule.Queued.{Queued}

-- there are as many tasks as adds
as_many_tasks : (passes : List PassSeen) → length (tasks_of passes) ≡ adds_total passes
as_many_tasks [] = refl
as_many_tasks (p ∷ ps) = omega (
  arith,
  length-append (numbered p.number 0 (adds_of p)) (tasks_of ps),
  length-numbered p.number 0 (adds_of p),
  sum_by-cons (λ (x : PassSeen). length (adds_of x)) p ps,
  as_many_tasks ps,
)

-- what all these ends took
abbrev taken_by_all : List EndSeen → List Task
taken_by_all ends = flat_map (λ e. tasks_taken (steps_by e)) ends

module _ {J : Type 0} (head : J → Head) (whole : ℕ) (qs : List (SegId Global)) (passes : List PassSeen) (ends helped : List EndSeen) (rests : List (List (Queued (Placed J)))) where
  told_of : (ending : Ending) → CameTo head whole qs (Some ending) passes (ends ++ helped) rests → AreOfEnded ending passes (ends ++ helped)
  told_of ending came = record {
    no_gaps = came.gaps;
    ran = came.ran;
    found = All-weaker (FoundAs (Some ending)) (FoundNoOther ending) (λ e f. f.same) (ends ++ helped) came.found;
  }

  have_histories : (found : Option Ending) → CameTo head whole qs found passes (ends ++ helped) rests → HaveHistories (length qs) passes (ends ++ helped) (entries_in head rests)
  have_histories found came = record {
    count = length-map rests _ ∙ as_many_rests head whole passes (ends ++ helped) 0 qs rests came.settled;
    each = λ queue within.
        let same : 0 + queue ≡ queue = omega arith in
        subst (λ (n : ℕ). (history : List Event) × IsHistoryOf passes (ends ++ helped) n (at_queue (entries_in head rests) queue) history) same
        (histories_of head whole passes (ends ++ helped) 0 qs rests came.settled queue within);
  }

  both_records : records_of (ends ++ helped) ≡ records_of ends ++ records_of helped
  both_records = flat_map-append (λ (e : EndSeen). e.records) ends helped

  ran_all : (found : Option Ending) → CameTo head whole qs found passes (ends ++ helped) rests → AreRunsOf (taken_by_all (ends ++ helped)) (records_of ends ++ records_of helped)
  ran_all found came = subst (AreRunsOf (taken_by_all (ends ++ helped))) both_records (ends_ran (ends ++ helped) came.ran)

  accounted : (found : Option Ending) → CameTo head whole qs found passes (ends ++ helped) rests → IsSameInAnyOrder (taken_by_all (ends ++ helped) ++ downwards 0 (entries_in head rests)) (tasks_of passes)
  accounted found came = all_accounted head whole passes (ends ++ helped) qs rests came.gaps came.pushed came.ran came.popped came.settled

  -- how many tasks are left
  pub counted : (found : Option Ending) → CameTo head whole qs found passes (ends ++ helped) rests → length (records_of ends ++ records_of helped) + length (back_from 0 rests) ≡ adds_total passes
  counted found came =
      let taken = taken_by_all (ends ++ helped) in
      let left = downwards 0 (entries_in head rests) in
      omega (
        arith,
        as_many_tasks passes,
        same-length (taken ++ left) (tasks_of passes) (accounted found came),
        length-append taken left,
        ap length (tasks_back head 0 rests),
        length-map (back_from 0 rests) (task_of head),
        length-runs taken (records_of ends ++ records_of helped) (ran_all found came),
      )

  pub few_rests : (found : Option Ending) → CameTo head whole qs found passes (ends ++ helped) rests → length rests ≡ length qs
  few_rests found came = as_many_rests head whole passes (ends ++ helped) 0 qs rests came.settled

  pub came_back : (found : Option Ending) (returned : List (Returned J)) → CameTo head whole qs found passes (ends ++ helped) rests → returned ≡ back_from 0 rests → CameBack head whole qs found passes (ends ++ helped) returned
  came_back found returned came back = record { rests = rests; came = came; back = back }

module _ {J : Type 0} (head : J → Head) (whole : ℕ) (qs : List (SegId Global)) (passes given : List PassSeen) (ends helped : List EndSeen) (found : Option Ending) (records : List Record) (returned : List (Returned J)) where
  pub stopped_all : CameBack head whole qs found passes (ends ++ helped) returned → passes ≡ given → records ≡ records_of ends ++ records_of helped → AllRunOrReturned head given records returned
  stopped_all came same list =
      let taken = taken_by_all (ends ++ helped) in
      let left : map (task_of head) returned ≡ downwards 0 (entries_in head came.rests) = ap (map (task_of head)) came.back ∙ tasks_back head 0 came.rests in
      record {
        tasks = taken;
        runs = subst (AreRunsOf taken) (sym list) (ran_all head whole qs passes ends helped came.rests found came.came);
        all = record {
          sums = λ weight. ap (λ (l : List Task). sum_by weight (taken ++ l)) left
              ∙ ((accounted head whole qs passes ends helped came.rests found came.came).sums weight ∙ ap (λ (l : List PassSeen). sum_by weight (tasks_of l)) same);
        };
      }

  pub was_stopped : CameBack head whole qs found passes (ends ++ helped) returned → found ≡ Some Stops → passes ≡ given → records ≡ records_of ends ++ records_of helped → Stopped head (length qs) given ends helped records returned
  was_stopped came is same list =
      let own = subst (λ (f : Option Ending). CameTo head whole qs f passes (ends ++ helped) came.rests) is came.came in
      subst (λ (l : List PassSeen). Stopped head (length qs) l ends helped records returned) same record {
        told = told_of head whole qs passes ends helped came.rests Stops own;
        rests = entries_in head came.rests;
        histories = have_histories head whole qs passes ends helped came.rests found came.came;
        list = list;
        rest = ap (map (task_of head)) came.back ∙ tasks_back head 0 came.rests;
      }

  module _ {W : Type 0} (runs : JobId → W → Mark → W → Type 0) (more both : List Record) (w v : W) where
    pub joined_all : CameBack head whole qs found passes (ends ++ helped) returned → passes ≡ given → records ≡ records_of ends ++ records_of helped → Drained head runs returned more w v → both ≡ records ++ more → AllRun given both
    joined_all came same list drained put =
        let taken = taken_by_all (ends ++ helped) in
        let left : List Task = map (task_of head) returned in
        let left_is : left ≡ downwards 0 (entries_in head came.rests) = ap (map (task_of head)) came.back ∙ tasks_back head 0 came.rests in
        let first = subst (AreRunsOf taken) (sym list) (ran_all head whole qs passes ends helped came.rests found came.came) in
        record {
          tasks = taken ++ left;
          runs = subst (AreRunsOf (taken ++ left)) (sym put) (runs-append taken left records more first drained.ran);
          all = record {
            sums = λ weight. ap (λ (l : List Task). sum_by weight (taken ++ l)) left_is
                ∙ ((accounted head whole qs passes ends helped came.rests found came.came).sums weight ∙ ap (λ (l : List PassSeen). sum_by weight (tasks_of l)) same);
          };
        }

    pub was_joined : CameBack head whole qs found passes (ends ++ helped) returned → found ≡ Some Joins → passes ≡ given → records ≡ records_of ends ++ records_of helped → Drained head runs returned more w v → both ≡ records ++ more
        → Joined runs (length qs) given ends helped both w v
    was_joined came is same list drained put =
        let own = subst (λ (f : Option Ending). CameTo head whole qs f passes (ends ++ helped) came.rests) is came.came in
        let left_is : map (task_of head) returned ≡ downwards 0 (entries_in head came.rests) = ap (map (task_of head)) came.back ∙ tasks_back head 0 came.rests in
        subst (λ (l : List PassSeen). Joined runs (length qs) l ends helped both w v) same record {
          told = told_of head whole qs passes ends helped came.rests Joins own;
          rests = entries_in head came.rests;
          histories = have_histories head whole qs passes ends helped came.rests found came.came;
          more = more;
          list = put ∙ ap (λ (l : List Record). l ++ more) list;
          rest = subst (λ (l : List Task). AreRunsOf l more) left_is drained.ran;
          led = drained.led;
        }

-- ends of a pool are ends over its queues and its mark
pub of_these : (id : PoolId) (whole : ℕ) (qs : List (SegId Global)) (mark : TableId) (ends : List EndSeen) → id ≡ record { queues = qs; passes = whole; mark = mark } → All (λ (e : EndSeen). e.pool ≡ id) ends → All (IsOf whole qs mark) ends
of_these id whole qs mark ends is all = All-weaker (λ (e : EndSeen). e.pool ≡ id) (IsOf whole qs mark)
    (λ e p. record {
      queues_are = ap (λ (x : PoolId). x.queues) (p ∙ is);
      passes_are = ap (λ (x : PoolId). x.passes) (p ∙ is);
      mark_is = ap (λ (x : PoolId). x.mark) (p ∙ is);
    })
    ends
    all

-- how many the first pass and the others added is how many all of them did
pub total_is : (passes : List PassSeen) (first : PassSeen) (rest : List PassSeen) (own others : ℕ) → passes ≡ first ∷ rest → own ≡ length (adds_of first) → others ≡ adds_total rest → own + others ≡ adds_total passes
total_is passes first rest own others items first_is rest_is = (λ i. first_is i + rest_is i) ∙ (sym (sum_by-cons (λ (p : PassSeen). length (adds_of p)) first rest) ∙ sym (ap adds_total items))

-- all passes of each queue, put together one kind behind the other
pub put_together : (whole : ℕ) (qs : List (SegId Global)) (first : PassSeen) (others : List PassSeen) (ends : List EndSeen) (l0 l1 l2 : List GatheredSeen) → first.pool.passes ≡ whole → l0 ≡ gathered_from first.pool.passes (first ∷ []) [] 0 qs
    → AddersMore whole qs l0 others l1 → EndsMore whole qs l1 ends l2 → l2 ≡ gathered_from whole (first ∷ others) ends 0 qs
put_together whole qs first others ends l0 l1 l2 own is more ended =
    ended (first ∷ others) [] (more (first ∷ []) [] (is ∙ ap (λ (n : ℕ). gathered_from n (first ∷ []) [] 0 qs) own))
