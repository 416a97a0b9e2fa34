-- Slots before and after the threads.
use Rattle.std.proofs.Common.{◌≡◌, ℕ, zero, suc, ◌+◌, ◌-◌, ◌<◌, ◌||◌, List, [], ◌∷◌, ◌++◌, Bool, true, false, true≢false, length, get_or, map, slice_get, Some, refl, sym, ap, ◌∙◌, subst, arith}
use Rattle.std.specs.List.{All, list_any}
use Rattle.std.proofs.lemmas.List.Elements.{All-cons, All-nil}
use Rattle.std.proofs.lemmas.Option.{same_Some}
use Rattle.core_cells.specs.Seen.{SeenPass}
use Rattle.core_word.specs.Count.{Counts, added, raised}
use Rattle.event_base.specs.Seen.{BaseSeen, new_base}
use Rattle.fan_base.specs.declared.number.ExecId.{ExecId}
use Rattle.fan_model.specs.Report.{Asking}
use Rattle.fan_parts.specs.declared.jobs.GatherJob.{GatherJob}
use Rattle.fan_parts.specs.declared.jobs.PrintJob.{PrintJob}
use Rattle.fan_parts.specs.declared.run_name.RunName.{Ghosts}
use Rattle.fan_parts.specs.Seen.{PosterSeen}
use Rattle.job_trait.specs.Marks.{IsDone}
use Rattle.notify_queue.specs.declared.stamp.Stamped.{Stamped}
use Rattle.notify_queue.specs.Ends.{QueueId, Sending}
use Rattle.pool_model.specs.Passes.{AreAllEnds}
use Rattle.pool_model.specs.Seen.{EndSeen, PoolId, WorkerSeen}
use Rattle.run_bases.specs.Columns.{exec_at}
use Rattle.run_gathering.specs.Awaited.{TableSeen}
use Rattle.run_gathering.specs.Dealt.{AreAllDealt, AwaitsAll}
use Rattle.run_gathering.specs.Gathering.{counted, no_counts, raised_times}
use Rattle.run_notes.specs.Accounts.{AllDone}
use Rattle.run_stages.specs.Stages.{AllRan, AllReady}
use Rattle.run_tasks.specs.declared.stage.WorkerStage.{WorkerStage}
use Rattle.run_tasks.specs.Leaving.{CountsTasks, MakesMore, reopened_times}
use Rattle.run_tasks.proofs.WorldLemmas.{tasks_make}
use Rattle.run_tasks.specs.declared.world.TaskEnds.{TaskEnds}
use Rattle.run_tasks.specs.Seen.{TaskSeen, WorldSeen}
use Rattle.run_tasks.specs.Worlds.{AreEndsFor, Follows, TaskRan, told_of}
use Rattle.run_threads.specs.declared.gatherer.GatherSlot.{GatherSlot}
use Rattle.run_threads.specs.declared.worker.WorkerSlot.{WorkerSlot}
use Rattle.run_threads.specs.Slots.{HasGatheredIn, HasWorked, IsReadyToGather, IsReadyToWork, IsStageOf}
use Rattle.run_setup.specs.Closing.{AreEndsOf, AreGathered, AreTaskEnds, AreWorldEnds, HaveWorked, IsGatheredSlot, IsPrinterEnd, some_refused}
use Rattle.run_setup.specs.Ids.{RunIds}
use Rattle.run_setup.specs.Rows.{row_of}
use Rattle.run_setup.specs.Slots.{AreGatherSlots, AreWorkers, HaveTables, IsGatherSlot, IsNewWorld, IsWorker, new_printer_poster}

module _ {N : Type 0} where
  pub printer-end : (asked : Asking) (ids : RunIds) (number : ℕ) (e : Sending (PrintJob N)) → e.queue ≡ ids.printer → e.number ≡ number → IsPrinterEnd asked ids number e
  printer-end asked ids number e queue number_is = record { is = record { queue_is = queue; number_is = number_is; on_base = λ k d below. refl } }

module _ {J : Type 0} where
  -- a new base by its own executor, queue and posters
  pub base-new : (exec : ExecId) (senders : ℕ) (queue : QueueId) (base : BaseSeen J) → base ≡ new_base exec 0 queue senders → base ≡ new_base base.agenda.exec 0 base.queue.queue base.queue.senders
  base-new exec senders queue base is = subst (λ (b : BaseSeen J). b ≡ new_base b.agenda.exec 0 b.queue.queue b.queue.senders) (sym is) refl

module _ {N : Type 0} {g : Ghosts N} where
  ready-to-gather : (asked : Asking) (ids : RunIds) (k : ℕ) (slot : GatherSlot N g) (t : TableSeen) → IsGatherSlot asked ids k slot → slot.table ≡ Some t → AwaitsAll asked (exec_at 1 k) t → IsReadyToGather asked slot
  ready-to-gather asked ids k slot t is has awaits = record {
    base = new_base (exec_at 1 k) 0 (get_or ids.queues k ids.printer) (ids.workers + 1);
    has_base = is.base ids.printer;
    holds = record { before = refl; timers = refl; loops = λ n d below. absurd (omega (arith, below)); later = λ n d below. absurd (omega (arith, below)) };
    printer = new_printer_poster asked ids (asked.bases - k);
    has_printer = is.printer;
    exec = refl;
    table = t;
    has_table = has;
    awaits = awaits;
    none = is.none;
  }

  -- the table of the slot at a place is the one at that place
  table_at : (slots : List (GatherSlot N g)) (tables : List TableSeen) (k : ℕ) (d : GatherSlot N g) → map (λ (slot : GatherSlot N g). slot.table) slots ≡ map (λ (table : TableSeen). Some table) tables → k < length slots
      → (t : TableSeen) × (slice_get tables k ≡ Some t) × ((get_or slots k d).table ≡ Some t)
  table_at [] tables k d same below = absurd (omega (arith, below))
  table_at (s ∷ slots) [] k d same below = absurd cc
  table_at (s ∷ slots) (t ∷ tables) zero d same below = let here : s.table ≡ Some t = cc in (t, refl, here)
  table_at (s ∷ slots) (t ∷ tables) (suc k) d same below =
      let rest : map (λ (slot : GatherSlot N g). slot.table) slots ≡ map (λ (table : TableSeen). Some table) tables = cc in
      table_at slots tables k d rest (omega (arith, below))

  pub all-ready-to-gather : (asked : Asking) (ids : RunIds) (slots : List (GatherSlot N g)) (tables : List TableSeen) → AreGatherSlots asked ids slots → HaveTables slots tables → AreAllDealt asked tables → AllReady (IsReadyToGather asked) slots
  all-ready-to-gather asked ids slots tables are have dealt = record {
    each = λ k d below.
        let at = table_at slots tables k d have.are below in
        ready-to-gather asked ids k (get_or slots k d) at.0 (are.each k d (omega (arith, below, are.as_many))) at.2 (dealt.each k at.0 at.1);
  }

module _ {N : Type 0} where
  pub all-ready-to-work : (ids : RunIds) (pool : PoolId) (slots : List (WorkerSlot TaskSeen (WorldSeen N))) → AreWorkers ids pool slots → AllReady (IsReadyToWork pool) slots
  all-ready-to-work ids pool slots are = record {
    each = λ k d below.
        let is = are.each k d (omega (arith, below, are.as_many)) in
        record { pass = record { pool = pool; number = k }; has = is.pass; of_pool = refl };
  }

reopened_hands_none : (n : ℕ) (counts : Counts) → (reopened_times n counts).handed ≡ counts.handed
reopened_hands_none zero counts = refl
reopened_hands_none (suc n) counts = reopened_hands_none n counts

-- tasks unpack no fire
tasks_hand_none : (n : ℕ) (old new : Counts) → CountsTasks n old new → new.handed ≡ old.handed
tasks_hand_none n old new counts = ap (λ (t : Counts). t.handed) counts.is ∙ reopened_hands_none counts.freed old

-- so many times one more than nothing
raised_all : (n : ℕ) → raised_times n 0 ≡ added 0 n
raised_all zero = omega arith
raised_all (suc n) = ap raised (raised_all n) ∙ omega arith

-- one core that was handed over for each message of a base that had taken none before
handed_each : {J : Type 0} (tally : Counts) (forwards posts : ℕ) (took taken : List (Stamped J)) → taken ≡ [] ++ took → tally ≡ counted (length took) forwards posts no_counts → tally.handed ≡ added 0 (length taken)
handed_each tally forwards posts took taken all is = ap (λ (t : Counts). t.handed) is ∙ (raised_all (length took) ∙ ap (λ (l : List (Stamped _)). added 0 (length l)) (sym all))

-- as many cores as were forwarded, where there was none before
made_each : (tally : Counts) (fires forwards posts : ℕ) → tally ≡ counted fires forwards posts no_counts → MakesMore 0 tally
made_each tally fires forwards posts is =
    let made : tally.made ≡ raised_times forwards 0 = ap (λ (t : Counts). t.made) is in
    let forwarded : tally.forwarded ≡ raised_times forwards 0 = ap (λ (t : Counts). t.forwarded) is in
    omega (arith, made, forwarded, raised_all forwards)

none_make : (tally : Counts) → tally ≡ no_counts → MakesMore 0 tally
none_make tally is =
    let made : tally.made ≡ 0 = ap (λ (t : Counts). t.made) is in
    let forwarded : tally.forwarded ≡ 0 = ap (λ (t : Counts). t.forwarded) is in
    omega (arith, made, forwarded)

module _ {N : Type 0} {g : Ghosts N} where
  gathered : (asked : Asking) (ids : RunIds) (k : ℕ) (old new : GatherSlot N g) → IsGatherSlot asked ids k old → HasGatheredIn old new → IsGatheredSlot asked ids k new
  gathered asked ids k old new is did =
      let base : (q : QueueId) → did.base ≡ new_base (exec_at 1 k) 0 (get_or ids.queues k q) (ids.workers + 1) = λ q. same_Some did.base _ (sym did.had_base ∙ is.base q) in
      let printer : did.printer ≡ new_printer_poster asked ids (asked.bases - k) = same_Some did.printer _ (sym did.had_printer ∙ is.printer) in
      record {
        stage = did.stage;
        has = did.has;
        is = record {
          exec = did.same_base.exec ∙ ap (λ (b : BaseSeen (GatherJob N)). b.agenda.exec) (base ids.printer);
          queue = λ q. did.same_base.queue ∙ ap (λ (b : BaseSeen (GatherJob N)). b.queue.queue) (base q);
          senders = did.same_base.senders ∙ ap (λ (b : BaseSeen (GatherJob N)). b.queue.senders) (base ids.printer);
          printer = printer-end asked ids (asked.bases - k) did.stage.printer (did.did.posted.queue ∙ ap (λ (p : PosterSeen (PrintJob N)). p.sender.queue) printer)
              (did.did.posted.number ∙ ap (λ (p : PosterSeen (PrintJob N)). p.sender.number) printer);
          dry = λ calm. (did.closed calm).0;
          empty = did.empty;
          handed = λ calm. handed_each did.stage.tally did.did.forwards (length did.did.posts) did.did.took did.stage.base.queue.taken
              (did.did.taken ∙ ap (λ (b : BaseSeen (GatherJob N)). b.queue.taken ++ did.did.took) (base ids.printer)) (did.did.counts calm);
          made = λ calm. made_each did.stage.tally (length did.did.took) did.did.forwards (length did.did.posts) (did.did.counts calm);
        };
        no_base = did.spent_base;
        no_printer = did.spent_printer;
        no_table = did.spent_table;
      }

  pub all-gathered : (asked : Asking) (ids : RunIds) (old new : List (GatherSlot N g)) → AreGatherSlots asked ids old → AllRan HasGatheredIn old new → AreGathered asked ids new
  all-gathered asked ids old new are ran = record {
    as_many = ran.as_many ∙ are.as_many;
    each = λ k d below. gathered asked ids k (get_or old k d) (get_or new k d) (are.each k d below) (ran.each k d (omega (arith, below, are.as_many)));
  }

module _ {N : Type 0} where
  -- the ends of a new world's posters are a row of its number
  world-row : (ids : RunIds) (number : ℕ) (world : WorldSeen N) (ends : List (Sending (GatherJob N))) → IsNewWorld ids number world → AreEndsFor (map told_of world.posters) ends → AreEndsFor (row_of number ids.queues) ends
  world-row ids number world ends is are = subst (λ ts. AreEndsFor ts ends) is.posters are

module _ {X : Type 0} where
  -- some item of a list that has one at this place
  some-item : (xs : List X) (k : ℕ) → k < length xs → X
  some-item [] k below = absurd (omega (arith, below))
  some-item (x ∷ xs) k below = x

module _ {N : Type 0} where
  pub all-worked : (old new : List (WorkerSlot TaskSeen (WorldSeen N))) → AllRan (HasWorked TaskRan) old new → HaveWorked new
  all-worked old new ran = record {
    each = λ k d below.
        let did = ran.each k d (omega (arith, below, ran.as_many)) in
        record { end = did.end; has = did.has; spent = did.spent };
  }

  worked : (ids : RunIds) (pool : PoolId) (k : ℕ) (slot : WorkerSlot TaskSeen (WorldSeen N)) (stage : WorkerStage N) → IsWorker ids pool k slot → IsStageOf slot stage
      → AreTaskEnds ids (ids.workers - k) stage.ends × ((stage.end.pool ≡ pool) × (stage.ends.refused ≡ false → All (λ r. IsDone r.mark) stage.end.records))
  worked ids pool k slot stage is did =
      let pass : did.pass ≡ record { pool = pool; number = k } = same_Some did.pass _ (sym did.had ∙ is.pass) in (
        record {
          posters = world-row ids (ids.workers - k) slot.world stage.ends.posters.items is.is_new did.posters;
          pass = record { cells = did.cells.cells ∙ is.is_new.pass.cells; passes = did.cells.passes ∙ is.is_new.pass.passes };
          handed = λ calm. tasks_hand_none (length stage.end.records) slot.world.tally stage.ends.tally (did.tally calm) ∙ ap (λ (t : Counts). t.handed) is.is_new.tally;
        },
        (did.end_pool ∙ ap (λ (p : WorkerSeen). p.pool) pass, did.marks),
      )

  worked_made : (ids : RunIds) (pool : PoolId) (k : ℕ) (slot : WorkerSlot TaskSeen (WorldSeen N)) (stage : WorkerStage N) → IsWorker ids pool k slot → IsStageOf slot stage → stage.ends.refused ≡ false → MakesMore 0 stage.ends.tally
  worked_made ids pool k slot stage is did calm =
      tasks_make 0 (length stage.end.records) slot.world.tally stage.ends.tally (did.tally calm) (none_make slot.world.tally is.is_new.tally)

  -- what a worker left, at its place
  left-at : (ids : RunIds) (pool : PoolId) (slots : List (WorkerSlot TaskSeen (WorldSeen N))) (ends : List EndSeen) (worlds : List (TaskEnds N)) → AreWorkers ids pool slots
      → AreEndsOf slots ends worlds → (k : ℕ) (e : EndSeen) (w : TaskEnds N) → k < ids.workers
      → AreTaskEnds ids (ids.workers - k) (get_or worlds k w) × (((get_or ends k e).pool ≡ pool) × ((get_or worlds k w).refused ≡ false → All (λ r. IsDone r.mark) (get_or ends k e).records))
  left-at ids pool slots ends worlds are of k e w below =
      let within : k < length slots = omega (arith, below, are.as_many) in
      let d = some-item slots k within in
      worked ids pool k (get_or slots k d) (record { end = get_or ends k e; ends = get_or worlds k w }) (are.each k d below) (of.each k d e w within)

  pub all-worlds : (ids : RunIds) (pool : PoolId) (slots : List (WorkerSlot TaskSeen (WorldSeen N))) (ends : List EndSeen) (worlds : List (TaskEnds N)) → AreWorkers ids pool slots → AreEndsOf slots ends worlds → AreWorldEnds ids worlds
  all-worlds ids pool slots ends worlds are of = record {
    as_many = of.as_many_worlds ∙ are.as_many;
    each = λ k w below.
        let e = some-item ends k (omega (arith, below, of.as_many_ends, are.as_many)) in
        (left-at ids pool slots ends worlds are of k e w below).0;
    made = λ k w below calm.
        let within : k < length slots = omega (arith, below, are.as_many) in
        let d = some-item slots k within in
        let e = some-item ends k (omega (arith, below, of.as_many_ends, are.as_many)) in
        worked_made ids pool k (get_or slots k d) (record { end = get_or ends k e; ends = get_or worlds k w }) (are.each k d below) (of.each k d e w within) calm;
  }

  pub all-ends : (ids : RunIds) (pool : PoolId) (slots : List (WorkerSlot TaskSeen (WorldSeen N))) (ends : List EndSeen) (worlds : List (TaskEnds N)) → AreWorkers ids pool slots → AreEndsOf slots ends worlds → AreAllEnds pool ids.workers ends
  all-ends ids pool slots ends worlds are of = record {
    of_pool = λ k e below.
        let within : k < ids.workers = omega (arith, below, of.as_many_ends, are.as_many) in
        let w = some-item worlds k (omega (arith, within, of.as_many_worlds, are.as_many)) in
        (left-at ids pool slots ends worlds are of k e w within).1.0;
    count_is = of.as_many_ends ∙ are.as_many;
  }

  pub all-done : (ids : RunIds) (pool : PoolId) (slots : List (WorkerSlot TaskSeen (WorldSeen N))) (ends : List EndSeen) (worlds : List (TaskEnds N)) → AreWorkers ids pool slots → AreEndsOf slots ends worlds → All (λ (w : TaskEnds N). w.refused ≡ false) worlds → AllDone ends
  all-done ids pool slots ends worlds are of calm = λ k e below.
      let within : k < ids.workers = omega (arith, below, of.as_many_ends, are.as_many) in
      let placed : k < length worlds = omega (arith, within, of.as_many_worlds, are.as_many) in
      let w = some-item worlds k placed in
      (left-at ids pool slots ends worlds are of k e w within).1.1 (calm k w placed)

module _ {N : Type 0} where
  -- the front's world
  pub front-ends : (ids : RunIds) (old new : WorldSeen N) (ends : TaskEnds N) → IsNewWorld ids 0 old → Follows old new → AreEndsFor (map told_of new.posters) ends.posters.items → ends.pass ≡ new.pass
      → (ends.refused ≡ false → (new.refused ≡ false) × (ends.tally.handed ≡ new.tally.handed)) → AreTaskEnds ids 0 ends
  front-ends ids old new ends is follows are pass handed = record {
    posters = world-row ids 0 old ends.posters.items is (subst (λ ts. AreEndsFor ts ends.posters.items) follows.posters are);
    pass = record {
      cells = ap (λ (p : SeenPass). p.cells) pass ∙ (follows.pass.cells ∙ is.pass.cells);
      passes = ap (λ (p : SeenPass). p.passes) pass ∙ (follows.pass.passes ∙ is.pass.passes);
    };
    handed = λ calm. let none = handed calm in none.1 ∙ (follows.handed none.0 ∙ ap (λ (t : Counts). t.handed) is.tally);
  }

pub neither : (a b : Bool) → a || b ≡ false → (a ≡ false) × (b ≡ false)
neither true b is = absurd (true≢false is)
neither false b is = (refl, is)

module _ {X : Type 0} (f : X → Bool) where
  pub none-of : (xs : List X) → list_any f xs ≡ false → All (λ (x : X). f x ≡ false) xs
  none-of [] is = All-nil (λ (x : X). f x ≡ false)
  none-of (x ∷ xs) is = let both = neither (f x) (list_any f xs) is in All-cons (λ (y : X). f y ≡ false) x xs both.0 (none-of xs both.1)

module _ {N : Type 0} {g : Ghosts N} where
  pub calm-worlds : (gatherers : List (GatherSlot N g)) (worlds : List (TaskEnds N)) (front : TaskEnds N) → some_refused gatherers worlds front ≡ false → All (λ (w : TaskEnds N). w.refused ≡ false) worlds
  calm-worlds gatherers worlds front is = none-of (λ (w : TaskEnds N). w.refused) worlds (neither _ _ (neither _ _ is).0).0

  pub calm-front : (gatherers : List (GatherSlot N g)) (worlds : List (TaskEnds N)) (front : TaskEnds N) → some_refused gatherers worlds front ≡ false → front.refused ≡ false
  calm-front gatherers worlds front is = (neither _ _ (neither _ _ is).0).1
