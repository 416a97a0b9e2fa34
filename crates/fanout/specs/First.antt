-- The first phase of the front, before and after it.
use Rattle.std.specs.Prelude.{◌≡◌, [], false, length}
use Rattle.fan_model.specs.Answered.{answered_in, is_stopped}
use Rattle.fan_model.specs.Report.{Asking}
use Rattle.fan_model.specs.Tasks.{early_runs, pool_exec}
use Rattle.pool_model.specs.Passes.{AreAllPasses, adds_total}
use Rattle.pool_model.specs.Seen.{PoolSeen}
use Rattle.query_tasks.specs.Ends.{is_stop, seen_of}
use Rattle.query_tasks.specs.Starting.{HasHelped}
use Rattle.run_front.specs.Fronts.{AreSomeOf, IsFrontOf}
use Rattle.run_notes.specs.Accounts.{runs_added}
use Rattle.run_phases.specs.declared.first.FrontStart.{FrontStart}
use Rattle.run_phases.specs.declared.first.FrontMid.{FrontMid}
use Rattle.run_phases.specs.Phases.{AreOfOneAdder, IsOneAdder}
use Rattle.run_tasks.specs.Worlds.{MadeFor, told_of}
use Rattle.std.specs.Prelude.{ℕ, Option}

module _ {N : Type 0} where
  -- the front of this run over this pool, which has no task
  pub record IsFirstStart (asked : Asking) (pool : PoolSeen) (start : FrontStart N) : Type 0 where
    pub front : IsFrontOf asked start.front
    pub exec : pool.exec ≡ pool_exec
    pub queues : length pool.id.queues ≡ 3
    pub owner : start.owner.count ≡ pool.count
    pub keep : start.keep.count ≡ pool.count
    pub adders : IsOneAdder pool.id start.adders.items
    pub one : pool.adders ≡ 1
    pub helper : start.helper.pool ≡ pool.id

  -- The pool's end has begun; the first of the early queries' tasks were added, by the one adder, with the number 0, and all of them where no memory was refused. The front helped with some tasks, and
  -- began a core for each that was added.
  pub record IsFirstEnd (asked : Asking) (stop : Option ℕ) (pool : PoolSeen) (start : FrontStart N) (mid : FrontMid N) : Type 0 where
    pub added : mid.refused ≡ false → runs_added (seen_of mid.ending).passes ≡ early_runs asked.lines asked.shards asked.stop_at
    pub some : AreSomeOf [] (early_runs asked.lines asked.shards asked.stop_at) (runs_added (seen_of mid.ending).passes)
    pub pool_is : (seen_of mid.ending).pool ≡ pool.id
    pub passes : AreAllPasses pool.id pool.adders (seen_of mid.ending).passes
    pub one : AreOfOneAdder (seen_of mid.ending).passes
    pub stops : is_stop mid.ending ≡ is_stopped asked.stop_at (answered_in asked.lines)
    pub helped : HasHelped start.front.world start.helper mid.front.world mid.helper
    pub made : MadeFor 0 start.front.world → MadeFor (adds_total (seen_of mid.ending).passes) mid.front.world
    pub front : IsFrontOf asked mid.front
    pub printer : told_of mid.front.printer ≡ told_of start.front.printer
