-- What the front works with, and what it has done at a place of the order of answers.
use Rattle.std.specs.Prelude.{◌≡◌, ℕ, List, ◌++◌}
use Rattle.fan_base.specs.declared.number.ExecId.{ExecId}
use Rattle.query_model.specs.Alike.{AreAlike}
use Rattle.fan_model.specs.Report.{Asking}
use Rattle.fan_model.specs.Tasks.{Run, printer_exec, task_runs}
use Rattle.fan_parts.specs.Facts.{IsCountable}
use Rattle.prio_pool.specs.Running.{DirectSeen}
use Rattle.run_notes.specs.Told.{TellOf}
use Rattle.run_plan.specs.Turns.{begun_between}
use Rattle.run_front.specs.declared.front.Front.{Front}

module _ {N : Type 0} where
  -- the front of this run: the run's lines but for the words of documents, its numbers, and a poster to its printer's base
  pub record IsFrontOf (asked : Asking) (front : Front N) : Type 0 where
    pub lines : AreAlike front.lines.now asked.lines
    pub shards : front.shards ≡ asked.shards
    pub bases : front.bases ≡ asked.bases
    pub countable : IsCountable asked
    pub printer : front.printer.exec ≡ printer_exec asked.bases

-- Behind these first runs come the first of those, and nothing else.
pub record AreSomeOf (first all runs : List Run) : Type 0 where
  pub done : List Run
  pub left : List Run
  pub are : runs ≡ first ++ done
  pub whole : done ++ left ≡ all

-- Behind these first runs come those of the queries that are begun from one place on, and before another.
pub record AreRunsTo (asked : Asking) (exec : ExecId) (start place : ℕ) (first runs : List Run) : Type 0 where
  pub are : runs ≡ first ++ task_runs asked.lines asked.shards exec (begun_between asked.lines start place)

-- These records tell, but for their marks, of some runs: behind these first ones come those of the queries that are begun from one place on, and
-- before another.
pub record TellRunsTo (asked : Asking) (exec : ExecId) (start place : ℕ) (first : List Run) (direct : List DirectSeen) : Type 0 where
  pub runs : List Run
  pub tell : TellOf direct runs
  pub are : AreRunsTo asked exec start place first runs

-- These records tell, but for their marks, of some runs: behind these first ones come the first of all those, and nothing else.
pub record TellSomeOf (first all : List Run) (direct : List DirectSeen) : Type 0 where
  pub runs : List Run
  pub tell : TellOf direct runs
  pub are : AreSomeOf first all runs

-- behind these first runs come the first of them, and nothing else
abbrev pub AreSomeRunsTo : Asking → ExecId → ℕ → ℕ → List Run → List Run → Type 0
AreSomeRunsTo asked exec start place first runs = AreSomeOf first (task_runs asked.lines asked.shards exec (begun_between asked.lines start place)) runs

-- the records tell of the first of them, but for their marks, and of nothing else
abbrev pub TellSomeRunsTo : Asking → ExecId → ℕ → ℕ → List Run → List DirectSeen → Type 0
TellSomeRunsTo asked exec start place first direct =
    TellSomeOf first (task_runs asked.lines asked.shards exec (begun_between asked.lines start place)) direct
