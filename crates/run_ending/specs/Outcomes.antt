-- The outcome of a run by how its printing ended.
use Rattle.std.specs.Prelude.{Bool, true, false}
use Rattle.run_printing.specs.declared.stage.PrintOutcome.{PrintOutcome}
use Rattle.run_printing.specs.declared.stage.PrintOutcome.TheVariants as print
use Rattle.run_ending.specs.declared.end.FanOutcome.{FanOutcome}
use Rattle.run_ending.specs.declared.end.FanOutcome.TheVariants as outcome

-- how the run ended: as printing did, where nobody notes want of memory and all numbers agree; else with want of memory
abbrev pub outcome_by : Bool → PrintOutcome → FanOutcome
outcome_by false o = outcome.Memory
outcome_by true print.Done = outcome.Done
outcome_by true print.Memory = outcome.Memory
outcome_by true print.WriteFault = outcome.WriteFault
