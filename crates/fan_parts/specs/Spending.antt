-- What a tally shows where something was spent.
use Rattle.std.specs.Prelude.{◌≡◌}
use Rattle.core_word.specs.Count.{Counts, raised}
use Rattle.fan_parts.specs.declared.jobs.GatherJob.{GatherJob}
use Rattle.fan_parts.specs.declared.jobs.GatherJob.TheVariants as gather
use Rattle.fan_parts.specs.declared.jobs.PrintJob.{PrintJob}
use Rattle.fan_parts.specs.declared.jobs.PrintJob.TheVariants as print

-- a fire was unpacked
abbrev pub with_fire : Counts → Counts
with_fire counts = record counts { handed = raised counts.handed }

-- a core was freed, whose fire was unpacked
abbrev pub with_core : Counts → Counts
with_core counts = record counts { handed = raised counts.handed; freed = raised counts.freed }

module _ {N : Type 0} where
  abbrev pub SpendsGatherJob : GatherJob N → Counts → Counts → Type 0
  SpendsGatherJob (gather.Task fire) old new = new ≡ with_fire old
  SpendsGatherJob (gather.Score call) old new = new ≡ old

  abbrev pub SpendsPrintJob : PrintJob N → Counts → Counts → Type 0
  SpendsPrintJob (print.Replied fire) old new = new ≡ with_fire old
  SpendsPrintJob (print.Cancelled reply) old new = new ≡ old
