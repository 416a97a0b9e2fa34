use Rattle.std.proofs.Common.{length}
use Rattle.fanout.specs.Asked.{asking_of}
use Rattle.fanout.proofs.run.fan_run.Given as goal

abbrev pub ghosts-fan_run_named : goal.ghosts-fan_run_named
ghosts-fan_run_named g a = record { asked = asking_of a.lines.now (length a.shards.now) a.knobs }
