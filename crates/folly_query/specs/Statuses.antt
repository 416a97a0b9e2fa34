-- The number that each status ends the program with, and what the program says of it on standard error.
use Rattle.std.specs.Prelude.{ℕ, List, codes, Option, Some, None}
use Rattle.folly_query.specs.declared.report.Status.{Status}
use Rattle.folly_query.specs.declared.report.Status.TheVariants as status

abbrev pub exit_number : Status → ℕ
exit_number status.Done = 0
exit_number status.Memory = 1
exit_number status.Usage = 2
exit_number (status.BadInput _) = 3
exit_number status.ReadFault = 4
exit_number status.WriteFault = 5
exit_number status.TooLarge = 6

abbrev pub message : Status → Option (List ℕ)
message status.Done = None
message status.Memory = Some (codes "folly_query: out of memory")
message status.Usage = Some (codes "usage: folly_query run [options], or folly_query gen SEED DOCS QUERIES [options]")
message (status.BadInput _) = None
message status.ReadFault = Some (codes "folly_query: read failed")
message status.WriteFault = Some (codes "folly_query: write failed")
message status.TooLarge = Some (codes "folly_query: input too large")
