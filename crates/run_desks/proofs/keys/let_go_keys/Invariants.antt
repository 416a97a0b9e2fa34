use Rattle.std.proofs.Common.{length}
use Rattle.run_desks.proofs.keys.let_go_keys.Given as goal

abbrev pub decreases-keys : goal.decreases-keys
decreases-keys g l = length l.keys.items
