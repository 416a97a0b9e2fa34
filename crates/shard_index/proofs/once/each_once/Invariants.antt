use Rattle.std.proofs.Common.{◌≡◌, ◌++◌, drop}
use Rattle.query_model.specs.Answers.{each_once}
use Rattle.shard_index.proofs.once.each_once.Given as goal

abbrev pub invariant-loop-i : goal.invariant-loop-i
invariant-loop-i l = l.once.items ++ each_once (drop l.i l.words) ≡ each_once l.words
