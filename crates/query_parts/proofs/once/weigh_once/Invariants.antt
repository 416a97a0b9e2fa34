use Rattle.std.proofs.Common.{◌≡◌, ◌++◌, ℕ, drop, map}
use Rattle.fan_base.specs.declared.word.Word.{Word}
use Rattle.query_model.specs.Answers.{each_once}
use Rattle.query_parts.proofs.once.weigh_once.Given as goal

abbrev pub invariant-loop-i : goal.invariant-loop-i
invariant-loop-i l = record {
  words : l.once.items ++ each_once (drop l.i l.words) ≡ each_once l.words;
  weights : (weight : Word → ℕ) → l.weights ≡ map weight l.words → l.kept.items ≡ map weight l.once.items;
}
