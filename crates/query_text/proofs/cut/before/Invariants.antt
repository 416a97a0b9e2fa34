use Rattle.std.proofs.Common.{◌≡◌, ◌+◌, ◌-◌, ◌≤◌, eqb, length, drop}
use Rattle.std.specs.List.{position_or_len}
use Rattle.query_text.proofs.cut.before.Given as goal

abbrev pub invariant-groups : goal.invariant-groups
invariant-groups l = record {
  within : l.from ≤ length l.bytes;
  passed : position_or_len (λ byte. eqb byte l.at) l.bytes ≡ l.from + position_or_len (λ byte. eqb byte l.at) (drop l.from l.bytes);
}

abbrev pub invariant-rest : goal.invariant-rest
invariant-rest l = record {
  within : l.from ≤ length l.bytes;
  passed : position_or_len (λ byte. eqb byte l.at) l.bytes ≡ l.from + position_or_len (λ byte. eqb byte l.at) (drop l.from l.bytes);
}

abbrev pub decreases-groups : goal.decreases-groups
decreases-groups l = length l.bytes - l.from

abbrev pub decreases-rest : goal.decreases-rest
decreases-rest l = length l.bytes - l.from
