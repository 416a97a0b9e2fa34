use Rattle.std.proofs.Common.{◌≡◌}
use Rattle.fan_parts.proofs.awaited.look_until_left.Given as goal

abbrev pub invariant-loop : goal.invariant-loop
invariant-loop g l =
    (l.producer.home ≡ l.initial.producer.home) × (l.producer.use_number ≡ l.initial.producer.use_number) × (l.producer.no ≡ l.initial.producer.no)
