use Rattle.std.proofs.Common.{rules}
use Rattle.std.proofs.lemmas.List.Sorted.{IsNonDecreasingBy-from_sort_by_key}
use Rattle.tick_wheel.specs.Resting.{key_of}
use Rattle.tick_wheel.proofs.rest.order.Goals as goal

pub returns-clause-rises : goal.returns-clause-rises
returns-clause-rises g c =
    IsNonDecreasingBy-from_sort_by_key key_of _ c.sort_unstable_by_key.ensures.sorted (λ a r q k. search rules)
