-- What is noted of a pop.
use Rattle.std.specs.Prelude.{ℕ, Option, Some, None}
use Rattle.queue_looks.specs.declared.pops.Noted.{Noted}
use Rattle.queue_looks.specs.declared.pops.Noted.TheVariants.{Took, FoundEmpty}

-- a pop at this place, which left the pass so, gave an item or found the queue empty
abbrev pub pop_noted : {T P W : Type 0} → ℕ → P → Option T → Noted P W
pop_noted place pass (Some item) = Took place (record { marker = record {}; value = pass })
pop_noted place pass None = FoundEmpty place (record { marker = record {}; value = pass })
