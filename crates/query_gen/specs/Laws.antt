-- What holds of each input that is made up.
use Rattle.std.specs.Prelude.{ℕ, ◌≤◌}
use Rattle.query_model.specs.Canonical.{canonical_text}
use Rattle.query_model.specs.Documents.{IsWithinLimits}
use Rattle.query_model.specs.Generated.{generated_input}
use Rattle.query_model.specs.Reading.{Accepts}

-- it is within the limits of an accepted input
abbrev pub GeneratedIsWithinLimits : Type 0
GeneratedIsWithinLimits =
    (seed docs queries shards : ℕ) → docs ≤ 20000 → queries ≤ 4096 → shards ≤ 64 → IsWithinLimits (generated_input seed docs queries).lines shards

-- its canonical text is accepted as it
abbrev pub GeneratedIsAccepted : Type 0
GeneratedIsAccepted =
    (seed docs queries shards : ℕ) → docs ≤ 20000 → queries ≤ 4096 → shards ≤ 64 → Accepts (canonical_text (generated_input seed docs queries)) shards (generated_input seed docs queries)
