-- How many homes the cores of tasks get.
use Rattle.std.proofs.Common.{◌≡◌, ℕ, ◌-◌, ◌*◌, ◌^◌, min, max, length, ap, ◌∙◌, arith}
use Rattle.fan_model.specs.Answered.{answered_in}
use Rattle.fan_model.specs.Report.{Asking}
use Rattle.fanout.specs.Homes.{cells_of}

-- what is cut off at the last number of 64 bits, and then at 1,024, is cut off at 1,024
capped : (n : ℕ) → max 1 (min (min n (2 ^ 64 - 1)) 1024) ≡ max 1 (min n 1024)
capped n = omega (arith)

pub cells_are : (asked : Asking) (answered shards : ℕ) → answered ≡ length (answered_in asked.lines) → shards ≡ asked.shards → max 1 (min (min (answered * shards) (2 ^ 64 - 1)) 1024) ≡ cells_of asked
cells_are asked answered shards all as_many =
    capped (answered * shards)
    ∙ (ap (λ (n : ℕ). max 1 (min (n * shards) 1024)) all ∙ ap (λ (n : ℕ). max 1 (min (length (answered_in asked.lines) * n) 1024)) as_many)
