-- What the queries are begun with, and how many homes the cores of tasks get.
use Rattle.std.specs.Prelude.{ℕ, ◌*◌, ◌≤◌, length, max, min}
use Rattle.fan_model.specs.Answered.{answered_in, tops_in}
use Rattle.fan_model.specs.Report.{Asking}
use Rattle.run_desks.specs.Keys.{AreKeysOf}
use Rattle.run_desks.specs.declared.keys.DeskKeys.{DeskKeys}

-- a home for each task of the answered queries, but at least 1 and at most 1,024
abbrev pub cells_of : Asking → ℕ
cells_of asked = max 1 (min (length (answered_in asked.lines) * asked.shards) 1024)

module _ {N : Type 0} where
  -- keys of this run: one for each answered query, and an inner key for each that ranks
  pub record AreEnough (asked : Asking) (keys : DeskKeys N) : Type 0 where
    pub of : AreKeysOf asked keys
    pub replies : length (answered_in asked.lines) ≤ length keys.replies.items
    pub inners : tops_in (answered_in asked.lines) ≤ length keys.inners.items
