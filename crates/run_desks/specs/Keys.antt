-- What the queries of a run are begun with.
use Rattle.std.specs.Prelude.{◌≡◌, ◌≤◌, List, length}
use Rattle.query_model.specs.Alike.{AreAlike}
use Rattle.fan_model.specs.Answered.{tops_in}
use Rattle.fan_model.specs.Comings.{Coming}
use Rattle.fan_model.specs.Report.{Asking}
use Rattle.fan_parts.specs.Facts.{IsCountable}
use Rattle.run_plan.specs.Turns.{begun_in}
use Rattle.run_desks.specs.declared.keys.DeskKeys.{DeskKeys}

module _ {N : Type 0} where
  -- they are of this run: its lines but for the words of documents, and its numbers
  pub record AreKeysOf (asked : Asking) (keys : DeskKeys N) : Type 0 where
    pub lines : AreAlike keys.lines.now asked.lines
    pub shards : keys.shards ≡ asked.shards
    pub bases : keys.bases ≡ asked.bases
    pub countable : IsCountable asked

  -- a key for each query that is begun among what comes, and an inner key for each that ranks
  pub record HasKeysFor (comings : List Coming) (keys : DeskKeys N) : Type 0 where
    pub replies : length (begun_in comings) ≤ length keys.replies.items
    pub inners : tops_in (begun_in comings) ≤ length keys.inners.items
