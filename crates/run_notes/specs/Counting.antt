-- What the queues and cores of a run come to, by the number of its answered queries.
use Rattle.std.specs.Prelude.{◌≡◌, ℕ, ◌+◌, ◌*◌, ◌<◌, ◌==◌, List, length, map, slice_index_or}
use Rattle.std.specs.List.{count_by, range_with_len, sum_by}
use Rattle.core_word.specs.Count.{Counts}
use Rattle.event_base.specs.Seen.{NoteSeen}
use Rattle.query_model.specs.declared.line.Line.{Line}
use Rattle.query_model.specs.Order.{Asked}
use Rattle.fan_model.specs.Answered.{answered_in, tops_in}
use Rattle.fan_model.specs.Notes.{base_of}
use Rattle.fan_model.specs.Totals.{Totals}
use Rattle.run_notes.specs.declared.counting.Counted.{Counted}

abbrev pub totals_of : Counts → Totals
totals_of c = record { made = c.made; handed = c.handed; forwarded = c.forwarded; freed = c.freed; reopened = c.reopened }

-- As many cores were forwarded, freed and used again. Two numbers aren't compared. How many were handed over: each message of a gathering base is one, and each reply
-- of an answered query. How many were made: one for each task, one for each answered query's reply, and one for each that was forwarded.
pub record AreCoresBy (counts : Counts) (totals : Totals) : Type 0 where
  pub forwarded : counts.forwarded ≡ totals.forwarded
  pub freed : counts.freed ≡ totals.freed
  pub reopened : counts.reopened ≡ totals.reopened

-- how many messages these queues had
abbrev pub puts_of : List NoteSeen → ℕ
puts_of notes = sum_by (λ (n : NoteSeen). n.put) notes

-- each of these queues had so many messages for each of so many queries
pub record ArePutBy (shards : ℕ) (counts : List ℕ) (notes : List NoteSeen) : Type 0 where
  pub as_many : length notes ≡ length counts
  pub each : (k : ℕ) (d : NoteSeen) → k < length notes → (slice_index_or notes k d).put ≡ shards * slice_index_or counts k 0

-- how many of these queries are gathered on a base
abbrev pub gathered_on : ℕ → List Asked → ℕ → ℕ
gathered_on bases queries base = count_by (λ asked. base_of bases asked.number == base) queries

-- the numbers of the answered queries of these lines, over so many bases
pub record HasCounted (lines : List Line) (bases : ℕ) (counted : Counted) : Type 0 where
  pub answered : counted.answered ≡ length (answered_in lines)
  pub tops : counted.tops ≡ tops_in (answered_in lines)
  pub by_base : counted.by_base.items ≡ map (gathered_on bases (answered_in lines)) (range_with_len 1 bases)

-- what a gathering base's close says where no memory was refused: its executor, and that all that was put was taken
pub record IsEmptied (base : ℕ) (n : NoteSeen) : Type 0 where
  pub exec : n.exec ≡ record { 0 = base }
  pub taken : n.taken ≡ n.put
  pub left : n.left ≡ 0

-- the notes of bases 1 and up
pub record AreEmptied (notes : List NoteSeen) : Type 0 where
  pub each : (k : ℕ) (d : NoteSeen) → k < length notes → IsEmptied (1 + k) (slice_index_or notes k d)
