-- What is known of the lines read so far.
use Rattle.std.specs.Prelude.{◌≡◌, ℕ, ◌+◌, ◌≤◌, List, nat_le, Result}
use Rattle.std.specs.List.{list_any, count_by, sum_by}
use Rattle.query_model.specs.declared.line.Line.{Line}
use Rattle.query_model.specs.declared.line.Line.TheVariants as line
use Rattle.query_model.specs.declared.fault.BadKind.{BadKind}
use Rattle.query_model.specs.declared.fault.BadKind.TheVariants as bad
use Rattle.query_model.specs.declared.fault.Limit.TheVariants as limit
use Rattle.query_model.specs.Results.{check}
use Rattle.query_model.specs.Limits.{most_ticks}
use Rattle.query_model.specs.Lines.{is_doc, is_query, has_id, ticks_of}
use Rattle.line_table.specs.Rooms.{IsRoomForDoc}
use Rattle.query_text.specs.Known.{NextIsAbove, is_known}
use Rattle.query_text.specs.declared.so_far.SoFar.TheInside.{Inside}

pub record Tracks (a : Inside) : Type 0 where
  pub ids : (id : ℕ) → is_known a.ids id ≡ list_any (has_id id) a.lines
  pub above : NextIsAbove a.ids
  pub documents : a.documents ≡ count_by is_doc a.lines
  pub queries : a.queries ≡ count_by is_query a.lines
  pub ticks : a.ticks ≡ sum_by ticks_of a.lines

-- whether there is room for so many ticks: with them there are at most 10,000,000
abbrev pub tick_room : List Line → ℕ → Result (Unit {0}) BadKind
tick_room before n = check (nat_le (sum_by ticks_of before + n) most_ticks) (bad.Limit limit.Ticks)

-- the document has at most 1,000 words and is one of at most 200,000; with the ticks of this line there are at most 10,000,000
abbrev pub HasRoom : List Line → Line → Type 0
HasRoom before (line.Doc doc) = IsRoomForDoc before doc
HasRoom before (line.Query _) = Unit {0}
HasRoom before (line.Tick n) = sum_by ticks_of before + n ≤ most_ticks
HasRoom before (line.Cancel _) = Unit {0}
