-- A query whose turn has come.
use Rattle.std.specs.Prelude.{◌≡◌, ℕ, ◌≤◌, length}
use Rattle.query_model.specs.Order.{Asked, docs_before}
use Rattle.fan_model.specs.Comings.{Coming, ComesAt}
use Rattle.fan_model.specs.Report.{Asking}
use Rattle.fan_parts.specs.Facts.{IsAnswerAt, IsCountable}
use Rattle.fan_parts.specs.Seen.{AskSeen}

-- at this place the work is begun of the query with this number, whose line has this place and stands behind so many documents
pub record IsBegun (asked : Asking) (place number line documents : ℕ) : Type 0 where
  pub query : Asked
  pub comes : ComesAt asked.lines place (Coming.begins query)
  pub number_is : number ≡ query.number
  pub line_is : line ≡ query.place
  pub documents_are : documents ≡ length (docs_before asked.lines query)
  pub few : number ≤ 50000
  pub countable : IsCountable asked

-- at this place the query with this number is cancelled
pub record IsCancelled (asked : Asking) (place number : ℕ) : Type 0 where
  pub query : Asked
  pub comes : ComesAt asked.lines place (Coming.cancels query)
  pub number_is : number ≡ query.number

-- the query's number, what it asks, and how many documents stand before it; and its answer is the reply at this place
pub record IsAskAt (asked : Asking) (place number documents : ℕ) (ask : AskSeen) : Type 0 where
  pub number_is : ask.number ≡ number
  pub before_is : ask.before ≡ documents
  pub answer_at : IsAnswerAt asked place ask.number ask.asks ask.before
