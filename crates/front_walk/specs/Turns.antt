-- What is known where a query's turn has come.
use Rattle.std.specs.Prelude.{◌≡◌, ℕ, List, length}
use Rattle.query_model.specs.declared.line.Line.{Line}
use Rattle.query_model.specs.declared.line.Query.{Query}
use Rattle.query_model.specs.Order.{Asked, docs_before}
use Rattle.fan_model.specs.Comings.{Coming, ComesAt}
use Rattle.front_walk.specs.declared.at_turn.QueryTurn.{QueryTurn}

-- the query that is told so is begun at this place
pub record IsBeginning (lines : List Line) (place : ℕ) (turn : QueryTurn) (query : Query) : Type 0 where
  pub asked : Asked
  pub comes : ComesAt lines place (Coming.begins asked)
  pub number : turn.number ≡ asked.number
  pub line : turn.line ≡ asked.place
  pub documents : turn.documents ≡ length (docs_before lines asked)
  pub says : query ≡ asked.query

-- the query with this number is cancelled at this place
pub record IsCancelling (lines : List Line) (place number : ℕ) : Type 0 where
  pub asked : Asked
  pub comes : ComesAt lines place (Coming.cancels asked)
  pub names : number ≡ asked.number
