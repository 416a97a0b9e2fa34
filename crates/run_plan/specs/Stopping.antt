-- Where the pool is stopped.
use Rattle.std.specs.Prelude.{◌≡◌, ℕ, ◌<◌, ◌≤◌, List, [], true, false, length, take, drop, Option}
use Rattle.std.specs.List.{count_by}
use Rattle.query_model.specs.declared.line.Line.{Line}
use Rattle.fan_model.specs.Answered.{answered_in, early_of, is_stopped, late_of}
use Rattle.fan_model.specs.Comings.{comings_of}
use Rattle.run_plan.specs.declared.turn.Turn.{Turn}
use Rattle.run_plan.specs.Turns.{begun_in, is_begin}

-- this place is right behind so many turns that begin a query
pub record IsBehind (count : ℕ) (turns : List Turn) (place : ℕ) : Type 0 where
  pub within : place ≤ length turns
  pub behind : count_by is_begin (take place turns) ≡ count
  pub first : (k : ℕ) → k < place → count_by is_begin (take k turns) < count

-- A run over these lines is stopped: the queries that are begun before this place are the early ones, and the others the late ones.
pub record IsStopPlace (lines : List Line) (stop_at : Option ℕ) (place : ℕ) : Type 0 where
  pub stopped : is_stopped stop_at (answered_in lines) ≡ true
  pub early : begun_in (take place (comings_of lines)) ≡ early_of stop_at (answered_in lines)
  pub late : begun_in (drop place (comings_of lines)) ≡ late_of stop_at (answered_in lines)

-- A run over these lines isn't stopped: all answered queries are early.
pub record IsUnstopped (lines : List Line) (stop_at : Option ℕ) : Type 0 where
  pub stopped : is_stopped stop_at (answered_in lines) ≡ false
  pub early : early_of stop_at (answered_in lines) ≡ answered_in lines
  pub late : late_of stop_at (answered_in lines) ≡ []
