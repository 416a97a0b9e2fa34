-- What a walk keeps behind some lines.
use Rattle.std.specs.Prelude.{◌≡◌, ℕ, ◌+◌, Bool, true, false, List, [], ◌∷◌, ◌++◌, length, map, take, slice_get, Option, Some, None}
use Rattle.std.specs.List.{count_by, sum_by}
use Rattle.query_model.specs.declared.line.Line.{Line}
use Rattle.query_model.specs.declared.line.Line.TheVariants as line
use Rattle.query_model.specs.Documents.{IsWithinLimits, docs_of}
use Rattle.query_model.specs.Lines.{is_query, ticks_of}
use Rattle.query_model.specs.Order.{Asked, docs_before, due_of, left_in}
use Rattle.fan_model.specs.Comings.{Coming, ComesAt, IsAsked, come_at_line, come_in}
use Rattle.query_timers.specs.declared.query.DelayedQuery.{DelayedQuery}
use Rattle.front_walk.specs.declared.state.WalkState.{WalkState}
use Rattle.front_walk.specs.Coming.{Came, IsCut}

-- lines of an input that was accepted
pub record IsInput (lines : List Line) : Type 0 where
  pub shards : ℕ
  pub limits : IsWithinLimits lines shards

-- a query as the timers have it
abbrev pub kept_in : List Line → Asked → DelayedQuery
kept_in lines asked = record { number = asked.number; line = asked.place; documents = length (docs_before lines asked); due = due_of lines asked }

abbrev pub is_some : {A : Type 0} → Option A → Bool
is_some None = false
is_some (Some x) = true

abbrev pub is_delayed : Line → Bool
is_delayed (line.Doc doc) = false
is_delayed (line.Query query) = is_some query.delay
is_delayed (line.Tick n) = false
is_delayed (line.Cancel n) = false

-- behind these of all lines
pub record Follows (all lines : List Line) (state : WalkState) : Type 0 where
  pub tick : state.timers.tick ≡ sum_by ticks_of lines
  pub asked : state.timers.asked ≡ count_by is_query lines
  pub waiting : state.timers.waiting ≡ map (kept_in lines) (left_in lines)
  pub fired : state.timers.fired ≡ []
  pub homes : state.timers.homes + count_by is_delayed lines ≡ count_by is_delayed all
  pub documents : state.documents ≡ length (docs_of lines)
  pub place : state.place ≡ length (come_in lines)

-- behind one line more, at which what comes there came
pub record Steps {W : Type 0} (does : ℕ → Coming → W → Bool → W → Type 0) (all : List Line) (i : ℕ) (l : Line) (old : WalkState) (w : W) (new : WalkState) (v : W) : Type 0 where
  pub follows : Follows all (take i all ++ l ∷ []) new
  pub came : Came does old.place w (come_at_line (take i all) l) v

-- a query that was kept is begun at this place
pub record IsTurnOf (lines : List Line) (place : ℕ) (query : DelayedQuery) : Type 0 where
  pub asked : Asked
  pub comes : ComesAt lines place (Coming.begins asked)
  pub is_asked : IsAsked lines asked
  pub kept : query ≡ kept_in lines asked

-- one line more, which is the one at this place
pub record StepsAt {W : Type 0} (does : ℕ → Coming → W → Bool → W → Type 0) (all : List Line) (i : ℕ) (old : WalkState) (w : W) (new : WalkState) (v : W) : Type 0 where
  pub l : Line
  pub is : slice_get all i ≡ Some l
  pub steps : Steps does all i l old w new v

-- of what comes at the line at this place only some came
pub record CutAt {W : Type 0} (does : ℕ → Coming → W → Bool → W → Type 0) (all : List Line) (i place : ℕ) (w v : W) : Type 0 where
  pub l : Line
  pub is : slice_get all i ≡ Some l
  pub cut : IsCut does place w (come_at_line (take i all) l) v
