-- What a planner notes.
use Rattle.std.specs.Prelude.{◌≡◌, List, [], ◌∷◌, ◌++◌, Bool, true}
use Rattle.query_model.specs.declared.line.Line.{Line}
use Rattle.fan_model.specs.Comings.{Coming}
use Rattle.run_plan.specs.declared.turn.Turn.{Turn}
use Rattle.run_plan.specs.Turns.{turn_of}

-- where memory sufficed, the turn of what came is noted behind the others
pub record IsNoted (lines : List Line) (coming : Coming) (sufficed : Bool) (before after : List Turn) : Type 0 where
  pub noted : sufficed ≡ true → after ≡ before ++ turn_of lines coming ∷ []
