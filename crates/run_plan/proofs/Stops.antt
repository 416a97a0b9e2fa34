-- Where a run is stopped.
use Rattle.std.proofs.Common.{◌≡◌, ℕ, zero, suc, ◌<◌, ◌≤◌, List, [], ◌∷◌, length, take, drop, map, true, false, Option, Some, None, subst, refl, sym, ap, ◌∙◌, arith}
use Rattle.std.specs.Prelude.{IfNone, IfSome, nat_le}
use Rattle.std.specs.List.{count_by, filter_map}
use Rattle.std.proofs.lemmas.Bool.Decides.{nat_tests}
use Rattle.std.proofs.lemmas.List.{take-map, take_all, drop_all}
use Rattle.query_model.specs.declared.line.Line.{Line}
use Rattle.query_model.specs.Order.{Asked}
use Rattle.fan_model.specs.Answered.{answered_in}
use Rattle.fan_model.specs.Comings.{Coming, begun_by, comings_of}
use Rattle.run_plan.specs.declared.turn.Turn.{Turn}
use Rattle.run_plan.specs.Stopping.{IsBehind, IsStopPlace, IsUnstopped}
use Rattle.run_plan.specs.Turns.{AreTurnsOf, begun_in, is_begin, turn_of}
use Rattle.run_plan.proofs.Lists.{count_first, split_given}

begins_counted : (lines : List Line) (cs : List Coming) → count_by is_begin (map (turn_of lines) cs) ≡ length (begun_in cs)
begins_counted lines [] = refl
begins_counted lines (Coming.begins asked ∷ cs) = count_first is_begin (turn_of lines (Coming.begins asked)) (map (turn_of lines) cs) ∙ ap suc (begins_counted lines cs)
begins_counted lines (Coming.cancels asked ∷ cs) = begins_counted lines cs

reached : (n m : ℕ) → n ≤ m → nat_le n m ≡ true
reached n m le = grind (arith, nat_tests)

missed : (n m : ℕ) → m < n → nat_le n m ≡ false
missed n m lt = grind (arith, nat_tests)

stops_there : (lines : List Line) (turns : List Turn) (stop place : ℕ) → filter_map begun_by (comings_of lines) ≡ answered_in lines → AreTurnsOf lines turns → IsBehind stop turns place
    → IsStopPlace lines (Some stop) place
stops_there lines turns stop place begun are behind =
    let cs : List Coming = comings_of lines in
    let turned : take place turns ≡ map (turn_of lines) (take place cs) = ap (take place) are.are ∙ take-map (turn_of lines) place cs in
    let many : length (begun_in (take place cs)) ≡ stop = sym (begins_counted lines (take place cs)) ∙ (ap (count_by is_begin) (sym turned) ∙ behind.behind) in
    let split = split_given begun_by cs place stop many in
    record {
      stopped = ap (λ (queries : List Asked). nat_le stop (length queries)) (sym begun) ∙ reached stop (length (begun_in cs)) split.2;
      early = split.0 ∙ ap (take stop) begun;
      late = split.1 ∙ ap (drop stop) begun;
    }

stops_nowhere : (lines : List Line) (turns : List Turn) (stop : ℕ) → filter_map begun_by (comings_of lines) ≡ answered_in lines → AreTurnsOf lines turns → count_by is_begin turns < stop
    → IsUnstopped lines (Some stop)
stops_nowhere lines turns stop begun are fewer =
    let many : count_by is_begin turns ≡ length (answered_in lines) = ap (count_by is_begin) are.are ∙ (begins_counted lines (comings_of lines) ∙ ap length begun) in
    let few : length (answered_in lines) < stop = omega (arith, many, fewer) in
    record {
      stopped = missed stop (length (answered_in lines)) few;
      early = take_all stop (answered_in lines) (omega arith);
      late = drop_all stop (answered_in lines) (omega arith);
    }

pub some_place : (lines : List Line) (turns : List Turn) (stop_at : Option ℕ) (stop : ℕ) (result : Option ℕ) → stop_at ≡ Some stop → filter_map begun_by (comings_of lines) ≡ answered_in lines → AreTurnsOf lines turns
    → IfSome result (IsBehind stop turns) → IfSome result (IsStopPlace lines stop_at)
some_place lines turns stop_at stop None is begun are behind = behind
some_place lines turns stop_at stop (Some place) is begun are behind =
    subst (λ (o : Option ℕ). IsStopPlace lines o place) (sym is) (stops_there lines turns stop place begun are behind)

pub no_place : (lines : List Line) (turns : List Turn) (stop_at : Option ℕ) (stop : ℕ) (result : Option ℕ) → stop_at ≡ Some stop → filter_map begun_by (comings_of lines) ≡ answered_in lines → AreTurnsOf lines turns
    → IfNone result (count_by is_begin turns < stop) → IfNone result (IsUnstopped lines stop_at)
no_place lines turns stop_at stop None is begun are fewer = subst (λ (o : Option ℕ). IsUnstopped lines o) (sym is) (stops_nowhere lines turns stop begun are fewer)
no_place lines turns stop_at stop (Some place) is begun are fewer = fewer
