-- The turns of alike lines, and how many of their queries are answered.
use Rattle.std.proofs.Common.{◌≡◌, ℕ, List, length, map, refl, ap, ◌∙◌}
use Rattle.std.specs.List.{range_with_len}
use Rattle.std.proofs.Math.Path.{fun_ext}
use Rattle.query_model.specs.declared.line.Line.{Line}
use Rattle.query_model.specs.Order.{Asked, docs_before}
use Rattle.fan_model.specs.Answered.{answered_in, tops_in}
use Rattle.fan_model.specs.Comings.{Coming, comings_of}
use Rattle.run_notes.specs.declared.counting.Counted.{Counted}
use Rattle.run_notes.specs.Counting.{HasCounted, gathered_on}
use Rattle.run_plan.specs.declared.turn.BegunQuery.{BegunQuery}
use Rattle.run_plan.specs.declared.turn.Turn.{Turn}
use Rattle.run_plan.specs.declared.turn.Turn.TheVariants as turn
use Rattle.run_plan.specs.Turns.{AreTurnsOf, turn_of}

same_turn : (lines others : List Line) → ((a : Asked) → length (docs_before lines a) ≡ length (docs_before others a)) → (c : Coming) → turn_of lines c ≡ turn_of others c
same_turn lines others before (Coming.begins a) =
    ap (λ (n : ℕ). let q : BegunQuery = record { number = a.number; line = a.place; documents = n } in turn.Begin q) (before a)
same_turn lines others before (Coming.cancels a) = refl

pub turns_of_alike : (lines others : List Line) (turns : List Turn) → ((a : Asked) → length (docs_before lines a) ≡ length (docs_before others a))
    → comings_of lines ≡ comings_of others → AreTurnsOf lines turns → AreTurnsOf others turns
turns_of_alike lines others turns before comings are = record {
  are = are.are ∙ (ap (λ (f : Coming → Turn). map f (comings_of lines)) (fun_ext (same_turn lines others before)) ∙ ap (λ (cs : List Coming). map (turn_of others) cs) comings);
}

pub counts_of_alike : (lines others : List Line) (bases : ℕ) (counted : Counted) → answered_in lines ≡ answered_in others → HasCounted lines bases counted → HasCounted others bases counted
counts_of_alike lines others bases counted same counts = record {
  answered = counts.answered ∙ ap (λ (qs : List Asked). length qs) same;
  tops = counts.tops ∙ ap (λ (qs : List Asked). tops_in qs) same;
  by_base = counts.by_base ∙ ap (λ (qs : List Asked). map (gathered_on bases qs) (range_with_len 1 bases)) same;
}
