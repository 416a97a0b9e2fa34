-- What comes of queries, by their outcomes and due ticks alone.
use Rattle.std.proofs.Common.{◌≡◌, ℕ, List, ◌++◌, ap, ◌∙◌}
use Rattle.std.specs.Prelude.{map, filter}
use Rattle.std.proofs.Math.Path.{fun_ext}
use Rattle.query_model.specs.declared.line.Line.{Line}
use Rattle.query_model.specs.declared.reply.Reply.TheVariants as reply
use Rattle.query_model.specs.Sorting.{sorted_by}
use Rattle.query_model.specs.Order.{Asked, Outcome, Turn, asked_in, comes_before, due_of, left_in, outcome_of}
use Rattle.fan_model.specs.Answered.{answered_in, is_answered_by, line_of}
use Rattle.fan_model.specs.Comings.{Coming, come_in, comes_by, coming_by, comings_of}

-- where a query stands in the order of answers, by its outcome and its due tick
abbrev stands_by : (Asked → Outcome) → (Asked → ℕ) → Asked → Turn
stands_by outcome due a = record { place = line_of (outcome a); due = due a; number = a.number; reply = reply.Cancelled }

abbrev in_order_by : (Asked → Outcome) → (Asked → ℕ) → List Asked → List Asked
in_order_by outcome due asked = sorted_by (λ a b. comes_before (stands_by outcome due a) (stands_by outcome due b)) asked

abbrev answered_by : (Asked → Outcome) → (Asked → ℕ) → List Asked → List Asked
answered_by outcome due asked = in_order_by outcome due (filter (λ a. is_answered_by (outcome a)) asked)

abbrev come_by : (Asked → Outcome) → (Asked → ℕ) → List Asked → List Coming
come_by outcome due asked = map (λ a. coming_by a (outcome a)) (in_order_by outcome due (filter (λ a. comes_by (outcome a)) asked))

by_parts : {B : Type 0} (f : (Asked → Outcome) → (Asked → ℕ) → List Asked → B) (lines others : List Line)
    → ((a : Asked) → outcome_of lines a ≡ outcome_of others a) → ((a : Asked) → due_of lines a ≡ due_of others a) → asked_in lines ≡ asked_in others
    → f (outcome_of lines) (due_of lines) (asked_in lines) ≡ f (outcome_of others) (due_of others) (asked_in others)
by_parts f lines others outcomes dues asked =
    ap (λ (o : Asked → Outcome). f o (due_of lines) (asked_in lines)) (fun_ext outcomes)
    ∙ (ap (λ (d : Asked → ℕ). f (outcome_of others) d (asked_in lines)) (fun_ext dues)
    ∙ ap (λ (qs : List Asked). f (outcome_of others) (due_of others) qs) asked)

pub same_answered : (lines others : List Line)
    → ((a : Asked) → outcome_of lines a ≡ outcome_of others a) → ((a : Asked) → due_of lines a ≡ due_of others a) → asked_in lines ≡ asked_in others
    → answered_in lines ≡ answered_in others
unfolding answered_in
same_answered lines others outcomes dues asked = by_parts answered_by lines others outcomes dues asked

same_come : (lines others : List Line)
    → ((a : Asked) → outcome_of lines a ≡ outcome_of others a) → ((a : Asked) → due_of lines a ≡ due_of others a) → asked_in lines ≡ asked_in others
    → come_in lines ≡ come_in others
unfolding come_in
same_come lines others outcomes dues asked = by_parts come_by lines others outcomes dues asked

pub same_comings : (lines others : List Line)
    → ((a : Asked) → outcome_of lines a ≡ outcome_of others a) → ((a : Asked) → due_of lines a ≡ due_of others a) → asked_in lines ≡ asked_in others
    → left_in lines ≡ left_in others
    → comings_of lines ≡ comings_of others
unfolding comings_of
same_comings lines others outcomes dues asked left =
    ap (λ (l : List Coming). l ++ map Coming.cancels (left_in lines)) (same_come lines others outcomes dues asked)
    ∙ ap (λ (qs : List Asked). come_in others ++ map Coming.cancels qs) left
