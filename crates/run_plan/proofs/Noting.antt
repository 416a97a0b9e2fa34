-- What a planner has noted behind a walk.
use Rattle.std.proofs.Common.{◌≡◌, ℕ, ◌+◌, List, [], ◌∷◌, ◌++◌, length, map, Bool, true, Option, Some, sym, ap, ◌∙◌, append_assoc}
use Rattle.std.specs.Prelude.{slice_get}
use Rattle.std.proofs.lemmas.List.{append-nil}
use Rattle.query_model.specs.declared.line.Line.{Line}
use Rattle.query_model.specs.declared.line.Query.{Query}
use Rattle.query_model.specs.Order.{Asked, docs_before}
use Rattle.fan_model.specs.Comings.{Coming, ComesAt, comings_of}
use Rattle.front_walk.specs.declared.at_turn.QueryTurn.{QueryTurn}
use Rattle.front_walk.specs.Coming.{Came, ComesThrough}
use Rattle.front_walk.specs.Turns.{IsBeginning, IsCancelling}
use Rattle.run_plan.specs.declared.turn.BegunQuery.{BegunQuery}
use Rattle.run_plan.specs.declared.turn.Turn.{Turn}
use Rattle.run_plan.specs.declared.turn.Turn.TheVariants as turn
use Rattle.run_plan.specs.Turns.{AreTurnsOf, begun_query, turn_of}

pub begun_is : (lines : List Line) (place : ℕ) (t : QueryTurn) (query : Query) (asked : Asked) → IsBeginning lines place t query → ComesAt lines place (Coming.begins asked)
    → turn.Begin (record { number = t.number; line = t.line; documents = t.documents }) ≡ turn_of lines (Coming.begins asked)
begun_is lines place t query asked b comes =
    let same : b.asked ≡ asked = one (slice_get (comings_of lines) place) b.asked asked b.comes.at comes.at in
    let q : BegunQuery = record { number = t.number; line = t.line; documents = t.documents } in
    let first : q ≡ begun_query lines b.asked = fields t.number t.line t.documents b.asked.number b.asked.place (length (docs_before lines b.asked)) b.number b.line b.documents in
    ap (λ (x : BegunQuery). turn.Begin x) (first ∙ ap (begun_query lines) same)
  where
    one : (o : Option Coming) (x y : Asked) → o ≡ Some (Coming.begins x) → o ≡ Some (Coming.begins y) → x ≡ y
    one o x y e f = cc

    fields : (n l d m k e : ℕ) → n ≡ m → l ≡ k → d ≡ e → let a : BegunQuery = record { number = n; line = l; documents = d } in let b : BegunQuery = record { number = m; line = k; documents = e } in a ≡ b
    fields n l d m k e p q r = cc

pub cancelled_is : (lines : List Line) (place number : ℕ) (asked : Asked) → IsCancelling lines place number → ComesAt lines place (Coming.cancels asked) → turn.Cancel number ≡ turn_of lines (Coming.cancels asked)
cancelled_is lines place number asked b comes =
    let same : b.asked ≡ asked = one (slice_get (comings_of lines) place) b.asked asked b.comes.at comes.at in
    ap (λ (n : ℕ). turn.Cancel n) (b.names ∙ ap (λ (a : Asked). a.number) same)
  where
    one : (o : Option Coming) (x y : Asked) → o ≡ Some (Coming.cancels x) → o ≡ Some (Coming.cancels y) → x ≡ y
    one o x y e f = cc

module _ {W : Type 0} (does : ℕ → Coming → W → Bool → W → Type 0) (kept : W → List Turn) (lines : List Line)
    (each : (place : ℕ) (c : Coming) (w v : W) → does place c w true v → kept v ≡ kept w ++ turn_of lines c ∷ []) where
  noted_through : (place : ℕ) (w v : W) (cs : List Coming) → ComesThrough does place w cs v → kept v ≡ kept w ++ map (turn_of lines) cs
  noted_through place w v [] same = ap kept (sym same) ∙ sym (append-nil (kept w))
  noted_through place w v (c ∷ cs) through =
      let rest : kept v ≡ kept through.0 ++ map (turn_of lines) cs = noted_through (place + 1) through.0 v cs through.2 in
      let first : kept through.0 ≡ kept w ++ turn_of lines c ∷ [] = each place c w through.0 through.1 in
      rest ∙ (ap (λ (ts : List Turn). ts ++ map (turn_of lines) cs) first ∙ append_assoc (kept w) (turn_of lines c ∷ []) (map (turn_of lines) cs))

  pub all_noted : (all : List Line) (w v : W) → all ≡ lines → kept w ≡ [] → Came does 0 w (comings_of all) v → AreTurnsOf all (kept v)
  all_noted all w v same none came = record {
    are = noted_through 0 w v (comings_of all) came.through ∙ (ap (λ (ts : List Turn). ts ++ map (turn_of lines) (comings_of all)) none ∙ ap (λ (ls : List Line). map (turn_of ls) (comings_of all)) (sym same));
  }
