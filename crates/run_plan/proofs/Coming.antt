-- What comes at a place, and its turn.
use Rattle.std.proofs.Common.{◌≡◌, ℕ, suc, ◌+◌, ◌-◌, ◌<◌, ◌≤◌, List, [], ◌∷◌, ◌++◌, length, get_or, take, drop, map, Some, refl, sym, ap, ◌∙◌, arith}
use Rattle.std.specs.Prelude.{slice_get}
use Rattle.std.specs.List.{count_by, range_with_len}
use Rattle.std.proofs.lemmas.List.{append-nil, length-drop, length-map, length-take}
use Rattle.std.proofs.lemmas.List.FromFn.{length-range_with_len}
use Rattle.std.proofs.lemmas.Option.{slice_get-get_or, slice_get_within}
use Rattle.std.proofs.Math.Seq.{take-length}
use Rattle.query_model.specs.declared.line.Line.{Line}
use Rattle.query_model.specs.declared.line.Line.TheVariants as line
use Rattle.query_model.specs.Documents.{queries_of}
use Rattle.query_model.specs.Lines.{is_query}
use Rattle.query_model.specs.Order.{Asked, asked_in}
use Rattle.query_model.proofs.ListFacts.{drop_one_more}
use Rattle.fan_model.specs.Answered.{answered_in}
use Rattle.fan_model.specs.Comings.{Coming, ComesAt, IsAsked, begun_by, comings_of, query_of}
use Rattle.fan_model.specs.Report.{Asking}
use Rattle.fan_parts.specs.Facts.{IsCountable}
use Rattle.front_walk.specs.Following.{IsInput}
use Rattle.query_opening.specs.Turns.{IsBegun, IsCancelled}
use Rattle.run_plan.specs.declared.turn.BegunQuery.{BegunQuery}
use Rattle.run_plan.specs.declared.turn.Turn.{Turn}
use Rattle.run_plan.specs.declared.turn.Turn.TheVariants as turn
use Rattle.run_plan.specs.Turns.{AreTurnsOf, begun_between, begun_in, begun_query, turn_of}
use Rattle.run_plan.proofs.Lists.{count_first, length-filter_map-le, at_map, drop_none, drop_of_take, given_between_more}

queries_counted : (lines : List Line) → count_by is_query lines ≡ length (queries_of lines)
queries_counted [] = refl
queries_counted (line.Doc doc ∷ lines) = queries_counted lines
queries_counted (line.Query query ∷ lines) = count_first is_query (line.Query query) lines ∙ ap suc (queries_counted lines)
queries_counted (line.Tick n ∷ lines) = queries_counted lines
queries_counted (line.Cancel n ∷ lines) = queries_counted lines

-- the number of a query is at most the number of queries
pub number_is_few : (lines : List Line) (a : Asked) → map (λ (b : Asked). b.number) (asked_in lines) ≡ range_with_len 1 (count_by is_query lines) → IsAsked lines a → a.number ≤ length (queries_of lines)
number_is_few lines a numbers is =
    let many : length (asked_in lines) ≡ length (queries_of lines) = sym (length-map (asked_in lines) (λ (b : Asked). b.number)) ∙ (ap length numbers ∙ (length-range_with_len 1 (count_by is_query lines) ∙ queries_counted lines)) in
    let within : a.number - 1 < length (asked_in lines) = slice_get_within (asked_in lines) (a.number - 1) a is.at in
    omega (arith, many, within, is.from_one)

-- this turn begins a query
pub record Begins (lines : List Line) (place : ℕ) (q : BegunQuery) : Type 0 where
  pub asked : Asked
  pub comes : ComesAt lines place (Coming.begins asked)
  pub is : begun_query lines asked ≡ q

pub turn_begins : (lines : List Line) (turns : List Turn) (place : ℕ) (q : BegunQuery) → AreTurnsOf lines turns → slice_get turns place ≡ Some (turn.Begin q) → Begins lines place q
turn_begins lines turns place q are at =
    let found = at_map (turn_of lines) (comings_of lines) place (turn.Begin q) (sym (ap (λ (ts : List Turn). slice_get ts place) are.are) ∙ at) in
    by found.0 found.1 found.2
  where
    by : (c : Coming) → slice_get (comings_of lines) place ≡ Some c → turn_of lines c ≡ turn.Begin q → Begins lines place q
    by (Coming.begins asked) here same = record { asked = asked; comes = record { at = here }; is = cc }
    by (Coming.cancels asked) here same = absurd cc

pub record Cancels (lines : List Line) (place number : ℕ) : Type 0 where
  pub asked : Asked
  pub comes : ComesAt lines place (Coming.cancels asked)
  pub is : asked.number ≡ number

pub turn_cancels : (lines : List Line) (turns : List Turn) (place number : ℕ) → AreTurnsOf lines turns → slice_get turns place ≡ Some (turn.Cancel number) → Cancels lines place number
turn_cancels lines turns place number are at =
    let found = at_map (turn_of lines) (comings_of lines) place (turn.Cancel number) (sym (ap (λ (ts : List Turn). slice_get ts place) are.are) ∙ at) in
    by found.0 found.1 found.2
  where
    by : (c : Coming) → slice_get (comings_of lines) place ≡ Some c → turn_of lines c ≡ turn.Cancel number → Cancels lines place number
    by (Coming.begins asked) here same = absurd cc
    by (Coming.cancels asked) here same = record { asked = asked; comes = record { at = here }; is = cc }

pub begun_of_run : (asked : Asking) (turns : List Turn) (place : ℕ) (q : BegunQuery)
    → ((lines : List Line) (at : ℕ) (coming : Coming) → ComesAt lines at coming → (query_of coming).number ≤ length (queries_of lines))
    → AreTurnsOf asked.lines turns → IsInput asked.lines → IsCountable asked → slice_get turns place ≡ Some (turn.Begin q) → IsBegun asked place q.number q.line q.documents
begun_of_run asked turns place q few are input countable at =
    let b = turn_begins asked.lines turns place q are at in
    let number : q.number ≡ b.asked.number = ap (λ (x : BegunQuery). x.number) (sym b.is) in
    record {
      query = b.asked;
      comes = b.comes;
      number_is = number;
      line_is = ap (λ (x : BegunQuery). x.line) (sym b.is);
      documents_are = ap (λ (x : BegunQuery). x.documents) (sym b.is);
      few = omega (arith, number, few asked.lines place (Coming.begins b.asked) b.comes, input.limits.few_queries);
      countable = countable;
    }

pub cancelled_of_run : (asked : Asking) (turns : List Turn) (place number : ℕ) → AreTurnsOf asked.lines turns → slice_get turns place ≡ Some (turn.Cancel number) → IsCancelled asked place number
cancelled_of_run asked turns place number are at =
    let b = turn_cancels asked.lines turns place number are at in
    record { query = b.asked; comes = b.comes; number_is = sym b.is }

pub turns_many : (lines : List Line) (turns : List Turn) → AreTurnsOf lines turns → length turns ≡ length (comings_of lines)
turns_many lines turns are = ap length are.are ∙ length-map (comings_of lines) (turn_of lines)

pub none_between : (lines : List Line) (place : ℕ) → begun_between lines place place ≡ []
none_between lines place = ap begun_in (drop_of_take place (comings_of lines))

pub begun_more : (lines : List Line) (start place : ℕ) (asked : Asked) → ComesAt lines place (Coming.begins asked) → start ≤ place
    → begun_between lines start (place + 1) ≡ begun_between lines start place ++ asked ∷ []
begun_more lines start place asked comes le = given_between_more begun_by (comings_of lines) start place (Coming.begins asked) comes.at le

pub cancelled_more : (lines : List Line) (start place : ℕ) (asked : Asked) → ComesAt lines place (Coming.cancels asked) → start ≤ place
    → begun_between lines start (place + 1) ≡ begun_between lines start place
cancelled_more lines start place asked comes le = given_between_more begun_by (comings_of lines) start place (Coming.cancels asked) comes.at le ∙ append-nil (begun_between lines start place)

pub between_first : (lines : List Line) (place : ℕ) → begun_between lines 0 place ≡ begun_in (take place (comings_of lines))
between_first lines place = ap begun_in (drop_none (take place (comings_of lines)))

all_taken : (lines : List Line) (turns : List Turn) → AreTurnsOf lines turns → take (length turns) (comings_of lines) ≡ comings_of lines
all_taken lines turns are = ap (λ (n : ℕ). take n (comings_of lines)) (turns_many lines turns are) ∙ take-length (comings_of lines)

pub between_last : (lines : List Line) (turns : List Turn) (place : ℕ) → AreTurnsOf lines turns → begun_between lines place (length turns) ≡ begun_in (drop place (comings_of lines))
between_last lines turns place are = ap (λ (cs : List Coming). begun_in (drop place cs)) (all_taken lines turns are)

pub between_all : (lines : List Line) (turns : List Turn) → begun_in (comings_of lines) ≡ answered_in lines → AreTurnsOf lines turns → begun_between lines 0 (length turns) ≡ answered_in lines
between_all lines turns begun are = between_last lines turns 0 are ∙ (ap begun_in (drop_none (comings_of lines)) ∙ begun)

one_on : (n : ℕ) → suc n ≡ n + 1
one_on n = omega arith

pub next_is_begun : (lines : List Line) (place : ℕ) (asked : Asked) → ComesAt lines place (Coming.begins asked) → begun_in (drop place (comings_of lines)) ≡ asked ∷ begun_in (drop (place + 1) (comings_of lines))
next_is_begun lines place asked comes =
    ap begun_in (drop_one_more (comings_of lines) place (Coming.begins asked) comes.at) ∙ ap (λ (n : ℕ). asked ∷ begun_in (drop n (comings_of lines))) (one_on place)

pub next_is_cancelled : (lines : List Line) (place : ℕ) (asked : Asked) → ComesAt lines place (Coming.cancels asked) → begun_in (drop place (comings_of lines)) ≡ begun_in (drop (place + 1) (comings_of lines))
next_is_cancelled lines place asked comes =
    ap begun_in (drop_one_more (comings_of lines) place (Coming.cancels asked) comes.at) ∙ ap (λ (n : ℕ). begun_in (drop n (comings_of lines))) (one_on place)

pub few_between : (lines : List Line) (turns : List Turn) (start place most : ℕ) → length turns ≤ most → AreTurnsOf lines turns → length (begun_between lines start place) ≤ most
few_between lines turns start place most few are =
    let cs : List Coming = drop start (take place (comings_of lines)) in
    omega (arith, few, length-filter_map-le begun_by cs, length-drop start (take place (comings_of lines)), length-take place (comings_of lines), turns_many lines turns are)

-- the query of a turn, as it is counted
pub record Said (lines : List Line) (place : ℕ) (q : BegunQuery) : Type 0 where
  pub asked : Asked
  pub comes : ComesAt lines place (Coming.begins asked)
  pub names : q.number ≡ asked.number
  pub from_one : 1 ≤ q.number
  pub said : slice_get lines q.line ≡ Some (line.Query asked.query)

pub said_at : (lines : List Line) (turns : List Turn) (place : ℕ) (q : BegunQuery)
    → ((ls : List Line) (p : ℕ) (a : Asked) → ComesAt ls p (Coming.begins a) → slice_get ls a.place ≡ Some (line.Query a.query))
    → ((ls : List Line) (p : ℕ) (a : Asked) → ComesAt ls p (Coming.begins a) → 1 ≤ a.number)
    → AreTurnsOf lines turns → place < length turns → (d : Turn) → get_or turns place d ≡ turn.Begin q → Said lines place q
said_at lines turns place q line_of from_one are within d at =
    let b = turn_begins lines turns place q are (slice_get-get_or turns place d within ∙ ap (λ (t : Turn). Some t) at) in
    let names : q.number ≡ b.asked.number = ap (λ (x : BegunQuery). x.number) (sym b.is) in
    record {
      asked = b.asked;
      comes = b.comes;
      names = names;
      from_one = omega (arith, names, from_one lines place b.asked b.comes);
      said = ap (λ (x : BegunQuery). slice_get lines x.line) (sym b.is) ∙ line_of lines place b.asked b.comes;
    }

pub cancelled_at : (lines : List Line) (turns : List Turn) (place number : ℕ) → AreTurnsOf lines turns → place < length turns → (d : Turn) → get_or turns place d ≡ turn.Cancel number → Cancels lines place number
cancelled_at lines turns place number are within d at = turn_cancels lines turns place number are (slice_get-get_or turns place d within ∙ ap (λ (t : Turn). Some t) at)
