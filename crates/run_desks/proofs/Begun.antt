-- What is known of a turn, and of a query that is begun.
use Rattle.std.proofs.Common.{◌≡◌, ◌≤◌, ℕ, ◌-◌, List, sym, ap, ◌∙◌, subst, Some}
use Rattle.std.specs.List.{All, slice_get}
use Rattle.query_model.specs.declared.line.Line.{Line}
use Rattle.query_model.specs.declared.line.Line.TheVariants as line
use Rattle.query_model.specs.Order.{asked_in, left_in}
use Rattle.fan_model.specs.Comings.{Coming, IsAsked, come_in, query_of}
use Rattle.fan_model.specs.Report.{Asking}
use Rattle.fan_parts.specs.Facts.{IsAskOf, IsCountable}
use Rattle.fan_parts.specs.Seen.{AskSeen}
use Rattle.front_walk.specs.Following.{IsInput}
use Rattle.query_opening.specs.Turns.{IsBegun, IsCancelled}
use Rattle.query_opening.proofs.Begun.{is_asked}
use Rattle.run_plan.specs.declared.turn.BegunQuery.{BegunQuery}
use Rattle.run_plan.specs.declared.turn.Turn.{Turn}
use Rattle.run_plan.specs.declared.turn.Turn.TheVariants as turn
use Rattle.run_plan.specs.Turns.{AreTurnsOf}
use Rattle.run_desks.specs.Turns.{IsTurnAt}

-- the laws of the queries that come, as the call gives them
pub record AskedLaws (lines : List Line) : Type 0 where
  pub asked : All (λ (c : Coming). IsAsked lines (query_of c)) (come_in lines)
  pub left : All (IsAsked lines) (left_in lines)

pub begun_is_asked : (asked : Asking) (place number at documents : ℕ) (b : IsBegun asked place number at documents) → AskedLaws asked.lines → IsAsked asked.lines b.query
begun_is_asked asked place number at documents b laws = is_asked asked.lines place (Coming.begins b.query) laws.asked laws.left b.comes.at

pub line_of_begun : (asked : Asking) (place number at documents : ℕ) (b : IsBegun asked place number at documents) → IsAsked asked.lines b.query
    → slice_get asked.lines at ≡ Some (line.Query b.query.query)
line_of_begun asked place number at documents b is = ap (λ (k : ℕ). slice_get asked.lines k) b.line_is ∙ is.line

pub begun_from_one : (asked : Asking) (place number at documents : ℕ) (b : IsBegun asked place number at documents) → IsAsked asked.lines b.query → 1 ≤ number
begun_from_one asked place number at documents b is = subst (λ (k : ℕ). 1 ≤ k) (sym b.number_is) is.from_one

pub same_query : (asked : Asking) (place number at documents : ℕ) (b : IsBegun asked place number at documents) → IsAsked asked.lines b.query
    → (ask : AskSeen) (is_ask : IsAskOf asked ask.number ask.asks ask.before) → ask.number ≡ number → is_ask.query ≡ b.query
same_query asked place number at documents b is ask is_ask here =
    let same : Some is_ask.query ≡ Some b.query = sym is_ask.at ∙ (ap (λ (k : ℕ). slice_get (asked_in asked.lines) (k - 1)) (here ∙ b.number_is) ∙ is.at) in cc

-- the laws of turns, as the call gives them
pub record TurnLaws (asked : Asking) : Type 0 where
  pub begun : (turns : List Turn) (place : ℕ) (query : BegunQuery) → AreTurnsOf asked.lines turns → IsInput asked.lines → IsCountable asked
      → slice_get turns place ≡ Some (turn.Begin query) → IsBegun asked place query.number query.line query.documents
  pub cancelled : (turns : List Turn) (place number : ℕ) → AreTurnsOf asked.lines turns
      → slice_get turns place ≡ Some (turn.Cancel number) → IsCancelled asked place number

pub turn_at : (asked : Asking) → TurnLaws asked → (turns : List Turn) (place : ℕ) (t : Turn) → AreTurnsOf asked.lines turns → IsInput asked.lines → IsCountable asked
    → slice_get turns place ≡ Some t → IsTurnAt asked place t
turn_at asked laws turns place (turn.Begin query) are input countable at = laws.begun turns place query are input countable at
turn_at asked laws turns place (turn.Cancel number) are input countable at = laws.cancelled turns place number are at
