-- Each query has one reply.
use Rattle.std.proofs.Common.{◌≡◌, ℕ, suc, ◌+◌, List, [], ◌∷◌, length, cond, refl, sym, ap, ◌∙◌, arith, filter, map, length-append}
use Rattle.std.specs.Prelude.{is_none}
use Rattle.std.proofs.lemmas.List.{length-map}
use Rattle.query_model.specs.declared.line.Line.{Line}
use Rattle.query_model.specs.declared.line.Line.TheVariants as line
use Rattle.query_model.specs.declared.reply.Reply.{Reply}
use Rattle.query_model.specs.Documents.{queries_of}
use Rattle.query_model.specs.Order.{Asked, Outcome, asked_from, asked_in, left_in, outcome_of, replies_of, turn_by, turn_of}
use Rattle.query_model.proofs.SortedLists.{length-sorted_by}
use Rattle.fan_model.specs.Answered.{answered_before}
use Rattle.fan_model.specs.Comings.{Coming, come_in, comes, comes_by, coming_of, comings_of, reply_to}
use Rattle.fan_model.proofs.ComingLaws.{all_replied, coming_queries}

-- those that come and those that are left are all
comes_or_left : (lines : List Line) (queries : List Asked)
    → length (filter (comes lines) queries) + length (filter (λ a. is_none (turn_of lines a)) queries) ≡ length queries
comes_or_left lines [] = refl
comes_or_left lines (a ∷ queries) = by (outcome_of lines a) (comes_or_left lines queries)
  where
    C : List Asked
    C = filter (comes lines) queries

    L : List Asked
    L = filter (λ q. is_none (turn_of lines q)) queries

    by : (o : Outcome) → length C + length L ≡ length queries → length (cond (comes_by o) (a ∷ C) C) + length (cond (is_none (turn_by lines a o)) (a ∷ L) L) ≡ suc (length queries)
    by (Outcome.answered place) rest = omega arith
    by (Outcome.cancelled place) rest = omega arith
    by Outcome.left rest = omega arith

asked_are_queries : (number place : ℕ) (lines : List Line) → length (asked_from number place lines) ≡ length (queries_of lines)
asked_are_queries number place [] = refl
asked_are_queries number place (line.Doc doc ∷ lines) = asked_are_queries number (place + 1) lines
asked_are_queries number place (line.Query query ∷ lines) = ap suc (asked_are_queries (number + 1) (place + 1) lines)
asked_are_queries number place (line.Tick n ∷ lines) = asked_are_queries number (place + 1) lines
asked_are_queries number place (line.Cancel n ∷ lines) = asked_are_queries number (place + 1) lines

pub comings_many : (lines : List Line) → length (comings_of lines) ≡ length (queries_of lines)
unfolding comings_of come_in
comings_many lines =
    length-append (come_in lines) (map Coming.cancels (left_in lines))
    ∙ (ap (λ (n : ℕ). n + length (map Coming.cancels (left_in lines))) (length-map (coming_queries lines) (coming_of lines) ∙ length-sorted_by (answered_before lines) (filter (comes lines) (asked_in lines)))
    ∙ (ap (λ (n : ℕ). length (filter (comes lines) (asked_in lines)) + n) (length-map (left_in lines) Coming.cancels)
    ∙ (comes_or_left lines (asked_in lines) ∙ asked_are_queries 1 0 lines)))

pub replies_many : (lines : List Line) → length (replies_of lines) ≡ length (queries_of lines)
replies_many lines =
    ap (λ (l : List (ℕ × Reply)). length l) (sym (all_replied lines)) ∙ (length-map (comings_of lines) (reply_to lines) ∙ comings_many lines)
