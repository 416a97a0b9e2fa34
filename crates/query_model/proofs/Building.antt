-- Inputs of a few short lines are read by computing.
use Rattle.std.proofs.Common.{◌≡◌, ℕ, ◌+◌, ◌≤◌, List, [], ◌∷◌, ◌++◌, length, take, Bool, true, ◌&&◌, Option, Ok, Err, refl, sym, subst, arith, inl, inr, append_assoc, append-nil}
use Rattle.std.specs.Prelude.{nat_le}
use Rattle.std.specs.Option.{option_to_list}
use Rattle.std.proofs.lemmas.Bool.{and_parts, leb-true}
use Rattle.std.proofs.lemmas.List.{length-take}
use Rattle.query_grammar.specs.declared.token.Token.{Token}
use Rattle.query_grammar.specs.Grammar.{Kind, Phrase, tree_of}
use Rattle.query_grammar.specs.Grammar as grammar
use Rattle.query_grammar.specs.Depth.{HasDepth}
use Rattle.query_grammar.specs.Faults as faults
use Rattle.query_model.specs.Pieces.{Bytes, pieces}
use Rattle.query_model.specs.declared.line.Line.{Line}
use Rattle.query_model.specs.declared.keyword.ExprAsk.{ExprAsk}
use Rattle.query_model.specs.declared.fault.BadKind.{BadKind}
use Rattle.query_model.specs.Lines.{Asking, ask_of, GivesAsk, LineBehind}
use Rattle.query_model.specs.Reading.{kept, StandFor}
use Rattle.query_model.specs.Output.{output, error_text, IsTextOf}
use Rattle.query_model.proofs.ReadingLaws.{StandFor-push, StandFor-none, kept-push}

-- there are at least as many tokens as the depth behind them
pub depth_le : (tokens : List Token) (n : ℕ) → HasDepth tokens n → n ≤ length tokens
depth_le [] n h = omega arith
depth_le (t ∷ tokens) n (inl h) = let less = depth_le tokens h.1.0 h.1.2 in omega (arith, h.1.1)
depth_le (t ∷ tokens) n (inr h) = let less = depth_le tokens n h.1 in omega arith

-- some tokens that are few are not too deep
abbrev pub are_few : List Token → Bool
are_few tokens = nat_le 1 (length tokens) && nat_le (length tokens) 64

pub accepted : (p : Phrase Kind.either) → are_few (grammar.tokens_of p) ≡ true → faults.Accepts (grammar.tokens_of p) (tree_of p)
accepted p few =
    let parts = and_parts (nat_le 1 (length (grammar.tokens_of p))) (nat_le (length (grammar.tokens_of p)) 64) few in
    let some = leb-true 1 (length (grammar.tokens_of p)) parts.0 in
    let most = leb-true (length (grammar.tokens_of p)) 64 parts.1 in
    record {
      some = (omega arith, omega arith);
      shallow = λ place depth h.
          let low = depth_le (take place (grammar.tokens_of p)) depth h in
          omega (arith, length-take place (grammar.tokens_of p));
      reads = (p, refl, refl);
    }

-- what is asked of an expression of few tokens
pub given_by : (about : ExprAsk) (p : Phrase Kind.either) → are_few (grammar.tokens_of p) ≡ true → GivesAsk (Asking.of_tokens about (grammar.tokens_of p)) (Ok (ask_of about (tree_of p)))
given_by about p few = (tree_of p, accepted p few, refl)

-- the pieces, one behind another
abbrev pub Each : ℕ → List Line → List Bytes → List (Option Line) → Type 0
Each shards before [] [] = Unit {0}
Each shards before [] (mark ∷ marks) = ⊥
Each shards before (piece ∷ ps) [] = ⊥
Each shards before (piece ∷ ps) (mark ∷ marks) = LineBehind shards before piece (Ok mark) × Each shards (before ++ option_to_list mark) ps marks

StandFor-behind : (shards : ℕ) (done ps : List Bytes) (so_far marks : List (Option Line)) → StandFor shards done so_far → Each shards (kept so_far) ps marks → StandFor shards (done ++ ps) (so_far ++ marks)
StandFor-behind shards done [] so_far [] s h = subst (λ (ps : List Bytes). StandFor shards ps (so_far ++ [])) (sym (append-nil done)) (subst (λ (ms : List (Option Line)). StandFor shards done ms) (sym (append-nil so_far)) s)
StandFor-behind shards done [] so_far (mark ∷ marks) s h = absurd h
StandFor-behind shards done (piece ∷ ps) so_far [] s h = absurd h
StandFor-behind shards done (piece ∷ ps) so_far (mark ∷ marks) s h =
    let one = StandFor-push shards done so_far piece mark s h.0 in
    let rest = subst (λ (ls : List Line). Each shards ls ps marks) (sym (kept-push so_far mark)) h.1 in
    subst (λ (all : List Bytes). StandFor shards all (so_far ++ (mark ∷ marks))) (append_assoc done (piece ∷ []) ps)
    (subst (λ (all : List (Option Line)). StandFor shards ((done ++ (piece ∷ [])) ++ ps) all) (append_assoc so_far (mark ∷ []) marks)
    (StandFor-behind shards (done ++ (piece ∷ [])) ps (so_far ++ (mark ∷ [])) marks one rest))

pub stands : (shards : ℕ) (ps : List Bytes) (marks : List (Option Line)) → Each shards [] ps marks → StandFor shards ps marks
stands shards ps marks h = StandFor-behind shards [] ps [] marks (StandFor-none shards) h

-- an input that is accepted, and what is written for it
pub answered : (bytes text : Bytes) (marks : List (Option Line)) → Each 4 [] (pieces bytes) marks → text ≡ output (record { lines = kept marks }) → IsTextOf bytes 4 text
answered bytes text marks h e = inl (record { lines = kept marks }, record { marks = marks; stand = stands 4 (pieces bytes) marks h; lines = refl }, e)

-- an input that is refused at its last piece
pub refused : (bytes text : Bytes) (before : List Bytes) (last : Bytes) (marks : List (Option Line)) (number : ℕ) (kind : BadKind)
    → pieces bytes ≡ before ++ (last ∷ []) → number ≡ length before + 1 → Each 4 [] before marks → LineBehind 4 (kept marks) last (Err kind) → text ≡ error_text (record { line = number; kind = kind })
    → IsTextOf bytes 4 text
refused bytes text before last marks number kind cut is h unmet e =
    inr (
      record { line = number; kind = kind },
      record { before = before; piece = last; after = []; cut = cut; number = is; marks = marks; stand = stands 4 before marks h; unmet = unmet },
      e,
    )
