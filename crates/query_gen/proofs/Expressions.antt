-- The expressions that are drawn are accepted by their canonical tokens.
use Rattle.std.proofs.Common.{refl, ◌≡◌, ◌==◌, ◌+◌, ◌≤◌, ◌%◌, ℕ, zero, suc, List, [], ◌++◌, All, Option, true}
use Rattle.std.proofs.lemmas.List.Elements.{All-append, All-cons, All-nil}
use Rattle.fan_base.specs.Word.{is_word}
use Rattle.fan_base.specs.declared.word.Word.{Word}
use Rattle.query_grammar.specs.Canonical.{phrases_of}
use Rattle.query_grammar.specs.Tree.{Tree}
use Rattle.query_model.specs.declared.line.Ask.{Ask}
use Rattle.query_model.specs.declared.line.Line.{Line}
use Rattle.query_model.specs.declared.line.Line.TheVariants as line
use Rattle.query_model.specs.Generated.{Drawn, draw, draw_ask, draw_docs, draw_doc, draw_queries, draw_query, draw_tick, draw_ticks, draw_word, generated_input, just}
use Rattle.query_model.specs.Written.{AsksExpression, CanBeRead, HasExpression, IsExpression}
use Rattle.query_model.proofs.Building.{accepted}
use Rattle.query_gen.proofs.Limits.{choose, generated_within, is_drawn_word}

one : (a : Word) → is_word a ≡ true → IsExpression (Tree.word a)
one a p = record { words = p; accepted = accepted (phrases_of (Tree.word a)).either refl }

both : (a b : Word) → is_word a ≡ true → is_word b ≡ true → IsExpression (Tree.both (Tree.word a) (Tree.word b))
both a b p q = record { words = (p, q); accepted = accepted (phrases_of (Tree.both (Tree.word a) (Tree.word b))).either refl }

either : (a b : Word) → is_word a ≡ true → is_word b ≡ true → IsExpression (Tree.either (Tree.word a) (Tree.word b))
either a b p q = record { words = (p, q); accepted = accepted (phrases_of (Tree.either (Tree.word a) (Tree.word b))).either refl }

without : (a b : Word) → is_word a ≡ true → is_word b ≡ true → IsExpression (Tree.both (Tree.word a) (Tree.not (Tree.word b)))
without a b p q = record { words = (p, q); accepted = accepted (phrases_of (Tree.both (Tree.word a) (Tree.not (Tree.word b)))).either refl }

-- of two words drawn one behind the other
of_two : (P : Word → Word → Type 0) → ((a b : Word) → is_word a ≡ true → is_word b ≡ true → P a b) → (state : ℕ) → P (draw_word state).0 (draw_word (draw_word state).1).0
of_two P f state = f (draw_word state).0 (draw_word (draw_word state).1).0 (is_drawn_word state) (is_drawn_word (draw_word state).1)

abbrev Asks : Drawn (Option ℕ × Ask) → Type 0
Asks draws = (state : ℕ) → AsksExpression (draws state).0.1

asks : (number : ℕ) → Asks (draw_ask number)
asks number =
    choose Asks (number == 2) _ _ (of_two (λ a b. IsExpression (Tree.either (Tree.word a) (Tree.word b))) either)
    (choose Asks (number == 3) _ _ (of_two (λ a b. IsExpression (Tree.both (Tree.word a) (Tree.not (Tree.word b)))) without)
    (choose Asks (number == 4) _ _ (λ s. one (draw_word s).0 (is_drawn_word s))
    (choose Asks (number == 5) _ _ (of_two (λ a b. IsExpression (Tree.both (Tree.word a) (Tree.word b))) both)
    (choose Asks (number == 6) _ _ (λ s. tt)
    (choose Asks (number == 7) _ _ (λ s. one (draw_word (draw 1000 s).1).0 (is_drawn_word (draw 1000 s).1))
    (of_two (λ a b. IsExpression (Tree.both (Tree.word a) (Tree.word b))) both))))))

of_documents : (place count state : ℕ) → All HasExpression (draw_docs place count state).0
of_documents place zero state = All-nil HasExpression
of_documents place (suc count) state = All-cons HasExpression (draw_doc place state).0 (draw_docs (place + 1) count (draw_doc place state).1).0 tt (of_documents (place + 1) count (draw_doc place state).1)

abbrev Ticks : Drawn (List Line) → Type 0
Ticks draws = (state : ℕ) → All HasExpression (draws state).0

of_ticks : (place state : ℕ) → All HasExpression (draw_ticks place state).0
of_ticks place state =
    choose Ticks (place % 10 == 9) draw_tick (just [])
    (λ s. All-cons HasExpression (line.Tick (1 + (draw 300 s).0)) [] tt (All-nil HasExpression)) (λ s. All-nil HasExpression) state

of_queries : (place count state : ℕ) → All HasExpression (draw_queries place count state).0
of_queries place zero state = All-nil HasExpression
of_queries place (suc count) state =
    All-cons HasExpression (draw_query state).0 ((draw_ticks place (draw_query state).1).0 ++ (draw_queries (place + 1) count (draw_ticks place (draw_query state).1).1).0)
    (asks (draw 8 (draw 3 state).1).0 (draw 8 (draw 3 state).1).1)
    (All-append HasExpression (draw_ticks place (draw_query state).1).0 (draw_queries (place + 1) count (draw_ticks place (draw_query state).1).1).0
    (of_ticks place (draw_query state).1) (of_queries (place + 1) count (draw_ticks place (draw_query state).1).1))

pub generated_can_be_read : (seed docs queries shards : ℕ) → docs ≤ 20000 → queries ≤ 4096 → shards ≤ 64 → CanBeRead shards (generated_input seed docs queries)
unfolding generated_input
generated_can_be_read seed docs queries shards d q s = record {
  limits = generated_within seed docs queries shards d q s;
  expressions = All-append HasExpression (draw_docs 0 docs seed).0 (draw_queries 0 queries (draw_docs 0 docs seed).1).0
      (of_documents 0 docs seed) (of_queries 0 queries (draw_docs 0 docs seed).1);
}
