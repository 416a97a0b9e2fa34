-- The input that is made up from a seed, and the line that sums up what answers it.
use Rattle.std.specs.Prelude.{ℕ, zero, suc, ◌+◌, ◌*◌, ◌/◌, ◌%◌, ◌==◌, List, [], ◌∷◌, ◌++◌, codes, length, sum, if◌then◌else◌, Some, None, Option}
use Rattle.std.specs.Fmt.{decimal}
use Rattle.std.specs.List.{count_by}
use Rattle.fan_base.specs.declared.word.Word.{Word}
use Rattle.query_grammar.specs.Tree.{Tree}
use Rattle.query_model.specs.Pieces.{Bytes, line_feed}
use Rattle.query_model.specs.declared.line.Ask.{Ask}
use Rattle.query_model.specs.declared.line.Ask.TheVariants as ask
use Rattle.query_model.specs.declared.line.Input.{Input}
use Rattle.query_model.specs.declared.line.Line.{Line}
use Rattle.query_model.specs.declared.line.Line.TheVariants as line
use Rattle.query_model.specs.declared.line.Prio.{Prio}
use Rattle.query_model.specs.declared.line.Prio.TheVariants as prio
use Rattle.query_model.specs.Output.{output}

-- What is drawn from a state, and the state behind the draws.
abbrev pub Drawn : Type 0 → Type 0
Drawn A = ℕ → A × ℕ

-- draws one behind another: `do` hands the state on
infixl 10 ◌>>=◌
abbrev pub ◌>>=◌ : {A B : Type 0} → Drawn A → (A → Drawn B) → Drawn B
(first >>= rest) state = let drawn = first state in rest drawn.0 drawn.1

-- nothing is drawn
abbrev pub just : {A : Type 0} → A → Drawn A
just a state = (a, state)

abbrev pub next_state : ℕ → ℕ
next_state state = (state * 6364136223846793005 + 1442695040888963407) % 18446744073709551616

-- a number below `m`
abbrev pub draw : ℕ → Drawn ℕ
draw m state = let next = next_state state in ((next / 8589934592) % m, next)

-- `w` and a number below 500
abbrev pub draw_word : Drawn Word
draw_word = do
  n ← draw 500
  just (codes "w" ++ decimal n)

abbrev pub draw_words : ℕ → Drawn (List Word)
draw_words zero = just []
draw_words (suc count) = do
  word ← draw_word
  words ← draw_words count
  just (word ∷ words)

-- the document at a place, from 0
abbrev pub draw_doc : ℕ → Drawn Line
draw_doc place = do
  count ← draw 60
  words ← draw_words (1 + count)
  just (line.Doc (record { id = 3 * place + 1; words = words }))

-- so many documents, of which the first has this place
abbrev pub draw_docs : ℕ → ℕ → Drawn (List Line)
draw_docs place zero = just []
draw_docs place (suc count) = do
  doc ← draw_doc place
  docs ← draw_docs (place + 1) count
  just (doc ∷ docs)

abbrev pub prio_of : ℕ → Prio
prio_of zero = prio.Lo
prio_of (suc zero) = prio.Mid
prio_of (suc (suc _)) = prio.Hi

abbrev pub draw_two : (Word → Word → Ask) → Drawn Ask
draw_two asks = do
  a ← draw_word
  b ← draw_word
  just (asks a b)

abbrev pub draw_count : Drawn Ask
draw_count = do
  a ← draw_word
  just (ask.Count (Tree.word a))

abbrev pub without_delay : Drawn Ask → Drawn (Option ℕ × Ask)
without_delay asks = do
  a ← asks
  just (None, a)

abbrev pub draw_top : Drawn Ask
draw_top = do
  k ← draw 10
  draw_two (λ a b. ask.Top (1 + k) (a ∷ (b ∷ [])))

abbrev pub draw_delayed : Drawn (Option ℕ × Ask)
draw_delayed = do
  delay ← draw 1000
  asks ← draw_count
  just (Some (1 + delay), asks)

-- what is asked by a number below 8, and the delay
abbrev pub draw_ask : ℕ → Drawn (Option ℕ × Ask)
draw_ask number =
    if number == 2 then (without_delay (draw_two (λ a b. ask.Find (Tree.either (Tree.word a) (Tree.word b)))))
    else (if number == 3 then (without_delay (draw_two (λ a b. ask.Find (Tree.both (Tree.word a) (Tree.not (Tree.word b))))))
    else (if number == 4 then without_delay draw_count
    else (if number == 5 then (without_delay (draw_two (λ a b. ask.Present (Tree.both (Tree.word a) (Tree.word b)))))
    else (if number == 6 then without_delay draw_top
    else (if number == 7 then draw_delayed
    else (without_delay (draw_two (λ a b. ask.Find (Tree.both (Tree.word a) (Tree.word b))))))))))

abbrev pub draw_query : Drawn Line
draw_query = do
  priority ← draw 3
  number ← draw 8
  asks ← draw_ask number
  just (line.Query (record { delay = asks.0; prio = prio_of priority; ask = asks.1 }))

abbrev pub draw_tick : Drawn (List Line)
draw_tick = do
  n ← draw 300
  just (line.Tick (1 + n) ∷ [])

-- behind each tenth query there are ticks
abbrev pub draw_ticks : ℕ → Drawn (List Line)
draw_ticks place = if place % 10 == 9 then draw_tick else just []

-- so many queries, of which the first has this place, from 0
abbrev pub draw_queries : ℕ → ℕ → Drawn (List Line)
draw_queries place zero = just []
draw_queries place (suc count) = do
  query ← draw_query
  ticks ← draw_ticks place
  rest ← draw_queries (place + 1) count
  just (query ∷ (ticks ++ rest))

-- the lines of so many documents and queries
abbrev pub draw_lines : ℕ → ℕ → Drawn (List Line)
draw_lines docs queries = do
  first ← draw_docs 0 docs
  behind ← draw_queries 0 queries
  just (first ++ behind)

-- the input from this seed
unfoldable pub generated_input : ℕ → ℕ → ℕ → Input
generated_input seed docs queries = record { lines = (draw_lines docs queries seed).0 }

-- the line that sums up replies: how many lines and bytes they are, and the sum of the bytes, modulo 2 ^ 64
abbrev pub summary_of : ℕ → ℕ → Bytes → Bytes
summary_of docs queries replies =
    codes "documents " ++ (decimal docs ++ (codes " queries " ++ (decimal queries
    ++ (codes " lines " ++ (decimal (count_by (λ b. b == line_feed) replies) ++ (codes " bytes " ++ (decimal (length replies)
    ++ (codes " sum " ++ (decimal (sum replies % 18446744073709551616) ++ line_feed ∷ [])))))))))

-- what is written for a generated input
unfoldable pub summary_line : ℕ → ℕ → ℕ → Bytes
summary_line seed docs queries = summary_of docs queries (output (generated_input seed docs queries))
