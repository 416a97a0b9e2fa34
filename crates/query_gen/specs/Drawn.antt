-- What a draw of the code says of itself.
use Rattle.std.specs.Prelude.{ℕ, ◌≡◌, ◌<◌, ◌++◌, List, Result, IfOk, codes, get_or, length}
use Rattle.std.specs.Fmt.{decimal}
use Rattle.fan_base.specs.declared.word.Word.{Word}
use Rattle.query_grammar.specs.Tree.{Tree}
use Rattle.query_model.specs.declared.line.Ask.{Ask}
use Rattle.query_model.specs.declared.line.Ask.TheVariants as ask
use Rattle.query_model.specs.Generated.{Drawn, ◌>>=◌, draw_two, draw_word, just}

-- what came, and the state behind it, are what is drawn from the state before
abbrev pub IsDrawnFrom : {A : Type 0} → Drawn A → A → ℕ → ℕ → Type 0
IsDrawnFrom draws drawn old new = (drawn ≡ (draws old).0) × (new ≡ (draws old).1)

-- the same where there was memory
abbrev pub IsDrawn : {A E : Type 0} → Drawn A → Result A E → ℕ → ℕ → Type 0
IsDrawn draws result old new = IfOk result (λ drawn. (drawn ≡ (draws old).0) × (new ≡ (draws old).1))

-- the same of draws that are put behind a list, which is handed back
abbrev pub IsDrawnOnto : {A E : Type 0} → Drawn (List A) → Result (List A) E → List A → ℕ → ℕ → Type 0
IsDrawnOnto draws result before old new = IfOk result (λ behind. (behind ≡ before ++ (draws old).0) × (new ≡ (draws old).1))

-- all words that can be drawn, by their numbers
pub record AreAllWords (words : List Word) : Type 0 where
  pub many : length words ≡ 500
  pub each : (number : ℕ) (other : Word) → number < 500 → get_or words number other ≡ codes "w" ++ decimal number

-- two words
abbrev pub draw_pair : Drawn (Word × Word)
draw_pair = do
  a ← draw_word
  b ← draw_word
  just (a, b)

-- the asks over two words
abbrev pub draw_find_both : Drawn Ask
draw_find_both = draw_two (λ a b. ask.Find (Tree.both (Tree.word a) (Tree.word b)))

abbrev pub draw_find_either : Drawn Ask
draw_find_either = draw_two (λ a b. ask.Find (Tree.either (Tree.word a) (Tree.word b)))

abbrev pub draw_find_without : Drawn Ask
draw_find_without = draw_two (λ a b. ask.Find (Tree.both (Tree.word a) (Tree.not (Tree.word b))))

abbrev pub draw_present : Drawn Ask
draw_present = draw_two (λ a b. ask.Present (Tree.both (Tree.word a) (Tree.word b)))
