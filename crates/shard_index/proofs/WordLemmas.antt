-- How often a word stands among others.
use Rattle.std.proofs.Common.{◌≡◌, ℕ, suc, ◌+◌, ◌≤◌, List, [], ◌∷◌, Bool, true, false, ◌||◌, cond, eqb, refl, sym, ◌∙◌, arith, true≢false}
use Rattle.std.specs.List.{count_by}
use Rattle.std.specs.Cmp.Lexicographic.{pointwise}
use Rattle.std.proofs.lemmas.List.Sums.{sum_by-cons}
use Rattle.fan_base.specs.declared.word.Word.{Word}
use Rattle.query_grammar.specs.Truth.{is_among}
use Rattle.query_model.specs.Pieces.{is_text}

-- how often a word stands among others
abbrev pub count_in : Word → List Word → ℕ
count_in w words = count_by (is_text w) words

one_more : (b : Bool) (n : ℕ) → cond b 1 0 + n ≡ cond b (suc n) n
one_more true n = omega arith
one_more false n = omega arith

pub count_in-cons : (w v : Word) (vs : List Word) → count_in w (v ∷ vs) ≡ cond (pointwise eqb v w) (suc (count_in w vs)) (count_in w vs)
count_in-cons w v vs = sum_by-cons (λ x. cond (is_text w x) 1 0) v vs ∙ one_more (pointwise eqb v w) (count_in w vs)

-- a word that isn't among others stands nowhere there
pub none-count : (w : Word) (words : List Word) → is_among w words ≡ false → count_in w words ≡ 0
none-count w [] h = refl
none-count w (v ∷ vs) h = count_in-cons w v vs ∙ by (pointwise eqb v w) (none-count w vs) h
  where
    by : (b : Bool) → (is_among w vs ≡ false → count_in w vs ≡ 0) → (b || is_among w vs) ≡ false → cond b (suc (count_in w vs)) (count_in w vs) ≡ 0
    by true rest e = absurd (true≢false e)
    by false rest e = rest e

pub some-count : (w : Word) (words : List Word) → is_among w words ≡ true → 1 ≤ count_in w words
some-count w [] h = absurd (true≢false (sym h))
some-count w (v ∷ vs) h = rw (count_in-cons w v vs) (by (pointwise eqb v w) (some-count w vs) h)
  where
    by : (b : Bool) → (is_among w vs ≡ true → 1 ≤ count_in w vs) → (b || is_among w vs) ≡ true → 1 ≤ cond b (suc (count_in w vs)) (count_in w vs)
    by true rest e = omega arith
    by false rest e = rest e
