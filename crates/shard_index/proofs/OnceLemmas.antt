-- Words that stand again behind themselves, and words each once.
use Rattle.std.proofs.Common.{◌≡◌, ℕ, zero, suc, ◌+◌, ◌<◌, List, [], ◌∷◌, ◌++◌, length, Bool, true, false, not, ◌||◌, cond, eqb, get_or, set, drop, refl, sym, ap, ◌∙◌, arith}
use Rattle.std.specs.Ordering.{nat_cmp}
use Rattle.std.specs.Cmp.Lexicographic.{pointwise, slice_cmp}
use Rattle.std.specs.BTreeMap.{is_at}
use Rattle.std.proofs.Math.Bool.{not-not}
use Rattle.std.proofs.lemmas.List.{drop-set, drop_more, get_or_default}
use Rattle.std.proofs.lemmas.Map.Text.{is_eq-slice_cmp}
use Rattle.fan_base.specs.declared.word.Word.{Word}
use Rattle.query_grammar.specs.Truth.{is_among}
use Rattle.query_model.specs.Answers.{each_once}
use Rattle.shard_index.specs.Counting.{stand_again}

cut : (words : List Word) (i : ℕ) (word : Word) → i < length words → word ≡ get_or words i word → drop i words ≡ word ∷ drop (i + 1) words
cut words i word within is = drop_more words i word within ∙ ap (λ (w : Word). w ∷ drop (i + 1) words) (sym is)

-- from the last word on

-- one word more is seen
pub seen-more : (words : List Word) (i : ℕ) (word w : Word) (had : Bool) → i < length words → word ≡ get_or words i word → had ≡ is_among w (drop (i + 1) words)
    → cond (is_at (slice_cmp nat_cmp word) w) true had ≡ is_among w (drop i words)
seen-more words i word w had within is before =
    (λ j. cond (is_eq-slice_cmp word w j) true (before j)) ∙ (by (pointwise eqb word w) ∙ sym (ap (λ ws. is_among w ws) (cut words i word within is)))
  where
    by : (b : Bool) → cond b true (is_among w (drop (i + 1) words)) ≡ (b || is_among w (drop (i + 1) words))
    by true = refl
    by false = refl

-- what isn't new was seen
pub not-new : (new had : Bool) → new ≡ not had → not new ≡ had
not-new new had is = ap not is ∙ not-not had

-- and of one word more it is told whether it stands again
pub told-more : (words : List Word) (again : List Bool) (i : ℕ) (word : Word) (b : Bool) → i < length words → length again ≡ length words → word ≡ get_or words i word
    → drop (i + 1) again ≡ stand_again (drop (i + 1) words) → b ≡ is_among word (drop (i + 1) words) → drop i (set again i b) ≡ stand_again (drop i words)
told-more words again i word b within many is told before =
    drop-set again i b (omega (arith, within, many)) ∙ ((λ j. before j ∷ told j) ∙ sym (ap stand_again (cut words i word within is)))

-- what is told

again-at : (words : List Word) (i : ℕ) (d : Bool) (word : Word) → i < length words → word ≡ get_or words i word → get_or (stand_again words) i d ≡ is_among word (drop (suc i) words)
again-at [] i d word within is = absurd (omega (arith, within))
again-at (w ∷ ws) zero d word within is = ap (λ (v : Word). is_among v ws) (sym is)
again-at (w ∷ ws) (suc i) d word within is = again-at ws i d word (omega (arith, within)) is

-- from the first word on

once-at : (words : List Word) (i : ℕ) (word : Word) (b d : Bool) → i < length words → word ≡ get_or words i word → get_or (stand_again words) i d ≡ b
    → each_once (drop i words) ≡ cond b (each_once (drop (i + 1) words)) (word ∷ each_once (drop (i + 1) words))
once-at words i word b d within is told =
    ap each_once (cut words i word within is)
    ∙ ap (λ c. cond c (each_once (drop (i + 1) words)) (word ∷ each_once (drop (i + 1) words))) told-here
  where
    next : i + 1 ≡ suc i
    next = omega arith

    told-here : is_among word (drop (i + 1) words) ≡ b
    told-here = ap (λ (n : ℕ). is_among word (drop n words)) next ∙ (sym (again-at words i d word within is) ∙ told)

pub once-more : (words once : List Word) (i : ℕ) (word : Word) (d : Bool) → i < length words → word ≡ get_or words i word → get_or (stand_again words) i d ≡ false
    → once ++ each_once (drop i words) ≡ each_once words → (once ++ word ∷ []) ++ each_once (drop (i + 1) words) ≡ each_once words
once-more words once i word d within is new so_far =
    put once (each_once (drop (i + 1) words)) ∙ (ap (λ ws. once ++ ws) (sym (once-at words i word false d within is new)) ∙ so_far)
  where
    put : (xs ys : List Word) → (xs ++ word ∷ []) ++ ys ≡ xs ++ (word ∷ ys)
    put [] ys = refl
    put (x ∷ xs) ys = ap (λ zs. x ∷ zs) (put xs ys)

pub once-same : (words once : List Word) (i : ℕ) (d : Bool) → i < length words → get_or (stand_again words) i d ≡ true
    → once ++ each_once (drop i words) ≡ each_once words → once ++ each_once (drop (i + 1) words) ≡ each_once words
once-same words once i d within again so_far =
    let word : Word = get_or words i [] in
    let is : word ≡ get_or words i word = get_or_default words i [] word within in
    ap (λ ws. once ++ ws) (sym (once-at words i word true d within is again)) ∙ so_far
