-- The number of a word, and one word more.
use Rattle.std.proofs.Common.{◌≡◌, ℕ, zero, suc, ◌+◌, ◌<◌, ◌≤◌, List, [], ◌∷◌, ◌++◌, length, Bool, true, false, ◌&&◌, cond, eqb, ltb, get_or, take, Option, Some, None, refl, sym, ap, ◌∙◌, subst, arith, true≢false, inl, inr}
use Rattle.std.specs.Ordering.{nat_cmp, is_eq, ordering_then}
use Rattle.std.specs.declared.cmp.Ordering.{Ordering}
use Rattle.std.specs.declared.cmp.Ordering.TheVariants.{Less, Equal, Greater}
use Rattle.std.specs.Cmp.Lexicographic.{pointwise, slice_cmp, bytes_decides}
use Rattle.std.specs.BTreeMap.{get, is_at}
use Rattle.std.proofs.lemmas.Bool.{cases_lt, eq-eqb, le-ltb, lt-ltb, ne_eqb}
use Rattle.std.proofs.lemmas.Bool.Decides.{nat_tests}
use Rattle.std.proofs.lemmas.List.{get_or_append_left, get_or_default, get_or_push, length_push, take_more}
use Rattle.std.proofs.lemmas.List.Sums.{fold_push, take_while-cons}
use Rattle.std.specs.Prelude.{take_while}
use Rattle.fan_base.proofs.Words.{up_to_padding}
use Rattle.fan_base.specs.Word.{is_filled, padded}
use Rattle.fan_base.specs.declared.word.Word.{Word}
use Rattle.word_table.specs.declared.dictionary.Dictionary.{Dictionary}
use Rattle.word_table.specs.Numbers.{AreKeyed, HasKey, IsAt, Knows, byte_at, first_bytes, found_in, number_in, with_word, with_words}

is_eq-nat_cmp : (x y : ℕ) → is_eq (nat_cmp x y) ≡ eqb x y
is_eq-nat_cmp x y = grind (arith, nat_tests)

is_eq-then : (a b : Ordering) → is_eq (ordering_then a b) ≡ (is_eq a && is_eq b)
is_eq-then Less b = refl
is_eq-then Equal b = refl
is_eq-then Greater b = refl

-- words that compare as equal are equal byte for byte
is_at-word : (v w : Word) → is_at (slice_cmp nat_cmp v) w ≡ pointwise eqb v w
is_at-word [] [] = refl
is_at-word [] (y ∷ ys) = refl
is_at-word (x ∷ xs) [] = refl
is_at-word (x ∷ xs) (y ∷ ys) = is_eq-then (nat_cmp x y) (slice_cmp nat_cmp xs ys) ∙ (λ i. is_eq-nat_cmp x y i && is_at-word xs ys i)

pub same_word : (v w : Word) → pointwise eqb v w ≡ true → v ≡ w
same_word v w e = (bytes_decides v w).0 e

itself : (w : Word) → pointwise eqb w w ≡ true
itself w = (bytes_decides w w).1 refl

eqb-suc : (x y : ℕ) → eqb (suc x) (suc y) ≡ eqb x y
eqb-suc x y = elim (cases_lt x y) [
  | inl less ↦ ne_eqb (suc x) (suc y) (λ e. omega (arith, e, less)) ∙ sym (ne_eqb x y (λ e. omega (arith, e, less)))
  | inr more ↦ elim (cases_lt y x) [
    | inl less ↦ ne_eqb (suc x) (suc y) (λ e. omega (arith, e, less)) ∙ sym (ne_eqb x y (λ e. omega (arith, e, less)))
    | inr same ↦ eq-eqb (suc x) (suc y) (omega (arith, more, same)) ∙ sym (eq-eqb x y (omega (arith, more, same)))
  ]
]

pub number-le : (words : List Word) (w : Word) → number_in words w ≤ length words
number-le [] w = omega arith
number-le (u ∷ us) w = by (pointwise eqb u w) (number-le us w)
  where
    by : (b : Bool) → number_in us w ≤ length us → cond b zero (suc (number_in us w)) ≤ suc (length us)
    by true h = omega arith
    by false h = omega (arith, h)

-- with more words behind them the words keep their numbers
pub number-old : (words more : List Word) (w : Word) → number_in words w < length words → number_in (words ++ more) w ≡ number_in words w
number-old [] more w h = absurd (omega (arith, h))
number-old (u ∷ us) more w h = by (pointwise eqb u w) h (number-old us more w)
  where
    by : (b : Bool) → cond b zero (suc (number_in us w)) < suc (length us) → (number_in us w < length us → number_in (us ++ more) w ≡ number_in us w)
        → cond b zero (suc (number_in (us ++ more) w)) ≡ cond b zero (suc (number_in us w))
    by true h rest = refl
    by false h rest = ap suc (rest (omega (arith, h)))

-- and a word that is none of them has no number of theirs
pub number-past : (words more : List Word) (w : Word) → length words ≤ number_in words w → length words ≤ number_in (words ++ more) w
number-past [] more w h = omega arith
number-past (u ∷ us) more w h = by (pointwise eqb u w) h (number-past us more w)
  where
    by : (b : Bool) → suc (length us) ≤ cond b zero (suc (number_in us w)) → (length us ≤ number_in us w → length us ≤ number_in (us ++ more) w)
        → suc (length us) ≤ cond b zero (suc (number_in (us ++ more) w))
    by true h rest = absurd (omega (arith, h))
    by false h rest = omega (arith, rest (omega (arith, h)))

-- the number of a word behind them
number-new : (words : List Word) (x w : Word) → length words ≤ number_in words w → number_in (words ++ x ∷ []) w ≡ cond (pointwise eqb x w) (length words) (suc (length words))
number-new [] x w h = refl
number-new (u ∷ us) x w h = by (pointwise eqb u w) h (number-new us x w)
  where
    push : (c : Bool) (k : ℕ) → suc (cond c k (suc k)) ≡ cond c (suc k) (suc (suc k))
    push true k = refl
    push false k = refl

    by : (b : Bool) → suc (length us) ≤ cond b zero (suc (number_in us w))
        → (length us ≤ number_in us w → number_in (us ++ x ∷ []) w ≡ cond (pointwise eqb x w) (length us) (suc (length us)))
        → cond b zero (suc (number_in (us ++ x ∷ []) w)) ≡ cond (pointwise eqb x w) (suc (length us)) (suc (suc (length us)))
    by true h rest = absurd (omega (arith, h))
    by false h rest = ap suc (rest (omega (arith, h))) ∙ push (pointwise eqb x w) (length us)

-- a number is a word's alone
pub same-number : (words : List Word) (x w : Word) → number_in words x < length words → eqb (number_in words x) (number_in words w) ≡ pointwise eqb x w
same-number [] x w h = absurd (omega (arith, h))
same-number (u ∷ us) x w h = by (pointwise eqb u x) (pointwise eqb u w) refl refl h (same-number us x w)
  where
    first : pointwise eqb u x ≡ true → pointwise eqb x w ≡ pointwise eqb u w
    first p = ap (λ (v : Word). pointwise eqb v w) (sym (same_word u x p))

    other : (b : Bool) → pointwise eqb x w ≡ b → pointwise eqb u x ≡ false → pointwise eqb u w ≡ true → b ≡ false
    other true e p q = absurd (true≢false (sym (ap (λ (v : Word). pointwise eqb u v) (same_word x w e) ∙ q) ∙ p))
    other false e p q = refl

    by : (a b : Bool) → pointwise eqb u x ≡ a → pointwise eqb u w ≡ b → cond a zero (suc (number_in us x)) < suc (length us)
        → (number_in us x < length us → eqb (number_in us x) (number_in us w) ≡ pointwise eqb x w)
        → eqb (cond a zero (suc (number_in us x))) (cond b zero (suc (number_in us w))) ≡ pointwise eqb x w
    by true true p q h rest = eq-eqb zero zero refl ∙ sym (first p ∙ q)
    by true false p q h rest = ne_eqb zero (suc (number_in us w)) (λ e. omega (arith, e)) ∙ sym (first p ∙ q)
    by false true p q h rest = ne_eqb (suc (number_in us x)) zero (λ e. omega (arith, e)) ∙ sym (other (pointwise eqb x w) refl p q)
    by false false p q h rest = eqb-suc (number_in us x) (number_in us w) ∙ rest (omega (arith, h))

-- what the map finds

found-some : (words : List Word) (w : Word) (n : ℕ) → number_in words w ≡ n → n < length words → found_in words w ≡ Some n
found-some words w n is h = (λ i. cond (ltb (is i) (length words)) (Some (is i)) None) ∙ ap (λ (b : Bool). cond b (Some n) None) (lt-ltb n (length words) h)

found-none : (words : List Word) (w : Word) → length words ≤ number_in words w → found_in words w ≡ None
found-none words w h = ap (λ (b : Bool). cond b (Some (number_in words w)) None) (le-ltb (number_in words w) (length words) h)

pub none-found : (words : List Word) (w : Word) → found_in words w ≡ None → number_in words w ≡ length words
none-found words w none = elim (cases_lt (number_in words w) (length words)) [
  | inl less ↦ absurd (some-none (number_in words w) (sym (found-some words w (number_in words w) refl less) ∙ none))
  | inr more ↦ omega (arith, number-le words w, more)
]
  where
    some-none : (n : ℕ) → Some n ≡ None → ⊥
    some-none n e = cc

found-push : (words : List Word) (x w : Word) → length words ≤ number_in words x → cond (pointwise eqb x w) (Some (length words)) (found_in words w) ≡ found_in (words ++ x ∷ []) w
found-push words x w new = elim (cases_lt (number_in words w) (length words)) [
  | inl less ↦
      ap (λ (b : Bool). cond b (Some (length words)) (found_in words w)) (others (pointwise eqb x w) refl less)
      ∙ (found-some words w (number_in words w) refl less
      ∙ sym (found-some (words ++ x ∷ []) w (number_in words w) (number-old words (x ∷ []) w less) (omega (arith, length_push words x, less))))
  | inr more ↦
      ap (λ (o : Option ℕ). cond (pointwise eqb x w) (Some (length words)) o) (found-none words w more)
      ∙ by (pointwise eqb x w) (number-new words x w more)
]
  where
    others : (b : Bool) → pointwise eqb x w ≡ b → number_in words w < length words → b ≡ false
    others true e less = absurd (omega (arith, new, less, ap (λ (v : Word). number_in words v) (same_word x w e)))
    others false e less = refl

    by : (b : Bool) → number_in (words ++ x ∷ []) w ≡ cond b (length words) (suc (length words)) → cond b (Some (length words)) None ≡ found_in (words ++ x ∷ []) w
    by true is = sym (found-some (words ++ x ∷ []) w (length words) is (omega (arith, length_push words x)))
    by false is = sym (found-none (words ++ x ∷ []) w (omega (arith, length_push words x, is)))

pub with-old : (words : List Word) (w : Word) → number_in words w < length words → with_word words w ≡ words
with-old words w h = ap (λ (b : Bool). cond b words (words ++ w ∷ [])) (lt-ltb (number_in words w) (length words) h)

pub with-new : (words : List Word) (w : Word) → length words ≤ number_in words w → with_word words w ≡ words ++ w ∷ []
with-new words w h = ap (λ (b : Bool). cond b words (words ++ w ∷ [])) (le-ltb (number_in words w) (length words) h)

-- a word by its first bytes

ends : (y : ℕ) (ys : List ℕ) → y ≡ 0 → take_while is_filled (y ∷ ys) ≡ []
ends y ys e = take_while-cons is_filled y ys ∙ ap (λ (c : ℕ). cond (is_filled c) (y ∷ take_while is_filled ys) []) e

same-front : (n : ℕ) (xs ys : List ℕ) → ((i : ℕ) → i < suc n → get_or xs i 0 ≡ get_or ys i 0) → get_or xs n 0 ≡ 0 → take_while is_filled xs ≡ take_while is_filled ys
same-front n [] [] same end = refl
same-front n [] (y ∷ ys) same end = sym (ends y ys (sym (same 0 (omega arith))))
same-front n (x ∷ xs) [] same end = ends x xs (same 0 (omega arith))
same-front zero (x ∷ xs) (y ∷ ys) same end = ends x xs end ∙ sym (ends y ys (sym (same 0 (omega arith)) ∙ end))
same-front (suc n) (x ∷ xs) (y ∷ ys) same end =
    let first : x ≡ y = same 0 (omega arith) in
    let rest = same-front n xs ys (λ k less. same (suc k) (omega (arith, less))) end in
    take_while-cons is_filled x xs ∙ ((λ i. cond (is_filled (first i)) (first i ∷ rest i) []) ∙ sym (take_while-cons is_filled y ys))

-- of eight bytes each is the word's
one-of-first : (w : Word) (i : ℕ) → i < 8 → get_or (first_bytes w) i 0 ≡ byte_at w i
one-of-first w zero less = refl
one-of-first w (suc zero) less = refl
one-of-first w (suc (suc zero)) less = refl
one-of-first w (suc (suc (suc zero))) less = refl
one-of-first w (suc (suc (suc (suc zero)))) less = refl
one-of-first w (suc (suc (suc (suc (suc zero))))) less = refl
one-of-first w (suc (suc (suc (suc (suc (suc zero)))))) less = refl
one-of-first w (suc (suc (suc (suc (suc (suc (suc zero))))))) less = refl
one-of-first w (suc (suc (suc (suc (suc (suc (suc (suc k)))))))) less = absurd (omega (arith, less))

-- a word that ends within its first bytes is told by them
same-by-key : (key : ℕ) (v w : Word) → HasKey key v → HasKey key w → byte_at w 7 ≡ 0 → v ≡ w
same-by-key key v w has keeps short =
    sym (up_to_padding v has.is_word) ∙ (same-front 7 (padded v) (padded w) same (same 7 (omega arith) ∙ short) ∙ up_to_padding w keeps.is_word)
  where
    same : (i : ℕ) → i < 8 → byte_at v i ≡ byte_at w i
    same i less = sym (one-of-first v i less) ∙ (ap (λ (bytes : List ℕ). get_or bytes i 0) (sym has.bytes ∙ keeps.bytes) ∙ one-of-first w i less)

pub at-key : (keys : List ℕ) (words : List Word) (n key : ℕ) (w : Word) → AreKeyed keys words → n < length keys → get_or keys n 0 ≡ key → HasKey key w → byte_at w 7 ≡ 0 → IsAt words n w
at-key keys words n key w keyed within is has short =
    let less : n < length words = omega (arith, within, keyed.many) in
    let there : IsAt words n (get_or words n w) = record { within = less; is = get_or_default words n (get_or words n w) w less } in
    record { within = less; is = same-by-key key (get_or words n w) w (subst (λ (k : ℕ). HasKey k (get_or words n w)) is (keyed.each n (get_or words n w) there)) has short }

keyed-push : (keys : List ℕ) (words : List Word) (key : ℕ) (x : Word) → AreKeyed keys words → HasKey key x → AreKeyed (keys ++ key ∷ []) (words ++ x ∷ [])
keyed-push keys words key x keyed has = record {
  many = omega (arith, length_push keys key, length_push words x, keyed.many);
  each = λ n w at. elim (cases_lt n (length words)) [
    | inl less ↦ subst (λ (k : ℕ). HasKey k w) (sym (get_or_append_left keys (key ∷ []) 0 n (omega (arith, less, keyed.many))))
        (keyed.each n w (record { within = less; is = sym (get_or_append_left words (x ∷ []) w n less) ∙ at.is }))
    | inr more ↦
        let last : length words ≡ n = omega (arith, more, at.within, length_push words x) in
        let same : x ≡ w = sym (get_or_push words x w n last) ∙ at.is in
        subst (λ (k : ℕ). HasKey k w) (sym (get_or_push keys key 0 n (keyed.many ∙ last))) (subst (λ (v : Word). HasKey key v) same has)
  ];
}

pub hint-right : (d : Dictionary) (words : List Word) (n : ℕ) (w : Word) → Knows d words → IsAt d.words.items n w → n ≡ number_in words w
hint-right d words n w knows at = sym (knows.differ n w (subst (λ (ws : List Word). IsAt ws n w) knows.words_are at))

-- a word that is there, and one that is added

pub number-there : (words : List Word) (w : Word) (n : ℕ) → n ≡ number_in words w → n < length words → n ≡ number_in (with_word words w) w
number-there words w n is less = is ∙ sym (ap (λ (ws : List Word). number_in ws w) (with-old words w (omega (arith, is, less))))

pub knows-there : (d : Dictionary) (words : List Word) (w : Word) (n : ℕ) → Knows d words → n ≡ number_in words w → n < length words → Knows d (with_word words w)
knows-there d words w n knows is less = subst (λ (ws : List Word). Knows d ws) (sym (with-old words w (omega (arith, is, less)))) knows

pub number-added : (words : List Word) (w : Word) (n : ℕ) → n ≡ length words → length words ≤ number_in words w → n ≡ number_in (with_word words w) w
number-added words w n is new =
    is ∙ sym (ap (λ (ws : List Word). number_in ws w) (with-new words w new) ∙ (number-new words w w new ∙ ap (λ (b : Bool). cond b (length words) (suc (length words))) (itself w)))

differ-push : (words : List Word) (x : Word) → length words ≤ number_in words x → ((n : ℕ) (w : Word) → IsAt words n w → number_in words w ≡ n)
    → (n : ℕ) (w : Word) → IsAt (words ++ x ∷ []) n w → number_in (words ++ x ∷ []) w ≡ n
differ-push words x new differ n w at = elim (cases_lt n (length words)) [
  | inl less ↦
      let before = differ n w (record { within = less; is = sym (get_or_append_left words (x ∷ []) w n less) ∙ at.is }) in
      number-old words (x ∷ []) w (omega (arith, before, less)) ∙ before
  | inr more ↦
      let last : length words ≡ n = omega (arith, more, at.within, length_push words x) in
      let same : x ≡ w = sym (get_or_push words x w n last) ∙ at.is in
      number-new words x w (subst (λ (v : Word). length words ≤ number_in words v) same new)
      ∙ (ap (λ (b : Bool). cond b (length words) (suc (length words))) (subst (λ (v : Word). pointwise eqb x v ≡ true) same (itself x)) ∙ last)
]

pub knows-push : (old new : Dictionary) (words : List Word) (x : Word) (n : ℕ) → Knows old words → length words ≤ number_in words x → n ≡ length words → new.words.items ≡ old.words.items ++ x ∷ []
    → ((key : ℕ) × HasKey key x × (new.keys.items ≡ old.keys.items ++ key ∷ []))
    → ((w : Word) → get (slice_cmp nat_cmp) new.numbers w ≡ cond (is_at (slice_cmp nat_cmp x) w) (Some n) (get (slice_cmp nat_cmp) old.numbers w)) → Knows new (with_word words x)
knows-push old new words x n knows fresh is pushed keyed put =
    subst (λ (ws : List Word). Knows new ws) (sym (with-new words x fresh)) (record {
      words_are = pushed ∙ ap (λ (ws : List Word). ws ++ x ∷ []) knows.words_are;
      keyed = subst (λ (ks : List ℕ). AreKeyed ks new.words.items) (sym keyed.2)
          (subst (λ (ws : List Word). AreKeyed (old.keys.items ++ keyed.0 ∷ []) ws) (sym pushed) (keyed-push old.keys.items old.words.items keyed.0 x knows.keyed keyed.1));
      numbered = λ w. put w ∙ ((λ i. cond (is_at-word x w i) (Some (is i)) (knows.numbered w i)) ∙ found-push words x w fresh);
      differ = differ-push words x fresh knows.differ;
    })

-- a word that the map has, and that is put back

some-less : (words : List Word) (w : Word) (n : ℕ) → found_in words w ≡ Some n → (number_in words w ≡ n) × (n < length words)
some-less words w n is = elim (cases_lt (number_in words w) (length words)) [
  | inl less ↦ let same : number_in words w ≡ n = one (number_in words w) (sym (found-some words w (number_in words w) refl less) ∙ is) in (same, omega (arith, same, less))
  | inr more ↦ absurd (none-some (sym (found-none words w more) ∙ is))
]
  where
    one : (m : ℕ) → Some m ≡ Some n → m ≡ n
    one m e = cc

    none-some : None ≡ Some n → ⊥
    none-some e = cc

pub number-back : (words : List Word) (w : Word) (n : ℕ) → found_in words w ≡ Some n → n ≡ number_in (with_word words w) w
number-back words w n is = let old = some-less words w n is in number-there words w n (sym old.0) old.1

pub knows-back : (old new : Dictionary) (words : List Word) (x : Word) (m n : ℕ) → Knows old words → found_in words x ≡ Some n → new.words.items ≡ old.words.items → new.keys.items ≡ old.keys.items
    → ((w : Word) → get (slice_cmp nat_cmp) new.numbers w ≡ cond (is_at (slice_cmp nat_cmp x) w) (Some n) (cond (is_at (slice_cmp nat_cmp x) w) (Some m) (get (slice_cmp nat_cmp) old.numbers w)))
    → Knows new (with_word words x)
knows-back old new words x m n knows is same kept put =
    let less = some-less words x n is in
    subst (λ (ws : List Word). Knows new ws) (sym (with-old words x (omega (arith, less.0, less.1)))) (record {
      words_are = same ∙ knows.words_are;
      keyed = subst (λ (ks : List ℕ). AreKeyed ks new.words.items) (sym kept) (subst (λ (ws : List Word). AreKeyed old.keys.items ws) (sym same) knows.keyed);
      numbered = λ w. put w ∙ ((λ i. cond (is_at-word x w i) (Some n) (cond (is_at-word x w i) (Some m) (knows.numbered w i))) ∙ by w (pointwise eqb x w) refl);
      differ = knows.differ;
    })
  where
    by : (w : Word) (b : Bool) → pointwise eqb x w ≡ b → cond b (Some n) (cond b (Some m) (found_in words w)) ≡ found_in words w
    by w true e = sym (ap (λ (v : Word). found_in words v) (sym (same_word x w e)) ∙ is)
    by w false e = refl

pub in-with : (words : List Word) (w : Word) → number_in (with_word words w) w < length (with_word words w)
in-with words w = elim (cases_lt (number_in words w) (length words)) [
  | inl less ↦ subst (λ (ws : List Word). number_in ws w < length ws) (sym (with-old words w less)) less
  | inr more ↦ omega (arith, number-added words w (length words) refl more, ap length (with-new words w more), length_push words w)
]

-- several words are known

pub with-more : (known words : List Word) (i : ℕ) (x : Word) → i < length words → x ≡ get_or words i x → with_words known (take (i + 1) words) ≡ with_word (with_words known (take i words)) x
with-more known words i x within is =
    ap (λ (ws : List Word). with_words known ws) (take_more words i x within ∙ ap (λ (v : Word). take i words ++ v ∷ []) (sym is)) ∙ fold_push with_word known (take i words) x
