-- The digits of a number below 500, one by one.
use Rattle.std.proofs.Common.{◌≡◌, ◌∙◌, ◌<◌, ◌≤◌, ◌+◌, ◌/◌, ◌%◌, ◌==◌, ℕ, suc, List, [], ◌∷◌, Bool, true, false, cond, ap, arith}
use Rattle.std.proofs.lemmas.Bool.Decides.{nat_tests}
use Rattle.std.specs.Prelude.{nat_lt}
use Rattle.std.specs.Fmt.{decimal, digit_glyph, digits, digits_onto}

-- one digit more, and the last one
more : (k n : ℕ) (acc : List ℕ) → (n / 10 == 0) ≡ false → digits_onto (suc k) 10 false n acc ≡ digits_onto k 10 false (n / 10) (digit_glyph false (n % 10) ∷ acc)
more k n acc e = ap (λ (b : Bool). cond b (digit_glyph false (n % 10) ∷ acc) (digits_onto k 10 false (n / 10) (digit_glyph false (n % 10) ∷ acc))) e

last : (k n : ℕ) (acc : List ℕ) → (n / 10 == 0) ≡ true → digits_onto (suc k) 10 false n acc ≡ digit_glyph false (n % 10) ∷ acc
last k n acc e = ap (λ (b : Bool). cond b (digit_glyph false (n % 10) ∷ acc) (digits_onto k 10 false (n / 10) (digit_glyph false (n % 10) ∷ acc))) e

glyph : (d : ℕ) → d < 10 → digit_glyph false d ≡ 48 + d
glyph d h = ap (λ (b : Bool). cond b (48 + d) (87 + d)) (below d h)
  where
    below : (d : ℕ) → d < 10 → nat_lt d 10 ≡ true
    below d h = grind (arith, nat_tests)

is-zero : (n : ℕ) → n ≡ 0 → (n == 0) ≡ true
is-zero n h = grind (arith, nat_tests)

is-some : (n : ℕ) → 1 ≤ n → (n == 0) ≡ false
is-some n h = grind (arith, nat_tests)

one : (a : ℕ) → a < 10 → digit_glyph false a ∷ [] ≡ (48 + a) ∷ []
one a h = ap (λ (x : ℕ). x ∷ []) (glyph a h)

two : (a b : ℕ) → a < 10 → b < 10 → digit_glyph false a ∷ digit_glyph false b ∷ [] ≡ (48 + a) ∷ (48 + b) ∷ []
two a b h k = λ i. glyph a h i ∷ glyph b k i ∷ []

three : (a b c : ℕ) → a < 10 → b < 10 → c < 10 → digit_glyph false a ∷ digit_glyph false b ∷ digit_glyph false c ∷ [] ≡ (48 + a) ∷ (48 + b) ∷ (48 + c) ∷ []
three a b c h k l = λ i. glyph a h i ∷ glyph b k i ∷ glyph c l i ∷ []

pub one_digit : (n : ℕ) → n < 10 → decimal n ≡ (48 + n % 10) ∷ []
unfolding digits
one_digit n h = last 63 n [] (is-zero (n / 10) (omega (arith, h))) ∙ one (n % 10) (omega arith)

pub two_digits : (n : ℕ) → 10 ≤ n → n < 100 → decimal n ≡ (48 + n / 10 % 10) ∷ (48 + n % 10) ∷ []
unfolding digits
two_digits n g h =
    more 63 n [] (is-some (n / 10) (omega (arith, g)))
    ∙ (last 62 (n / 10) (digit_glyph false (n % 10) ∷ []) (is-zero (n / 10 / 10) (omega (arith, h)))
    ∙ two (n / 10 % 10) (n % 10) (omega arith) (omega arith))

pub three_digits : (n : ℕ) → 100 ≤ n → n < 1000 → decimal n ≡ (48 + n / 10 / 10) ∷ (48 + n / 10 % 10) ∷ (48 + n % 10) ∷ []
unfolding digits
three_digits n g h =
    let first : n / 10 / 10 % 10 ≡ n / 10 / 10 = omega (arith, h) in
    more 63 n [] (is-some (n / 10) (omega (arith, g)))
    ∙ (more 62 (n / 10) (digit_glyph false (n % 10) ∷ []) (is-some (n / 10 / 10) (omega (arith, g)))
    ∙ (last 61 (n / 10 / 10) (digit_glyph false (n / 10 % 10) ∷ digit_glyph false (n % 10) ∷ []) (is-zero (n / 10 / 10 / 10) (omega (arith, h)))
    ∙ (three (n / 10 / 10 % 10) (n / 10 % 10) (n % 10) (omega arith) (omega arith) (omega arith)
    ∙ ap (λ (d : ℕ). (48 + d) ∷ (48 + n / 10 % 10) ∷ (48 + n % 10) ∷ []) first)))
