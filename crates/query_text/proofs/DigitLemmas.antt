-- The digits of a number, put from the last one on.
use Rattle.std.proofs.Common.{◌≡◌, ℕ, ◌+◌, ◌-◌, ◌/◌, ◌%◌, ◌^◌, ◌<◌, ◌≤◌, List, [], ◌∷◌, ◌++◌, length, drop, set, sym, ap, ◌∙◌, arith, append_assoc, append-nil, drop_of_length-le, length-append}
use Rattle.std.specs.Fmt.{decimal}
use Rattle.std.proofs.lemmas.Fmt.{decimal_digit, decimal_nonempty, decimal_step, length-decimal-le}
use Rattle.std.proofs.lemmas.List.{drop-set}

-- the digits of the rest and those that stand from a place on are the number's, and there is room for the rest's
pub record ArePut (number rest first : ℕ) (ds : List ℕ) : Type 0 where
  pub within : first ≤ 20
  pub room : length (decimal rest) ≤ first
  pub whole : decimal rest ++ drop first ds ≡ decimal number

pub put_none : (number : ℕ) (ds : List ℕ) → number < 2 ^ 64 → length ds ≡ 20 → ArePut number number 20 ds
put_none number ds h full = record {
  within = omega arith;
  room = length-decimal-le 20 number (omega arith) (omega (arith, h)) h;
  whole = ap (λ xs. decimal number ++ xs) (drop_of_length-le ds {i = 20} (omega (arith, full))) ∙ append-nil (decimal number);
}

-- a digit in front of those that stand
in_front : (first digit : ℕ) (ds : List ℕ) → 1 ≤ first → first ≤ length ds → drop (first - 1) (set ds (first - 1) digit) ≡ digit ∷ drop first ds
in_front first digit ds some within =
    let back : first - 1 + 1 ≡ first = omega arith in
    drop-set ds (first - 1) digit (omega arith) ∙ ap (λ i. digit ∷ drop i ds) back

pub put_more : (number rest first : ℕ) (ds : List ℕ) → ArePut number rest first ds → 10 ≤ rest → rest < 2 ^ 64 → length ds ≡ 20
    → ArePut number (rest / 10) (first - 1) (set ds (first - 1) (48 + rest % 10))
put_more number rest first ds h more small full =
    let digit : List ℕ = (48 + rest % 10) ∷ [] in
    let step : decimal rest ≡ decimal (rest / 10) ++ digit = decimal_step rest more small in
    let longer : length (decimal rest) ≡ length (decimal (rest / 10)) + 1 = ap length step ∙ length-append (decimal (rest / 10)) digit in
    record {
      within = omega (arith, h.within);
      room = omega (arith, h.room, longer);
      whole =
          ap (λ xs. decimal (rest / 10) ++ xs) (in_front first (48 + rest % 10) ds (omega (arith, h.room, longer)) (omega (arith, h.within, full)))
          ∙ (sym (append_assoc (decimal (rest / 10)) digit (drop first ds))
          ∙ (ap (λ xs. xs ++ drop first ds) (sym step) ∙ h.whole));
    }

pub put_last : (number rest first : ℕ) (ds : List ℕ) → ArePut number rest first ds → rest < 10 → length ds ≡ 20
    → drop (first - 1) (set ds (first - 1) (48 + rest)) ≡ decimal number
put_last number rest first ds h less full =
    let one : decimal rest ≡ (48 + rest) ∷ [] = decimal_digit rest less in
    in_front first (48 + rest) ds (omega (arith, h.room, ap length one)) (omega (arith, h.within, full)) ∙ (ap (λ xs. xs ++ drop first ds) (sym one) ∙ h.whole)

-- there is room for one more
pub some_room : (number rest first : ℕ) (ds : List ℕ) → ArePut number rest first ds → rest < 2 ^ 64 → 1 ≤ first
some_room number rest first ds h small = omega (arith, h.room, decimal_nonempty rest small)
