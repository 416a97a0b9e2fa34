-- How many messages the gathering bases had in all: one for each task of each answered query.
use Rattle.std.proofs.Common.{◌≡◌, ℕ, zero, suc, ◌+◌, ◌-◌, ◌*◌, ◌%◌, ◌<◌, ◌≤◌, ◌==◌, Bool, true, false, cond, List, [], ◌∷◌, length, map, get_or, sym, ap, ◌∙◌, arith}
use Rattle.std.specs.List.{range_with_len, sum_by}
use Rattle.std.proofs.lemmas.Bool.Decides.{nat_tests}
use Rattle.std.proofs.lemmas.List.Sums.{sum_by-cons}
use Rattle.std.proofs.Math.Nat.{mod-lt, mul-add, mul-zero}
use mathlib.Core.Logic.{dite}
use native.Mathlib.Decide.{ℕ_discrete}
use Rattle.event_base.specs.Seen.{NoteSeen}
use Rattle.query_model.specs.declared.line.Line.{Line}
use Rattle.query_model.specs.Order.{Asked}
use Rattle.fan_model.specs.Answered.{answered_in}
use Rattle.fan_model.specs.Notes.{base_of}
use Rattle.run_notes.specs.declared.counting.Counted.{Counted}
use Rattle.run_notes.specs.Counting.{ArePutBy, HasCounted, gathered_on, puts_of}

abbrev total : List ℕ → ℕ
total counts = sum_by (λ (c : ℕ). c) counts

-- the sum of a number for each of so many bases, from the first on
abbrev over : (ℕ → ℕ) → ℕ → ℕ → ℕ
over f first n = total (map f (range_with_len first n))

still_none : (sum rest : ℕ) → sum ≡ 0 + rest → rest ≡ 0 → sum ≡ 0
still_none sum rest first none = omega (arith, first, none)

over_none : (first n : ℕ) → over (λ base. 0) first n ≡ 0
over_none first zero = omega arith
over_none first (suc n) = still_none _ _ (sum_by-cons (λ (c : ℕ). c) 0 (map (λ (base : ℕ). 0) (range_with_len (first + 1) n))) (over_none (first + 1) n)

added_first : (x xs y ys z zs x' y' z' : ℕ) → x' ≡ x + xs → y' ≡ y + ys → z' ≡ z + zs → x ≡ y + z → xs ≡ ys + zs → x' ≡ y' + z'
added_first x xs y ys z zs x' y' z' e f h here rest = omega (arith, e, f, h, here, rest)

over_both : (f g h : ℕ → ℕ) → ((base : ℕ) → f base ≡ g base + h base) → (first n : ℕ) → over f first n ≡ over g first n + over h first n
over_both f g h both first zero = omega arith
over_both f g h both first (suc n) =
    let next : List ℕ = range_with_len (first + 1) n in
    let same = λ (c : ℕ). c in
    added_first (f first) (total (map f next)) (g first) (total (map g next)) (h first) (total (map h next)) _ _ _
    (sum_by-cons same (f first) (map f next)) (sum_by-cons same (g first) (map g next)) (sum_by-cons same (h first) (map h next)) (both first) (over_both f g h both (first + 1) n)

-- one for a base, and none for another
abbrev at : ℕ → ℕ → ℕ
at base other = cond (base == other) 1 0

differs : (base other : ℕ) → (base ≡ other → ⊥) → at base other ≡ 0
differs base other ne = let off : (base == other) ≡ false = grind (arith, nat_tests, ne) in ap (λ (b : Bool). cond b 1 0) off

agrees : (base other : ℕ) → base ≡ other → at base other ≡ 1
agrees base other is = let on : (base == other) ≡ true = grind (arith, nat_tests, is) in ap (λ (b : Bool). cond b 1 0) on

over_cons : (f : ℕ → ℕ) (first n here rest : ℕ) → f first ≡ here → over f (first + 1) n ≡ rest → over f first (suc n) ≡ here + rest
over_cons f first n here rest is others =
    sum_by-cons (λ (c : ℕ). c) (f first) (map f (range_with_len (first + 1) n)) ∙ (ap (λ (k : ℕ). k + over f (first + 1) n) is ∙ ap (λ (k : ℕ). here + k) others)

none_behind : (base first n : ℕ) → base < first → over (at base) first n ≡ 0
none_behind base first zero below = omega arith
none_behind base first (suc n) below = over_cons (at base) first n 0 0 (differs base first (λ e. omega (arith, e, below))) (none_behind base (first + 1) n (omega (arith, below)))

one_base : (base first n : ℕ) → first ≤ base → base < first + n → over (at base) first n ≡ 1
one_base base first zero from below = absurd (omega (arith, from, below))
one_base base first (suc n) from below = dite (ℕ_discrete base first)
    (λ same. over_cons (at base) first n 1 0 (agrees base first same) (none_behind base (first + 1) n (omega (arith, same))))
    (λ other. over_cons (at base) first n 0 1 (differs base first other) (one_base base (first + 1) n (omega (arith, from, other)) (omega (arith, below))))

-- each query is gathered on one base
all_gathered : (bases : ℕ) → zero < bases → (queries : List Asked) → over (gathered_on bases queries) 1 bases ≡ length queries
all_gathered bases some [] = over_none 1 bases
all_gathered bases some (q ∷ qs) =
    let base : ℕ = base_of bases q.number in
    let within : (q.number - 1) % bases < bases = mod-lt (q.number - 1) some in
    let first : over (at base) 1 bases ≡ 1 = one_base base 1 bases (omega arith) (omega (arith, within)) in
    let rest : over (gathered_on bases qs) 1 bases ≡ length qs = all_gathered bases some qs in
    let both : over (gathered_on bases (q ∷ qs)) 1 bases ≡ over (at base) 1 bases + over (gathered_on bases qs) 1 bases =
    over_both (gathered_on bases (q ∷ qs)) (at base) (gathered_on bases qs) (λ other. sum_by-cons (λ (asked : Asked). cond (base_of bases asked.number == other) 1 0) q qs) 1 bases in
    both ∙ omega (arith, first, rest)

puts_are : (shards : ℕ) (counts : List ℕ) (notes : List NoteSeen) → length notes ≡ length counts → ((k : ℕ) (d : NoteSeen) → k < length notes → (get_or notes k d).put ≡ shards * get_or counts k 0)
    → puts_of notes ≡ shards * total counts
puts_are shards [] [] long each = sym (mul-zero shards)
puts_are shards [] (n ∷ ns) long each = absurd (omega (arith, long))
puts_are shards (c ∷ cs) [] long each = absurd (omega (arith, long))
puts_are shards (c ∷ cs) (n ∷ ns) long each =
    let first : n.put ≡ shards * c = each 0 n (omega arith) in
    let rest : puts_of ns ≡ shards * total cs = puts_are shards cs ns (omega (arith, long)) (λ k d below. each (suc k) d (omega (arith, below))) in
    sum_by-cons (λ (x : NoteSeen). x.put) n ns
    ∙ (ap (λ (k : ℕ). k + puts_of ns) first
    ∙ (ap (λ (k : ℕ). shards * c + k) rest
    ∙ (sym (mul-add shards c (total cs)) ∙ ap (λ (k : ℕ). shards * k) (sym (sum_by-cons (λ (x : ℕ). x) c cs)))))

pub tasks_put : (lines : List Line) (shards bases : ℕ) (counted : Counted) (notes : List NoteSeen) → zero < bases → HasCounted lines bases counted → ArePutBy shards counted.by_base.items notes
    → puts_of notes ≡ shards * length (answered_in lines)
tasks_put lines shards bases counted notes some has put =
    puts_are shards counted.by_base.items notes put.as_many put.each
    ∙ (ap (λ (l : List ℕ). shards * total l) has.by_base ∙ ap (λ (k : ℕ). shards * k) (all_gathered bases some (answered_in lines)))
