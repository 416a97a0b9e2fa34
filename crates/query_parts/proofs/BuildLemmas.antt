-- Shards that were made each on its own, and in several goes.
use Rattle.std.proofs.Common.{◌≡◌, ◌+◌, ◌++◌, ◌-◌, ◌<◌, ◌≤◌, ◌^◌, ℕ, List, Ok, IfOk, length, get_or, map, sym, ap, subst, ◌∙◌, arith, nat_lt, true, false, Bool, refl}
use Rattle.std.proofs.Math.ListN.{get_or-append}
use Rattle.std.proofs.lemmas.List.{get_or-map, get_or-append_right, length-append, length-map}
use Rattle.std.proofs.lemmas.Bool.Decides.{nat_tests}
use Rattle.std.specs.declared.result.Result.{Result}
use Rattle.fan_base.specs.declared.doc.Doc.{Doc}
use Rattle.fan_base.specs.declared.refusal.Memory.{Memory}
use Rattle.shard_index.specs.declared.shard.Shard.{Shard}
use Rattle.shard_index.specs.Standing.{StandsFor}
use Rattle.query_parts.specs.Parts.{AreShards, StandFrom}

-- what was made in one go
pub some-stand : (docs : List Doc) (shards first count : ℕ) (made : List (Result Shard Memory)) (some : List Shard) → map Ok some ≡ made → length made ≡ count
    → ((i : ℕ) (d : Result Shard Memory) → i < count → IfOk (get_or made i d) (λ shard. StandsFor shard docs shards (first + i))) → StandFrom some docs shards first
some-stand docs shards first count made some are many each =
    λ i shard low. subst (λ (r : Result Shard Memory). IfOk r (λ s. StandsFor s docs shards (first + i))) (at i shard low) (each i (Ok shard) (omega (arith, low, long)))
  where
    long : length some ≡ count
    long = sym (length-map some Ok) ∙ (ap length are ∙ many)

    at : (i : ℕ) (shard : Shard) → i < length some → get_or made i (Ok shard) ≡ Ok (get_or some i shard)
    at i shard low = ap (λ (rs : List (Result Shard Memory)). get_or rs i (Ok shard)) (sym are) ∙ get_or-map Ok some i shard (Ok shard) low

pub made-many : (count : ℕ) (made : List (Result Shard Memory)) (some : List Shard) → map Ok some ≡ made → length made ≡ count → length some ≡ count
made-many count made some are many = sym (length-map some Ok) ∙ (ap length are ∙ many)

-- shards with the next numbers behind those from 0
pub stand-more : (docs : List Doc) (shards first : ℕ) (all more : List Shard) → length all ≡ first → StandFrom all docs shards 0 → StandFrom more docs shards first → StandFrom (all ++ more) docs shards 0
stand-more docs shards first all more many stand behind = λ i shard low. by i shard low (nat_lt i first) refl
  where
    less : (x y : ℕ) → nat_lt x y ≡ true → x < y
    less x y h = grind (arith, nat_tests)

    not_less : (x y : ℕ) → nat_lt x y ≡ false → y ≤ x
    not_less x y h = grind (arith, nat_tests)

    by : (i : ℕ) (shard : Shard) → i < length (all ++ more) → (b : Bool) → nat_lt i first ≡ b → StandsFor (get_or (all ++ more) i shard) docs shards (0 + i)
    by i shard low true is =
        let within : i < length all = omega (arith, less i first is, many) in
        subst (λ (s : Shard). StandsFor s docs shards (0 + i)) (sym (get_or-append all more shard i within)) (stand i shard within)
    by i shard low false is =
        let past = not_less i first is in
        let number : first + (i - first) ≡ 0 + i = omega (arith, past) in
        let within : i - first < length more = omega (arith, past, low, many, length-append all more) in
        subst (λ (s : Shard). StandsFor s docs shards (0 + i)) (sym (get_or-append_right all more first i shard many past))
        (subst (λ (n : ℕ). StandsFor (get_or more (i - first) shard) docs shards n) number (behind (i - first) shard within))

pub all-stand : (docs : List Doc) (shards : ℕ) (all : List Shard) → length all ≡ shards → 1 ≤ shards → length docs < 2 ^ 32 → StandFrom all docs shards 0 → AreShards all docs
all-stand docs shards all many some few stand = record {
  some = omega (arith, many, some);
  few = few;
  each = λ number shard low. subst (λ (k : ℕ). StandsFor (get_or all number shard) docs k number) (sym many)
      (subst (λ (n : ℕ). StandsFor (get_or all number shard) docs shards n) (let same : 0 + number ≡ number = omega arith in same) (stand number shard low));
}
