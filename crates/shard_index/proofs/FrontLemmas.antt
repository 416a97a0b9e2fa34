-- Of parted places those below a number come first.
use Rattle.std.proofs.Common.{◌≡◌, ℕ, ◌-◌, ◌<◌, ◌≤◌, List, length, true, false, ltb, get_or, sym, arith, ◌∙◌}
use Rattle.std.specs.List.Sorted.{IsPartitionedBy, IsPartitionPoint}
use Rattle.std.proofs.lemmas.List.{take_all}
use Rattle.std.proofs.lemmas.Bool.{lt-ltb, ltb-false, ltb-true}
use Rattle.shard_index.specs.Places.{front_of}
use Rattle.shard_index.proofs.PlaceLemmas.{front-is}

-- where the places below a number end
pub end-is : (front end : ℕ) (xs : List ℕ) → IsPartitionPoint (λ x. ltb x front ≡ true) (λ x. ltb x front ≡ false) xs end
    → ((k : ℕ) → k < end → get_or xs k 0 < front) × (end < length xs → front ≤ get_or xs end 0)
end-is front end xs split = ((λ k low. ltb-true (get_or xs k 0) front (split.0 k 0 (omega arith) low)), (λ low. ltb-false (get_or xs end 0) front (split.1 end 0 (omega arith) low)))

-- where the last place is below a number, all are
pub whole-front : (front : ℕ) (xs : List ℕ) → IsPartitionedBy (λ x. ltb x front) xs → 0 < length xs → get_or xs (length xs - 1) 0 < front → xs ≡ front_of front xs
whole-front front xs parted some last =
    sym (take_all (length xs) xs (omega arith)) ∙ front-is front (length xs) xs (omega arith) each (λ low. absurd (omega arith))
  where
    each : (k : ℕ) → k < length xs → get_or xs k 0 < front
    each k low = ltb-true (get_or xs k 0) front (parted k (length xs - 1) 0 (omega arith) (omega arith) (lt-ltb (get_or xs (length xs - 1) 0) front last))
