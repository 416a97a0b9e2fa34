-- Lists that are read and changed at one place.
use Rattle.std.proofs.Common.{◌≡◌, ℕ, zero, suc, List, [], ◌∷◌, ◌++◌, map, set, Option, Some, sym, ap, ◌∙◌, subst}
use Rattle.std.specs.Prelude.{slice_get, unwrap_or}
use Rattle.std.specs.List.{All}
use Rattle.std.proofs.Math.Seq.{map-set_same}
use Rattle.std.proofs.lemmas.List.Elements.{All-get_or}
use Rattle.std.proofs.lemmas.Option.{get_or_from_slice_get, slice_get_within}
use Rattle.pool_model.specs.declared.task.Entry.{Entry}
use Rattle.pool_model.specs.Seen.{at_queue}

-- what holds of each element holds of the one that is found
pub all_get : {X : Type 0} (P : X → Type 0) (xs : List X) (k : ℕ) (x : X) → All P xs → slice_get xs k ≡ Some x → P x
all_get P xs k x all at = subst P (get_or_from_slice_get xs k x x at) (All-get_or P xs k x (slice_get_within xs k x at) all)

-- an element is replaced by one of which f is the same: f of each is as it was
pub map_same : {X Y : Type 0} (f : X → Y) (xs : List X) (k : ℕ) (a b : X) → slice_get xs k ≡ Some a → f b ≡ f a → map f (set xs k b) ≡ map f xs
map_same f xs k a b at same = map-set_same f xs k b a (same ∙ ap f (sym (get_or_from_slice_get xs k a a at)))

-- an element is replaced by one with an entry more
pub entry_more : {X : Type 0} (entries : X → List Entry) (xs : List X) (k : ℕ) (a b : X) (e : Entry) → slice_get xs k ≡ Some a → entries b ≡ entries a ++ e ∷ []
    → map entries (set xs k b) ≡ set (map entries xs) k (at_queue (map entries xs) k ++ e ∷ [])
entry_more entries [] k a b e at same = cc
entry_more entries (x ∷ xs) zero a b e at same =
    let one : entries b ≡ entries x ++ e ∷ [] = same ∙ ap (λ (z : _). entries z ++ e ∷ []) (sym (ap (λ (o : Option _). unwrap_or o x) at)) in
    (λ i. one i ∷ map entries xs)
entry_more entries (x ∷ xs) (suc k) a b e at same = ap (λ (l : List (List Entry)). entries x ∷ l) (entry_more entries xs k a b e at same)
