-- A map's list of entries has one more after an insertion at a new key, and one less after a removal.
use Rattle.std.proofs.Common.{◌≡◌, ℕ, Bool, true, false, cond, List, [], ◌∷◌, ◌++◌, Option, Some, None, nat_cmp, refl, sym, ap, ◌∙◌, subst}
use Rattle.std.specs.declared.cmp.Ordering.{Ordering}
use Rattle.std.specs.declared.cmp.Ordering.TheVariants.{Less, Equal, Greater}
use Rattle.std.specs.Ordering.{is_eq, match_ordering}
use Rattle.std.specs.BTreeMap.{insert_entry, is_at}
use Rattle.std.specs.Map.{lookup, remove_entry}
use Rattle.std.specs.FinMap.{nat_cmp-IsAntisymmetric}
use Rattle.reply_order.specs.Orders.{AddsOne}

is_equal : (o : Ordering) → is_eq o ≡ true → o ≡ Equal
is_equal Less e = absurd (cc)
is_equal Equal e = refl
is_equal Greater e = absurd (cc)

same_key : (k j : ℕ) → is_eq (nat_cmp k j) ≡ true → k ≡ j
same_key k j e = nat_cmp-IsAntisymmetric k j (is_equal (nat_cmp k j) e)

module _ {R : Type 0} where
  one_later : (e x : ℕ × R) (es ys : List (ℕ × R)) → AddsOne es x ys → AddsOne (e ∷ es) x (e ∷ ys)
  one_later e x es ys more = record {
    front = e ∷ more.front;
    back = more.back;
    was = ap (λ (l : List (ℕ × R)). e ∷ l) more.was;
    is = ap (λ (l : List (ℕ × R)). e ∷ l) more.is;
  }

  put_at : (o : Ordering) (e : ℕ × R) (es : List (ℕ × R)) (k : ℕ) (v : R) → cond (is_eq o) (Some e.1) (lookup (is_at (nat_cmp k)) es) ≡ None
      → (lookup (is_at (nat_cmp k)) es ≡ None → AddsOne es (k, v) (insert_entry nat_cmp es k v))
      → AddsOne (e ∷ es) (k, v) (match_ordering o ((k, v) ∷ e ∷ es) ((e.0, v) ∷ es) (e ∷ insert_entry nat_cmp es k v))
  put_at Less e es k v none later = record { front = []; back = e ∷ es; was = refl; is = refl }
  put_at Equal e es k v none later = absurd (cc)
  put_at Greater e es k v none later = one_later e (k, v) es (insert_entry nat_cmp es k v) (later none)

  inserted : (es : List (ℕ × R)) (k : ℕ) (v : R) → lookup (is_at (nat_cmp k)) es ≡ None → AddsOne es (k, v) (insert_entry nat_cmp es k v)
  inserted [] k v none = record { front = []; back = []; was = refl; is = refl }
  inserted (e ∷ es) k v none = put_at (nat_cmp k e.0) e es k v none (inserted es k v)

  -- an insertion at a key that the map doesn't have
  pub inserted_as : (es ys : List (ℕ × R)) (k : ℕ) (v : R) → lookup (is_at (nat_cmp k)) es ≡ None → ys ≡ insert_entry nat_cmp es k v → AddsOne es (k, v) ys
  inserted_as es ys k v none made = subst (AddsOne es (k, v)) (sym made) (inserted es k v none)

  taken_at : (b : Bool) (e : ℕ × R) (es : List (ℕ × R)) (k : ℕ) (v : R) → (b ≡ true → k ≡ e.0) → cond b (Some e.1) (lookup (is_at (nat_cmp k)) es) ≡ Some v
      → (lookup (is_at (nat_cmp k)) es ≡ Some v → AddsOne (remove_entry (is_at (nat_cmp k)) es) (k, v) es)
      → AddsOne (cond b es (e ∷ remove_entry (is_at (nat_cmp k)) es)) (k, v) (e ∷ es)
  taken_at true e es k v same found later =
      let value : e.1 ≡ v = cc in
      record { front = []; back = es; was = refl; is = λ i. (sym (same refl) i, value i) ∷ es }
  taken_at false e es k v same found later = one_later e (k, v) (remove_entry (is_at (nat_cmp k)) es) es (later found)

  taken : (es : List (ℕ × R)) (k : ℕ) (v : R) → lookup (is_at (nat_cmp k)) es ≡ Some v → AddsOne (remove_entry (is_at (nat_cmp k)) es) (k, v) es
  taken [] k v found = absurd (cc)
  taken (e ∷ es) k v found = taken_at (is_eq (nat_cmp k e.0)) e es k v (same_key k e.0) found (taken es k v)

  -- a removal of what stood at a key
  pub taken_as : (es ys : List (ℕ × R)) (k : ℕ) (v : R) → lookup (is_at (nat_cmp k)) es ≡ Some v → ys ≡ remove_entry (is_at (nat_cmp k)) es → AddsOne ys (k, v) es
  taken_as es ys k v found made = subst (λ (l : List (ℕ × R)). AddsOne l (k, v) es) (sym made) (taken es k v found)
