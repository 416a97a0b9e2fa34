-- Entries in the order of their numbers: what is found in them, and their sums.
use Rattle.std.proofs.Common.{◌≡◌, ◌≢◌, ℕ, ◌+◌, ◌<◌, ◌≤◌, ◌⊎◌, ◌&&◌, inl, inr, Bool, true, false, cond, nat_eq, T, List, [], ◌∷◌, ◌++◌, map, Option, Some, None, refl, sym, ap, ◌∙◌, subst, arith, ⊎_elim}
use Rattle.std.specs.Cmp.{nat_cmp_total}
use Rattle.std.specs.FinMap.{nat_cmp-IsAntisymmetric}
use Rattle.std.specs.FinMap.Entries.{put, find, is_sorted, below_all, by_order, is_sorted-put, find-put, find-append, same_entries}
use Rattle.std.specs.List.{IsDistinct, AllByRecursion, filter, sum_by, find as first}
use Rattle.std.specs.Map.{keys_of}
use Rattle.std.specs.Ordering.{nat_cmp, eq_by_cmp, is_eq, is_lt}
use Rattle.std.specs.declared.cmp.Ordering.TheVariants.{Less, Equal, Greater}
use Rattle.std.proofs.lemmas.Bool.{cases_eq}
use Rattle.std.proofs.lemmas.Grind.{common_steps}
use Rattle.std.proofs.lemmas.List.Sums.{sum_by-cons}
use Rattle.std.proofs.lemmas.Map.Keys.{IsDistinct-head, IsDistinct-tail}
use Rattle.std.proofs.lemmas.Option.{none-some, same_Some}
use Rattle.tick_wheel.specs.InOrder.{in_order}

-- a test of two numbers
pub eq_by_nat_cmp : (a b : ℕ) → eq_by_cmp nat_cmp a b ≡ nat_eq a b
eq_by_nat_cmp a b = grind (arith, common_steps)

pub unequal : (a b : ℕ) → nat_eq a b ≡ false → a ≢ b
unequal a b is same = grind (arith, common_steps)

-- a list of numbered values, without the numbers
abbrev pub values : {A : Type 0} → List (ℕ × A) → List A
values {A = A} es = map (λ (e : ℕ × A). e.1) es

-- two readings that find the same are the same
pub option_ext : {A : Type 0} (o p : Option A) → ((x : A) → o ≡ Some x → p ≡ Some x) → ((x : A) → p ≡ Some x → o ≡ Some x) → o ≡ p
option_ext None None f g = refl
option_ext None (Some x) f g = g x refl
option_ext (Some x) p f g = sym (f x refl)

module _ {A : Type 0} where
  pub sorted-in_order : (es : List (ℕ × A)) → T (is_sorted nat_cmp (in_order es))
  sorted-in_order [] = tt
  sorted-in_order (e ∷ es) = is_sorted-put nat_cmp nat_cmp_total e.0 e.1 (in_order es) (sorted-in_order es)

  pub find-in_order : (es : List (ℕ × A)) (k : ℕ) → find nat_cmp k (in_order es) ≡ find nat_cmp k es
  find-in_order [] k = refl
  find-in_order (e ∷ es) k =
      find-put nat_cmp nat_cmp_total k e.0 e.1 (in_order es) ∙ ap (cond (eq_by_cmp nat_cmp k e.0) (Some e.1)) (find-in_order es k)

  -- lists in order in which the same is found are the same
  pub same_in_order : (xs ys : List (ℕ × A)) → T (is_sorted nat_cmp xs) → T (is_sorted nat_cmp ys)
      → ((k : ℕ) → find nat_cmp k xs ≡ find nat_cmp k ys) → xs ≡ ys
  same_in_order xs ys s t same = same_entries nat_cmp nat_cmp_total nat_cmp-IsAntisymmetric xs ys s t same

  find_cons : (e : ℕ × A) (es : List (ℕ × A)) (k : ℕ) → find nat_cmp k (e ∷ es) ≡ cond (nat_eq k e.0) (Some e.1) (find nat_cmp k es)
  find_cons e es k = ap (λ b. cond b (Some e.1) (find nat_cmp k es)) (eq_by_nat_cmp k e.0)

  pub find_here : (e : ℕ × A) (es : List (ℕ × A)) (k : ℕ) → k ≡ e.0 → find nat_cmp k (e ∷ es) ≡ Some e.1
  find_here e es k same = find_cons e es k ∙ here same
    where
      here : k ≡ e.0 → cond (nat_eq k e.0) (Some e.1) (find nat_cmp k es) ≡ Some e.1
      here same = grind (arith, common_steps)

  pub find_there : (e : ℕ × A) (es : List (ℕ × A)) (k : ℕ) → k ≢ e.0 → find nat_cmp k (e ∷ es) ≡ find nat_cmp k es
  find_there e es k apart = find_cons e es k ∙ there apart
    where
      there : k ≢ e.0 → cond (nat_eq k e.0) (Some e.1) (find nat_cmp k es) ≡ find nat_cmp k es
      there apart = grind (arith, common_steps)

  -- what is found is the first entry or lies behind it
  pub find_cases : (e : ℕ × A) (es : List (ℕ × A)) (k : ℕ) (v : A) → find nat_cmp k (e ∷ es) ≡ Some v
      → ((k ≡ e.0) × (v ≡ e.1)) ⊎ ((k ≢ e.0) × (find nat_cmp k es ≡ Some v))
  find_cases e es k v is =
      ⊎_elim
      (λ same. inl (same, same_Some _ _ (sym is ∙ find_here e es k same)))
      (λ apart. inr (apart, sym (find_there e es k apart) ∙ is))
      (cases_eq k e.0)

  -- a sum over entries with a new one
  pub sum-put : (f : A → ℕ) (k : ℕ) (v : A) (es : List (ℕ × A)) → find nat_cmp k es ≡ None
      → sum_by f (values (put nat_cmp k v es)) ≡ f v + sum_by f (values es)
  sum-put f k v [] none = sum_by-cons f v []
  sum-put f k v (e ∷ es) none =
      elim (nat_cmp k e.0) as (λ o. cond (is_eq o) (Some e.1) (find nat_cmp k es) ≡ None
      → sum_by f (values (by_order o ((k, v) ∷ e ∷ es) ((e.0, v) ∷ es) (e ∷ put nat_cmp k v es))) ≡ f v + sum_by f (values (e ∷ es))) [
        | Less ↦ λ _. sum_by-cons f v (e.1 ∷ values es)
        | Equal ↦ λ h. absurd (none-some e.1 (sym h))
        | Greater ↦ λ h.
            let rest = sum-put f k v es h in
            omega (arith, rest, sum_by-cons f e.1 (values (put nat_cmp k v es)), sum_by-cons f e.1 (values es))
      ] none

  pub sum-in_order : (f : A → ℕ) (es : List (ℕ × A)) → IsDistinct nat_eq (keys_of es) → sum_by f (values (in_order es)) ≡ sum_by f (values es)
  sum-in_order f [] distinct = refl
  sum-in_order f (e ∷ es) distinct =
      sum-put f e.0 e.1 (in_order es) (find-in_order es e.0 ∙ absent e.0 es (IsDistinct-head nat_eq e.0 (keys_of es) distinct))
      ∙ ap (λ n. f e.1 + n) (sum-in_order f es (IsDistinct-tail nat_eq e.0 (keys_of es) distinct))
      ∙ sym (sum_by-cons f e.1 (values es))
    where
      absent : (k : ℕ) (xs : List (ℕ × A)) → AllByRecursion (λ y. nat_eq k y ≡ false) (keys_of xs) → find nat_cmp k xs ≡ None
      absent k [] all = refl
      absent k (x ∷ xs) all = find_there x xs k (unequal k x.0 all.0) ∙ absent k xs all.1

both : (a b : Bool) → T (a && b) → T a × T b
both true true h = (tt, tt)
both true false h = absurd h
both false b h = absurd h

and : (a b : Bool) → T a → T b → T (a && b)
and true b p q = q
and false b p q = absurd p

less_than : (a b : ℕ) → T (is_lt (nat_cmp a b)) → a < b
less_than a b h = grind (arith, common_steps)

then_less : (a b : ℕ) → a < b → T (is_lt (nat_cmp a b))
then_less a b h = subst (λ o. T (is_lt o)) (sym (is_less a b h)) tt
  where
    is_less : (a b : ℕ) → a < b → nat_cmp a b ≡ Less
    is_less a b h = grind (arith, common_steps)

-- lists in order
module _ {A : Type 0} where
  below_found : (x : ℕ) (es : List (ℕ × A)) (k : ℕ) (v : A) → T (below_all nat_cmp x es) → find nat_cmp k es ≡ Some v → x < k
  below_found x [] k v h is = absurd (none-some v is)
  below_found x (e ∷ es) k v h is =
      let b = both _ _ h in
      ⊎_elim (λ a. subst (λ n. x < n) (sym a.0) (less_than x e.0 b.0)) (λ a. below_found x es k v b.1 a.1) (find_cases e es k v is)

  pub sorted_tail : (e : ℕ × A) (es : List (ℕ × A)) → T (is_sorted nat_cmp (e ∷ es)) → T (is_sorted nat_cmp es)
  sorted_tail e es s = (both _ _ s).1

  pub sorted_later : (e : ℕ × A) (es : List (ℕ × A)) (k : ℕ) (v : A) → T (is_sorted nat_cmp (e ∷ es)) → find nat_cmp k es ≡ Some v → e.0 < k
  sorted_later e es k v s is = below_found e.0 es k v (both _ _ s).0 is

  -- what is found behind the first entry is found in all
  pub find_later : (e : ℕ × A) (es : List (ℕ × A)) (k : ℕ) (v : A) → T (is_sorted nat_cmp (e ∷ es)) → find nat_cmp k es ≡ Some v
      → find nat_cmp k (e ∷ es) ≡ Some v
  find_later e es k v s is = find_there e es k (λ same. omega (arith, sorted_later e es k v s is, same)) ∙ is

  -- one entry more at the end
  pub sorted_push : (es : List (ℕ × A)) (k : ℕ) (v : A) → T (is_sorted nat_cmp es)
      → ((q : ℕ) (w : A) → find nat_cmp q es ≡ Some w → q < k) → T (is_sorted nat_cmp (es ++ (k, v) ∷ []))
  sorted_push [] k v s below = tt
  sorted_push (e ∷ es) k v s below =
      and _ _
      (below_push e.0 es k v (both _ _ s).0 (below e.0 e.1 (find_here e es e.0 refl)))
      (sorted_push es k v (both _ _ s).1 (λ q w is. below q w (find_later e es q w s is)))
    where
      below_push : (x : ℕ) (xs : List (ℕ × A)) (k : ℕ) (v : A) → T (below_all nat_cmp x xs) → x < k → T (below_all nat_cmp x (xs ++ (k, v) ∷ []))
      below_push x [] k v h low = and _ _ (then_less x k low) tt
      below_push x (y ∷ ys) k v h low = and _ _ (both _ _ h).0 (below_push x ys k v (both _ _ h).1 low)

  pub find_push : (es : List (ℕ × A)) (k : ℕ) (v : A) (q : ℕ) → find nat_cmp k es ≡ None
      → find nat_cmp q (es ++ (k, v) ∷ []) ≡ cond (nat_eq q k) (Some v) (find nat_cmp q es)
  find_push es k v q none = find-append nat_cmp nat_cmp_total es k v q none ∙ ap (λ b. cond b (Some v) (find nat_cmp q es)) (eq_by_nat_cmp q k)

  -- a filter by the values
  module _ (p : A → Bool) where
    abbrev keep : List (ℕ × A) → List (ℕ × A)
    keep = filter (λ (e : ℕ × A). p e.1)

    below_keep : (x : ℕ) (es : List (ℕ × A)) → T (below_all nat_cmp x es) → T (below_all nat_cmp x (keep es))
    below_keep x [] h = tt
    below_keep x (e ∷ es) h =
        let rest = below_keep x es (both _ _ h).1 in
        elim (p e.1) as (λ b. T (below_all nat_cmp x (cond b (e ∷ keep es) (keep es)))) [ true ↦ and _ _ (both _ _ h).0 rest | false ↦ rest ]

    pub sorted_keep : (es : List (ℕ × A)) → T (is_sorted nat_cmp es) → T (is_sorted nat_cmp (filter (λ (e : ℕ × A). p e.1) es))
    sorted_keep [] s = tt
    sorted_keep (e ∷ es) s =
        let rest = sorted_keep es (both _ _ s).1 in
        elim (p e.1) as (λ b. T (is_sorted nat_cmp (cond b (e ∷ keep es) (keep es)))) [ true ↦ and _ _ (below_keep e.0 es (both _ _ s).0) rest | false ↦ rest ]

    -- what is found in a filter
    pub found_keep : (es : List (ℕ × A)) (k : ℕ) (v : A) → T (is_sorted nat_cmp es) → find nat_cmp k (filter (λ (e : ℕ × A). p e.1) es) ≡ Some v
        → (find nat_cmp k es ≡ Some v) × (p v ≡ true)
    found_keep [] k v s is = absurd (none-some v is)
    found_keep (e ∷ es) k v s is =
        elim (p e.1) as (λ b. p e.1 ≡ b → find nat_cmp k (cond b (e ∷ keep es) (keep es)) ≡ Some v → (find nat_cmp k (e ∷ es) ≡ Some v) × (p v ≡ true)) [
          | true ↦ λ t h. ⊎_elim
              (λ a. (find_here e es k a.0 ∙ ap Some (sym a.1), ap p a.1 ∙ t))
              (λ a. let r = found_keep es k v (both _ _ s).1 a.1 in (find_later e es k v s r.0, r.1))
              (find_cases e (keep es) k v h)
          | false ↦ λ t h. let r = found_keep es k v (both _ _ s).1 h in (find_later e es k v s r.0, r.1)
        ] refl is

    pub keep_found : (es : List (ℕ × A)) (k : ℕ) (v : A) → T (is_sorted nat_cmp es) → find nat_cmp k es ≡ Some v → p v ≡ true
        → find nat_cmp k (filter (λ (e : ℕ × A). p e.1) es) ≡ Some v
    keep_found [] k v s is t = is
    keep_found (e ∷ es) k v s is t =
        elim (p e.1) as (λ b. p e.1 ≡ b → find nat_cmp k (cond b (e ∷ keep es) (keep es)) ≡ Some v) [
          | true ↦ λ u. ⊎_elim
              (λ a. find_here e (keep es) k a.0 ∙ ap Some (sym a.1))
              (λ a. find_there e (keep es) k a.0 ∙ keep_found es k v (both _ _ s).1 a.1 t)
              (find_cases e es k v is)
          | false ↦ λ u. ⊎_elim
              (λ a. absurd (true_false (sym t ∙ ap p a.1 ∙ u)))
              (λ a. keep_found es k v (both _ _ s).1 a.1 t)
              (find_cases e es k v is)
        ] refl
      where
        true_false : true ≡ false → ⊥
        true_false h = cc

    pub values_keep : (es : List (ℕ × A)) → values (filter (λ (e : ℕ × A). p e.1) es) ≡ filter p (values es)
    values_keep [] = refl
    values_keep (e ∷ es) =
        elim (p e.1) as (λ b. values (cond b (e ∷ keep es) (keep es)) ≡ cond b (e.1 ∷ filter p (values es)) (filter p (values es))) [
          | true ↦ ap (λ (vs : List A). e.1 ∷ vs) (values_keep es)
          | false ↦ values_keep es
        ]

    -- a filter that keeps nothing, one that keeps all
    pub filter_none : (es : List (ℕ × A)) → T (is_sorted nat_cmp es) → ((k : ℕ) (v : A) → find nat_cmp k es ≡ Some v → p v ≡ false) → filter p (values es) ≡ []
    filter_none [] s none = refl
    filter_none (e ∷ es) s none =
        ap (λ b. cond b (e.1 ∷ filter p (values es)) (filter p (values es))) (none e.0 e.1 (find_here e es e.0 refl))
        ∙ filter_none es (both _ _ s).1 (λ k v is. none k v (find_later e es k v s is))

    pub filter_all : (es : List (ℕ × A)) → T (is_sorted nat_cmp es) → ((k : ℕ) (v : A) → find nat_cmp k es ≡ Some v → p v ≡ true) → filter p (values es) ≡ values es
    filter_all [] s all = refl
    filter_all (e ∷ es) s all =
        ap (λ b. cond b (e.1 ∷ filter p (values es)) (filter p (values es))) (all e.0 e.1 (find_here e es e.0 refl))
        ∙ ap (λ (vs : List A). e.1 ∷ vs) (filter_all es (both _ _ s).1 (λ k v is. all k v (find_later e es k v s is)))

    -- the first value that passes, as a number finds it
    pub first_found : (es : List (ℕ × A)) (v : A) → T (is_sorted nat_cmp es) → first p (values es) ≡ Some v
        → (k : ℕ) × (find nat_cmp k es ≡ Some v) × (p v ≡ true)
    first_found [] v s is = absurd (none-some v is)
    first_found (e ∷ es) v s is =
        elim (p e.1) as (λ b. p e.1 ≡ b → cond b (Some e.1) (first p (values es)) ≡ Some v → (k : ℕ) × (find nat_cmp k (e ∷ es) ≡ Some v) × (p v ≡ true)) [
          | true ↦ λ t h. (e.0, find_here e es e.0 refl ∙ h, ap p (sym (same_Some _ _ h)) ∙ t)
          | false ↦ λ t h. let r = first_found es v (both _ _ s).1 h in (r.0, find_later e es r.0 v s r.1, r.2)
        ] refl is

    pub found_first : (es : List (ℕ × A)) (k : ℕ) (v : A) → find nat_cmp k es ≡ Some v → p v ≡ true → (w : A) × (first p (values es) ≡ Some w)
    found_first [] k v is t = absurd (none-some v is)
    found_first (e ∷ es) k v is t =
        elim (p e.1) as (λ b. p e.1 ≡ b → (w : A) × (cond b (Some e.1) (first p (values es)) ≡ Some w)) [
          | true ↦ λ u. (e.1, refl)
          | false ↦ λ u. ⊎_elim (λ a. absurd (true_false (sym t ∙ ap p a.1 ∙ u))) (λ a. found_first es k v a.1 t) (find_cases e es k v is)
        ] refl
      where
        true_false : true ≡ false → ⊥
        true_false h = cc

  -- the least number that passes stands first, and goes with what q refuses
  pub first_passes : (p q : A → Bool) (es : List (ℕ × A)) (k : ℕ) (v : A) → T (is_sorted nat_cmp es) → find nat_cmp k es ≡ Some v
      → p v ≡ true → q v ≡ false → ((n : ℕ) (w : A) → find nat_cmp n es ≡ Some w → n ≢ k → q w ≡ true)
      → ((n : ℕ) (w : A) → find nat_cmp n es ≡ Some w → p w ≡ true → k ≤ n)
      → filter p (values es) ≡ v ∷ filter p (filter q (values es))
  first_passes p q [] k v s is takes leaves others least = absurd (none-some v is)
  first_passes p q (e ∷ es) k v s is takes leaves others least =
      ⊎_elim
      (λ a.
      let at : v ≡ e.1 = a.1 in
      let rest : filter q (values es) ≡ values es = filter_all q es (sorted_tail e es s)
      (λ n w found. others n w (find_later e es n w s found) (λ same. omega (arith, sorted_later e es n w s found, same, a.0))) in
      ap (λ b. cond b (e.1 ∷ filter p (values es)) (filter p (values es))) (ap p (sym at) ∙ takes)
      ∙ ap (λ (w : A). w ∷ filter p (values es)) (sym at)
      ∙ ap (λ (ws : List A). v ∷ filter p ws) (sym rest)
      ∙ ap (λ b. v ∷ filter p (cond b (e.1 ∷ filter q (values es)) (filter q (values es)))) (sym (ap q (sym at) ∙ leaves)))
      (λ a.
      let low : e.0 < k = sorted_later e es k v s a.1 in
      let fails : p e.1 ≡ false = not_true (p e.1) (λ t. omega (arith, least e.0 e.1 (find_here e es e.0 refl) t, low)) in
      let stays : q e.1 ≡ true = others e.0 e.1 (find_here e es e.0 refl) (λ same. omega (arith, low, same)) in
      let rest = first_passes p q es k v (sorted_tail e es s) a.1 takes leaves (λ n w found. others n w (find_later e es n w s found))
      (λ n w found. least n w (find_later e es n w s found)) in
      ap (λ b. cond b (e.1 ∷ filter p (values es)) (filter p (values es))) fails
      ∙ rest
      ∙ ap (λ b. v ∷ cond b (e.1 ∷ filter p (filter q (values es))) (filter p (filter q (values es)))) (sym fails)
      ∙ ap (λ b. v ∷ filter p (cond b (e.1 ∷ filter q (values es)) (filter q (values es)))) (sym stays))
      (find_cases e es k v is)
    where
      not_true : (b : Bool) → (b ≡ true → ⊥) → b ≡ false
      not_true true f = absurd (f refl)
      not_true false f = refl

  -- what q refuses r refuses too
  pub filter_filter : (r q : A → Bool) (es : List (ℕ × A)) → T (is_sorted nat_cmp es)
      → ((n : ℕ) (w : A) → find nat_cmp n es ≡ Some w → q w ≡ false → r w ≡ false)
      → filter r (filter q (values es)) ≡ filter r (values es)
  filter_filter r q [] s h = refl
  filter_filter r q (e ∷ es) s h =
      let rest = filter_filter r q es (sorted_tail e es s) (λ n w found. h n w (find_later e es n w s found)) in
      elim (q e.1) as (λ b. q e.1 ≡ b → filter r (cond b (e.1 ∷ filter q (values es)) (filter q (values es))) ≡ cond (r e.1) (e.1 ∷ filter r (values es)) (filter r (values es))) [
        | true ↦ λ _. ap (λ (ws : List A). cond (r e.1) (e.1 ∷ ws) ws) rest
        | false ↦ λ t. rest ∙ ap (λ b. cond b (e.1 ∷ filter r (values es)) (filter r (values es))) (sym (h e.0 e.1 (find_here e es e.0 refl) t))
      ] refl

  below_from_found : (x : ℕ) (es : List (ℕ × A)) → T (is_sorted nat_cmp es) → ((k : ℕ) (v : A) → find nat_cmp k es ≡ Some v → x < k) → T (below_all nat_cmp x es)
  below_from_found x [] s above = tt
  below_from_found x (e ∷ es) s above =
      and _ _ (then_less x e.0 (above e.0 e.1 (find_here e es e.0 refl)))
      (below_from_found x es (sorted_tail e es s) (λ k v is. above k v (find_later e es k v s is)))

  -- one entry more at the front
  pub sorted_cons : (k : ℕ) (v : A) (es : List (ℕ × A)) → T (is_sorted nat_cmp es) → ((n : ℕ) (w : A) → find nat_cmp n es ≡ Some w → k < n) → T (is_sorted nat_cmp ((k, v) ∷ es))
  sorted_cons k v es s above = and _ _ (below_from_found k es s above) s
