-- The next of the tasks that are handed back.
use Rattle.std.proofs.Common.{◌≡◌, ℕ, zero, suc, ◌+◌, List, [], ◌∷◌, ◌++◌, length, length-append, map, set, take, ◌≤◌, Option, Some, refl, sym, ap, ◌∙◌, append_assoc, subst, arith}
use Rattle.std.specs.Prelude.{slice_get, unwrap_or}
use Rattle.std.proofs.lemmas.List.{take-append-le, take_all}
use Rattle.fan_base.specs.declared.number.JobId.{JobId}
use Rattle.fan_base.specs.declared.number.Mark.{Mark}
use Rattle.job_trait.specs.declared.job.Head.{Head}
use Rattle.pool_model.specs.Records.{Record, IsRunOf}
use Rattle.pool_model.specs.Seen.{Returned}
use Rattle.pool_runs.specs.declared.placed.Placed.{Placed}
use Rattle.pool_runs.specs.Returning.{back_of, back_from}
use Rattle.pool_runs.specs.Running.{RunsBack, task_in}
use Rattle.task_queue.specs.declared.rule.Queued.{Queued}

module _ {J : Type 0} where
  -- what waits in the highest queue comes first
  pub highest_first : (k n : ℕ) (front : List (List (Queued (Placed J)))) (r : List (Queued (Placed J))) → n ≡ k + length front → back_from k (front ++ r ∷ []) ≡ map (back_of n) r ++ back_from k front
  highest_first k n [] r is =
      let same : k ≡ n = omega (arith, is) in
      ap (λ (m : ℕ). map (back_of m) r) same ∙ sym (none_behind (map (back_of n) r))
    where
      none_behind : (l : List (Returned J)) → l ++ [] ≡ l
      none_behind [] = refl
      none_behind (x ∷ xs) = ap (λ (m : List (Returned J)). x ∷ m) (none_behind xs)
  highest_first k n (x ∷ front) r is =
      ap (λ (l : List (Returned J)). l ++ map (back_of k) x) (highest_first (k + 1) n front r (omega (arith, is)))
      ∙ append_assoc (map (back_of n) r) (back_from (k + 1) front) (map (back_of k) x)

  -- the last of a list, and what it is changed to
  pub record Last (items : List (List (Queued (Placed J)))) (k : ℕ) (r : List (Queued (Placed J))) : Type 0 where
    pub front : List (List (Queued (Placed J)))
    pub is : items ≡ front ++ r ∷ []
    pub count : length front ≡ k
    pub changed : (s : List (Queued (Placed J))) → set items k s ≡ front ++ s ∷ []

  pub last_of : (items : List (List (Queued (Placed J)))) (k : ℕ) (r : List (Queued (Placed J))) → suc k ≡ length items → slice_get items k ≡ Some r → Last items k r
  last_of [] k r is at = absurd (omega (arith, is))
  last_of (x ∷ []) zero r is at = record { front = []; is = ap (λ (y : List (Queued (Placed J))). y ∷ []) (ap (λ (o : Option (List (Queued (Placed J)))). unwrap_or o x) at); count = refl; changed = λ s. refl }
  last_of (x ∷ y ∷ items) zero r is at = absurd (omega (arith, is))
  last_of (x ∷ items) (suc k) r is at =
      let h = last_of items k r (omega (arith, is)) at in
      record { front = x ∷ h.front; is = ap (λ (l : List (List (Queued (Placed J)))). x ∷ l) h.is; count = ap suc h.count; changed = λ s. ap (λ (l : List (List (Queued (Placed J)))). x ∷ l) (h.changed s) }

  pub next_is : (items new : List (List (Queued (Placed J)))) (k : ℕ) (task : Queued (Placed J)) (rest : List (Queued (Placed J))) → suc k ≡ length items → slice_get items k ≡ Some (task ∷ rest) → new ≡ set items k rest
      → (back_from 0 items ≡ back_of k task ∷ back_from 0 new) × (length new ≡ length items)
  next_is items new k task rest is at changed =
      let l = last_of items k (task ∷ rest) is at in
      let new_is : new ≡ l.front ++ rest ∷ [] = changed ∙ l.changed rest in
      let place : k ≡ 0 + length l.front = omega (arith, l.count) in (
        ap (back_from 0) l.is ∙ (highest_first 0 k l.front (task ∷ rest) place ∙ ap (λ (m : List (Returned J)). back_of k task ∷ m) (sym (ap (back_from 0) new_is ∙ highest_first 0 k l.front rest place))),
        omega (arith, ap length new_is, ap length l.is, length-append l.front (rest ∷ []), length-append l.front ((task ∷ rest) ∷ [])),
      )

  pub none_is : (items more : List (List (Queued (Placed J)))) (k n : ℕ) → suc k ≡ length items → slice_get items k ≡ Some [] → n ≡ k → more ≡ take n items → (back_from 0 more ≡ back_from 0 items) × (length more ≤ length items)
  none_is items more k n is at same taken =
      let l = last_of items k [] is at in
      let place : k ≡ 0 + length l.front = omega (arith, l.count) in
      let front : more ≡ l.front =
      taken ∙ (ap (λ (m : ℕ). take m items) same ∙ (ap (take k) l.is ∙ (take-append-le k l.front ([] ∷ []) (omega (arith, l.count)) ∙ take_all k l.front (omega (arith, l.count))))) in (
        ap (back_from 0) front ∙ sym (ap (back_from 0) l.is ∙ highest_first 0 k l.front [] place),
        omega (arith, ap length front, ap length l.is, length-append l.front ([] ∷ [])),
      )

  pub run_back : {W : Type 0} (head : J → Head) (runs : JobId → W → Mark → W → Type 0) (r entry : Record) (made : List Record) (old new : List (Returned J)) (queue : ℕ) (task : Queued (Placed J)) (w v : W)
      → made ≡ entry ∷ [] → made ≡ r ∷ [] → old ≡ back_of queue task ∷ new → IsRunOf (task_in head queue task) entry → runs entry.job w entry.mark v → RunsBack head runs (Some r) old w new v
  run_back head runs r entry made old new queue task w v only one is run led =
      let same : entry ≡ r = first entry r [] [] (sym only ∙ one) in
      (back_of queue task, is, subst (IsRunOf (task_in head queue task)) same run, subst (λ (x : Record). runs x.job w x.mark v) same led)
    where
      first : (x y : Record) (us vs : List Record) → x ∷ us ≡ y ∷ vs → x ≡ y
      first x y us vs e = cc
