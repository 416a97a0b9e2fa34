-- Lists by index, and how many are left.
use Rattle.std.proofs.Common.{◌≡◌, ◌≢◌, ℕ, zero, suc, ◌+◌, ◌<◌, ◌≤◌, List, [], ◌∷◌, ◌++◌, length, set, refl, sym, ap, ◌∙◌, subst, nat_eq, eq-eqb, ne_eqb, Some, None, arith}
use Rattle.std.specs.Bool.{OnTrue, OnFalse}
use mathlib.Core.Logic.{dite}
use native.Mathlib.Decide.{ℕ_discrete}
use Rattle.std.specs.Prelude.{slice_set, slice_index}
use mathlib.Core.Option as maybe
use mathlib.Core.Option.{some-injective, some-ne-none}
use lib.ListN.{get_elem?}
use Rattle.collect_ops.specs.declared.view.Phase.{Phase}
use Rattle.collect_ops.specs.declared.view.Phase.TheVariants as phase
use Rattle.collect_ops.specs.declared.view.Ending.{Ending}
use Rattle.collect_ops.specs.declared.view.Item.TheVariants as item
use Rattle.collect_ops.specs.declared.view.View.{View}
use Rattle.collect_ops.specs.declared.view.View.TheVariants as view
use Rattle.collect_ops.specs.Views.{waits}
use Rattle.collect_ops.specs.Rule.{Held, left_of}
use Rattle.atomic_table.specs.Table.{rest, turned}
use Rattle.atomic_table.specs.Seated.{TableId}
use Rattle.atomic_table.specs.declared.shared.Seat.{Seat}
use Rattle.collect_ops.specs.Steps.{Standing, Sits, HasRoom}

module _ {A : Type 0} where
  pub within : (l : List A) (i : ℕ) (a : A) → get_elem? l i ≡ maybe.some a → i < length l
  within [] i a e = absurd (some-ne-none a (sym e))
  within (x ∷ xs) zero a e = omega arith
  within (x ∷ xs) (suc i) a e = let r = within xs i a e in omega arith

  -- one element at one place
  pub one_at : (l : List A) (i j : ℕ) (a b : A) → get_elem? l i ≡ maybe.some a → get_elem? l j ≡ maybe.some b → i ≡ j → a ≡ b
  one_at l i j a b e f same = some-injective a b (sym e ∙ (ap (get_elem? l) same ∙ f))

  -- a change before the last element, and of the last one
  pub set_before : (l : List A) (i : ℕ) (a e : A) → i < length l → set (l ++ e ∷ []) i a ≡ set l i a ++ e ∷ []
  set_before [] i a e lt = absurd (omega arith)
  set_before (x ∷ xs) zero a e lt = refl
  set_before (x ∷ xs) (suc i) a e lt = ap (λ ys. x ∷ ys) (set_before xs i a e (omega arith))

  pub set_last : (l : List A) (n : ℕ) (a e : A) → length l ≡ n → set (l ++ e ∷ []) n a ≡ l ++ a ∷ []
  set_last [] zero a e long = refl
  set_last [] (suc n) a e long = absurd (omega arith)
  set_last (x ∷ xs) zero a e long = absurd (omega arith)
  set_last (x ∷ xs) (suc n) a e long = ap (λ ys. x ∷ ys) (set_last xs n a e (omega arith))

-- what a step makes of two words
pub words_at_left : (ws : List ℕ) (a b : ℕ) (f : ℕ → ℕ) → ws ≡ a ∷ b ∷ [] → slice_set ws 0 (f (slice_index ws 0)) ≡ f a ∷ b ∷ []
words_at_left ws a b f e = ap (λ (l : List ℕ). slice_set l 0 (f (slice_index l 0))) e

pub words_at_claim : (ws : List ℕ) (a b : ℕ) (f : ℕ → ℕ) → ws ≡ a ∷ b ∷ [] → slice_set ws 1 (f (slice_index ws 1)) ≡ a ∷ f b ∷ []
words_at_claim ws a b f e = ap (λ (l : List ℕ). slice_set l 1 (f (slice_index l 1))) e

pub left_word : (ws : List ℕ) (a b : ℕ) → ws ≡ a ∷ b ∷ [] → slice_index ws 0 ≡ a
left_word ws a b e = ap (λ (l : List ℕ). slice_index l 0) e

pub claim_word_is : (ws : List ℕ) (a b : ℕ) → ws ≡ a ∷ b ∷ [] → slice_index ws 1 ≡ b
claim_word_is ws a b e = ap (λ (l : List ℕ). slice_index l 1) e

module _ {X : Type 0} where
  pub left_set : (ps : List (Phase X)) (i : ℕ) (p q : Phase X) → get_elem? ps i ≡ maybe.some p → left_of (set ps i q) + waits p ≡ left_of ps + waits q
  left_set [] i p q at = absurd (some-ne-none p (sym at))
  left_set (x ∷ xs) zero p q at = let is : waits x ≡ waits p = ap waits (some-injective x p at) in omega arith
  left_set (x ∷ xs) (suc i) p q at = let rest = left_set xs i p q at in omega arith

  pub left_at : (ps : List (Phase X)) (i : ℕ) (p : Phase X) → get_elem? ps i ≡ maybe.some p → waits p ≤ left_of ps
  left_at [] i p at = absurd (some-ne-none p (sym at))
  left_at (x ∷ xs) zero p at = let is : waits x ≡ waits p = ap waits (some-injective x p at) in omega arith
  left_at (x ∷ xs) (suc i) p at = let rest = left_at xs i p at in omega arith

  pub left_two : (ps : List (Phase X)) (i j : ℕ) (p q : Phase X) → i ≢ j → get_elem? ps i ≡ maybe.some p → get_elem? ps j ≡ maybe.some q → waits p + waits q ≤ left_of ps
  left_two [] i j p q ne at to = absurd (some-ne-none p (sym at))
  left_two (x ∷ xs) zero zero p q ne at to = absurd (ne refl)
  left_two (x ∷ xs) zero (suc j) p q ne at to = let is : waits x ≡ waits p = ap waits (some-injective x p at) in let rest = left_at xs j q to in omega arith
  left_two (x ∷ xs) (suc i) zero p q ne at to = let is : waits x ≡ waits q = ap waits (some-injective x q to) in let rest = left_at xs i p at in omega arith
  left_two (x ∷ xs) (suc i) (suc j) p q ne at to = let rest = left_two xs i j p q (λ e. ne (ap suc e)) at to in omega arith

  waits_one : (p : Phase X) → waits p ≤ 1
  waits_one phase.Ready = omega arith
  waits_one phase.Holding = omega arith
  waits_one (phase.Kept x found) = omega arith
  waits_one phase.Lost = omega arith
  waits_one phase.Claiming = omega arith
  waits_one phase.Claimed = omega arith
  waits_one (phase.Emptying xs) = omega arith
  waits_one (phase.Emptied xs) = omega arith
  waits_one (phase.Told xs k x) = omega arith

  pub left_within : (ps : List (Phase X)) → left_of ps ≤ length ps
  left_within [] = omega arith
  left_within (p ∷ ps) = let rest = left_within ps in let one = waits_one p in omega arith

-- the slot that a seat took last, and what it holds
abbrev pub first_slot : {H : Type 0} → List (ℕ × H) → ℕ
first_slot [] = 0
first_slot (x ∷ xs) = x.0

abbrev pub first_held : {H : Type 0} → H → List (ℕ × H) → H
first_held default [] = default
first_held default (x ∷ xs) = x.1

module _ {X E : Type 0} where
  -- what two standings of arrivals that are one have in common
  pub record SameArrival (n : ℕ) (r : Ending X E) (k : ℕ) (p : Phase X) (m : ℕ) (q : Ending X E) (j : ℕ) (u : Phase X) : Type 0 where
    pub size : n ≡ m
    pub ending : r ≡ q
    pub index : k ≡ j
    pub phase : p ≡ u

  same_views : (n : ℕ) (r : Ending X E) (k : ℕ) (p : Phase X) (m : ℕ) (q : Ending X E) (j : ℕ) (u : Phase X) → ◌≡◌ {A = View X E} (view.Arriving n r k p) (view.Arriving m q j u) → SameArrival n r k p m q j u
  same_views n r k p m q j u e =
      let a : n ≡ m = cc in
      let b : r ≡ q = cc in
      let c : k ≡ j = cc in
      let d : p ≡ u = cc in
      record { size = a; ending = b; index = c; phase = d }

  pub same_arrival : (n : ℕ) (r : Ending X E) (k : ℕ) (p : Phase X) (m : ℕ) (q : Ending X E) (j : ℕ) (u : Phase X) (hs is : List (ℕ × Held X E)) → ◌≡◌ {A = Standing X E} (view.Arriving n r k p, hs) (view.Arriving m q j u, is) → SameArrival n r k p m q j u
  same_arrival n r k p m q j u hs is e = same_views n r k p m q j u (ap (λ (z : Standing X E). z.0) e)

-- what follows of a test of two numbers
pub on_equal : (a b : ℕ) (P : Type 0) → (a ≡ b → P) → OnTrue (nat_eq a b) P
on_equal a b P h = dite (ℕ_discrete a b)
    (λ e. subst (λ t. OnTrue t P) (sym (eq-eqb a b e)) (h e))
    (λ ne. subst (λ t. OnTrue t P) (sym (ne_eqb a b ne)) tt)

pub on_different : (a b : ℕ) (P : Type 0) → (a ≢ b → P) → OnFalse (nat_eq a b) P
on_different a b P h = dite (ℕ_discrete a b)
    (λ e. subst (λ t. OnFalse t P) (sym (eq-eqb a b e)) tt)
    (λ ne. subst (λ t. OnFalse t P) (sym (ne_eqb a b ne)) (h ne))

module _ {X E : Type 0} where
  -- a seat of this table stands so
  pub sits : (table : TableId) (seat : Seat (Held X E) (View X E)) (standing : Standing X E) → seat.table_id ≡ table → seat.me ≡ standing → Sits table seat standing
  sits table seat standing of stands = record { of_table = of; stands = stands }

  -- where a seat stands that has put something into its one slot
  pub filled : (me before : Standing X E) (v : View X E) (k : ℕ) (held x : Held X E) → me ≡ (before.0, (k, x) ∷ rest before.1) → before ≡ (v, (k, held) ∷ []) → me ≡ (v, (k, x) ∷ [])
  filled me before v k held x put was = put ∙ ap (λ (m : Standing X E). (m.0, (k, x) ∷ rest m.1)) was

  -- it has this one slot
  pub has_one : (me : Standing X E) (v : View X E) (k : ℕ) (held : Held X E) → me ≡ (v, (k, held) ∷ []) → me.1 ≡ (k, held) ∷ rest me.1
  has_one me v k held is = let own = ap (λ (m : Standing X E). m.1) is in own ∙ ap (λ (l : List (ℕ × Held X E)). (k, held) ∷ l) (sym (ap rest own))

  -- the ending in the slot that a seat took last
  pub same_end : (me : Standing X E) (v : View X E) (k j : ℕ) (r q : Ending X E) (hs : List (ℕ × Held X E)) → me ≡ (v, (k, Some (item.End r)) ∷ hs) → me.1 ≡ (j, Some (item.End q)) ∷ rest me.1 → r ≡ q
  same_end me v k j r q hs is had =
      let slots = sym (ap (λ (m : Standing X E). m.1) is) ∙ had in
      let held = ap (first_held None) slots in
      let same : r ≡ q = cc in same

  -- the slot that it took last
  pub has_first : (me : Standing X E) (v : View X E) (x : ℕ × Held X E) (hs : List (ℕ × Held X E)) → me ≡ (v, x ∷ hs) → me.1 ≡ x ∷ rest me.1
  has_first me v x hs is = let own = ap (λ (m : Standing X E). m.1) is in own ∙ ap (λ (l : List (ℕ × Held X E)). x ∷ l) (sym (ap rest own))

  -- where it stands once it has emptied this slot and put it behind the others
  pub emptied_first : (m₀ m₁ m₂ : Standing X E) (v : View X E) (k : ℕ) (x y : Held X E) (hs : List (ℕ × Held X E)) → m₀ ≡ (v, (k, x) ∷ hs) → m₁ ≡ (m₀.0, (k, y) ∷ rest m₀.1) → m₂ ≡ (m₁.0, turned m₁.1) → m₂ ≡ (v, hs ++ (k, y) ∷ [])
  emptied_first m₀ m₁ m₂ v k x y hs was put now =
      now ∙ (ap (λ (m : Standing X E). (m.0, turned m.1)) put ∙ ap (λ (m : Standing X E). (m.0, turned ((k, y) ∷ rest m.1))) was)

  -- the room of an ending that is one with another
  pub same_room : (size : ℕ) (r q : Ending X E) → r ≡ q → HasRoom size r → HasRoom size q
  same_room size r q e room = subst (λ (z : Ending X E). HasRoom size z) e room
