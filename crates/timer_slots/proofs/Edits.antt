-- The id at each spot, where one list changes at one place.
use Rattle.std.proofs.Common.{◌≡◌, ◌≢◌, ℕ, zero, suc, ◌+◌, ◌*◌, ◌/◌, ◌%◌, ◌<◌, ◌==◌, cond, List, [], ◌∷◌, ◌++◌, length, set, slice_get, Option, Some, None, refl, sym, ap, ◌∙◌, subst, arith, ⊎_elim}
use Rattle.std.proofs.lemmas.Bool.{cases_eq, cases_lt}
use Rattle.std.proofs.lemmas.Bool.Decides.{nat_tests}
use Rattle.std.proofs.lemmas.List.{get_or-set_same, get_or-set_other, length_push, get_or_append_left, set_past}
use Rattle.std.proofs.lemmas.Option.{slice_get_past, slice_get-get_or}
use Rattle.timer_slots.specs.Lists.{Pushes, Pops}
use Rattle.timer_slots.specs.Seen.{list_of, id_in}

-- the test of two numbers
pub if_same : {X : Type 0} (a b : ℕ) (x y : X) → a ≡ b → cond (a == b) x y ≡ x
if_same a b x y same = grind (arith, nat_tests)

pub if_apart : {X : Type 0} (a b : ℕ) (x y : X) → a ≢ b → cond (a == b) x y ≡ y
if_apart a b x y apart = grind (arith, nat_tests)

-- a number is its slot and its place
pub one_spot : (p q : ℕ) → p / 18014398509481984 ≡ q / 18014398509481984 → p % 18014398509481984 ≡ q % 18014398509481984 → p ≡ q
one_spot p q slot place = omega (arith, slot, place)

-- a list that changed at one place
abbrev pub IsEdited : List ℕ → List ℕ → ℕ → Option ℕ → Type 0
IsEdited xs ys place o = (p : ℕ) → slice_get ys p ≡ cond (p == place) o (slice_get xs p)

-- an id more at the end
push_end : (xs : List ℕ) (id : ℕ) → slice_get (xs ++ id ∷ []) (length xs) ≡ Some id
push_end [] id = refl
push_end (x ∷ xs) id = push_end xs id

push_other : (xs : List ℕ) (id p : ℕ) → p ≢ length xs → slice_get (xs ++ id ∷ []) p ≡ slice_get xs p
push_other xs id p apart =
    ⊎_elim
    (λ h. slice_get-get_or (xs ++ id ∷ []) p id (omega (arith, length_push xs id)) ∙ ap Some (get_or_append_left xs (id ∷ []) id p h) ∙ sym (slice_get-get_or xs p id h))
    (λ h. slice_get_past (xs ++ id ∷ []) p (omega (arith, apart, length_push xs id)) ∙ sym (slice_get_past xs p h))
    (cases_lt p (length xs))

pub edited_push : (xs : List ℕ) (id : ℕ) → IsEdited xs (xs ++ id ∷ []) (length xs) (Some id)
edited_push xs id p =
    ⊎_elim
    (λ e. ap (slice_get (xs ++ id ∷ [])) e ∙ push_end xs id ∙ sym (if_same p (length xs) _ _ e))
    (λ ne. push_other xs id p ne ∙ sym (if_apart p (length xs) _ _ ne))
    (cases_eq p (length xs))

-- the last id gone
pub edited_pop : (ys : List ℕ) (id : ℕ) → IsEdited (ys ++ id ∷ []) ys (length ys) None
edited_pop ys id p =
    ⊎_elim
    (λ e. slice_get_past ys p (omega (arith, e)) ∙ sym (if_same p (length ys) _ _ e))
    (λ ne. sym (push_other ys id p ne) ∙ sym (if_apart p (length ys) _ _ ne))
    (cases_eq p (length ys))

-- another id at a place
get_set : (xs : List ℕ) (place id p : ℕ) → place < length xs → p ≢ place → slice_get (set xs place id) p ≡ slice_get xs p
get_set [] place id p low apart = refl
get_set (x ∷ xs) zero id zero low apart = absurd (apart refl)
get_set (x ∷ xs) zero id (suc p) low apart = refl
get_set (x ∷ xs) (suc place) id zero low apart = refl
get_set (x ∷ xs) (suc place) id (suc p) low apart = get_set xs place id p (omega (arith, low)) (λ e. apart (ap suc e))

get_own : (xs : List ℕ) (place id : ℕ) → place < length xs → slice_get (set xs place id) place ≡ Some id
get_own [] place id low = absurd (omega (arith, low))
get_own (x ∷ xs) zero id low = refl
get_own (x ∷ xs) (suc place) id low = get_own xs place id (omega (arith, low))

pub edited_set : (xs : List ℕ) (place id : ℕ) → place < length xs → IsEdited xs (set xs place id) place (Some id)
edited_set xs place id low p =
    ⊎_elim
    (λ e. ap (slice_get (set xs place id)) e ∙ get_own xs place id low ∙ sym (if_same p place _ _ e))
    (λ ne. get_set xs place id p low ne ∙ sym (if_apart p place _ _ ne))
    (cases_eq p place)

-- one of the lists changed at one place
pub edited : (lists : List (List ℕ)) (slot : ℕ) (ys : List ℕ) (spot : ℕ) (o : Option ℕ) → slot < length lists → spot / 18014398509481984 ≡ slot
    → IsEdited (list_of lists slot) ys (spot % 18014398509481984) o → (q : ℕ) → id_in (set lists slot ys) q ≡ cond (q == spot) o (id_in lists q)
edited lists slot ys spot o there slot_is is q =
    ⊎_elim
    (λ e.
    let own : id_in (set lists slot ys) q ≡ slice_get ys (q % 18014398509481984)
    = ap (λ s. slice_get (list_of (set lists slot ys) s) (q % 18014398509481984)) e ∙ ap (λ (zs : List ℕ). slice_get zs (q % 18014398509481984)) (get_or-set_same lists slot ys [] there) in
    ⊎_elim
    (λ same. own ∙ is (q % 18014398509481984) ∙ if_same (q % 18014398509481984) (spot % 18014398509481984) _ _ same ∙ sym (if_same q spot _ _ (one_spot q spot (e ∙ sym slot_is) same)))
    (λ ne. own ∙ is (q % 18014398509481984) ∙ if_apart (q % 18014398509481984) (spot % 18014398509481984) _ _ ne
    ∙ ap (λ s. slice_get (list_of lists s) (q % 18014398509481984)) (sym e) ∙ sym (if_apart q spot _ _ (λ same. ne (ap (λ n. n % 18014398509481984) same))))
    (cases_eq (q % 18014398509481984) (spot % 18014398509481984)))
    (λ ne. ap (λ (zs : List ℕ). slice_get zs (q % 18014398509481984)) (get_or-set_other lists slot (q / 18014398509481984) ys [] ne)
    ∙ sym (if_apart q spot _ _ (λ same. ne (ap (λ n. n / 18014398509481984) same ∙ slot_is))))
    (cases_eq (q / 18014398509481984) slot)

-- the lists stay short where the one that changed is short
pub still_short : (lists : List (List ℕ)) (slot : ℕ) (ys : List ℕ) → length ys < 18014398509481984 → ((s : ℕ) → length (list_of lists s) < 18014398509481984)
    → (s : ℕ) → length (list_of (set lists slot ys) s) < 18014398509481984
still_short lists slot ys own short s =
    ⊎_elim
    (λ there. ⊎_elim
    (λ e. subst (λ n. n < 18014398509481984) (sym (ap (λ (zs : List ℕ). length zs) (ap (list_of (set lists slot ys)) e ∙ get_or-set_same lists slot ys [] there))) own)
    (λ ne. subst (λ n. n < 18014398509481984) (sym (ap (λ (zs : List ℕ). length zs) (get_or-set_other lists slot s ys [] ne))) (short s))
    (cases_eq s slot))
    (λ past. subst (λ (zs : List (List ℕ)). length (list_of zs s) < 18014398509481984) (sym (set_past lists slot ys past)) (short s))
    (cases_lt slot (length lists))

-- what a push and a pop make of the ids at all spots
pub spot_parts : (slot place spot : ℕ) → place < 18014398509481984 → spot ≡ slot * 18014398509481984 + place → (spot / 18014398509481984 ≡ slot) × (spot % 18014398509481984 ≡ place)
spot_parts slot place spot low is = (omega (arith, low, is), omega (arith, low, is))

pub pushed : (old new : List (List ℕ)) (slot id spot : ℕ) → slot < length old → Pushes old new slot id spot
    → (spot / 18014398509481984 ≡ slot) × (id_in old spot ≡ None) × ((q : ℕ) → id_in new q ≡ cond (q == spot) (Some id) (id_in old q))
pushed old new slot id spot there is =
    let xs : List ℕ = list_of old slot in
    let parts = spot_parts slot (length xs) spot (omega (arith, is.fits)) is.spot_is in (
      parts.0,
      ap (λ s. slice_get (list_of old s) (spot % 18014398509481984)) parts.0 ∙ slice_get_past xs (spot % 18014398509481984) (omega (arith, parts.1)),
      (λ q. ap (λ (zs : List (List ℕ)). id_in zs q) is.new_is
          ∙ edited old slot (xs ++ id ∷ []) spot (Some id) there parts.0 (subst (λ p. IsEdited xs (xs ++ id ∷ []) p (Some id)) (sym parts.1) (edited_push xs id)) q),
    )

pub popped : (old new : List (List ℕ)) (slot id spot : ℕ) → slot < length old → length (list_of old slot) < 18014398509481984 → Pops old new slot id
    → spot / 18014398509481984 ≡ slot → spot % 18014398509481984 ≡ length (list_of new slot)
    → (id_in old spot ≡ Some id) × ((q : ℕ) → id_in new q ≡ cond (q == spot) None (id_in old q))
popped old new slot id spot there short is slot_is place_is =
    let ys : List ℕ = list_of new slot in (
      ap (λ s. slice_get (list_of old s) (spot % 18014398509481984)) slot_is ∙ ap (λ p. slice_get (list_of old slot) p) place_is
          ∙ ap (λ (zs : List ℕ). slice_get zs (length ys)) is.was ∙ push_end ys id,
      (λ q. ap (λ (zs : List (List ℕ)). id_in zs q) is.new_is
          ∙ edited old slot ys spot None there slot_is (subst (λ (zs : List ℕ). IsEdited zs ys (spot % 18014398509481984) None) (sym is.was)
          (subst (λ p. IsEdited (ys ++ id ∷ []) ys p None) (sym place_is) (edited_pop ys id))) q),
    )
