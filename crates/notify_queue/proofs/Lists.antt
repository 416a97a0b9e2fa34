-- Lists: their fronts and backs, and what holds of all of a list or of some.
use Rattle.std.proofs.Common.{◌≡◌, ℕ, zero, suc, ◌-◌, ◌<◌, List, [], ◌∷◌, ◌++◌, ◌∙◌, length, take, drop, ap, subst, set, arith}
use Rattle.std.specs.List.{All, Any}
use Rattle.std.proofs.lemmas.List.{length-append, take_all}
use Rattle.std.proofs.lemmas.List.Elements.{All-take, All-drop}
use Rattle.std.proofs.Math.ListN.{get_or-append}
use Rattle.std.proofs.Math.Seq.{take-append_seam, drop-append_seam}

pub All-one : {X : Type 0} (P : X → Type 0) (x : X) → P x → All P (x ∷ [])
All-one P x p zero d lt = p
All-one P x p (suc k) d lt = absurd (omega arith)

pub All-front : {X : Type 0} (P : X → Type 0) (xs ys : List X) → All P (xs ++ ys) → All P xs
All-front P xs ys all = subst (All P) (take-append_seam xs ys) (All-take P (length xs) (xs ++ ys) all)

pub All-back : {X : Type 0} (P : X → Type 0) (xs ys : List X) → All P (xs ++ ys) → All P ys
All-back P xs ys all = subst (All P) (drop-append_seam xs ys) (All-drop P (length xs) (xs ++ ys) all)

-- what stands behind the front
pub behind : {X : Type 0} (all front xs : List X) (n : ℕ) → all ≡ front ++ xs → n ≡ length front → take (length all - n) (drop n all) ≡ xs
behind all front xs n e at =
    let d : drop n all ≡ xs = ap (λ k. drop k all) at ∙ ap (drop (length front)) e ∙ drop-append_seam front xs in
    ap (take (length all - n)) d ∙ take_all (length all - n) xs (omega (arith, ap length e, length-append front xs, at))

pub All-first : {X : Type 0} (P : X → Type 0) (xs : List X) (x : X) (ys : List X) → xs ≡ x ∷ ys → All P xs → P x
All-first P xs x ys e all = (rw e at all) 0 x (omega arith)

-- what holds of all, and of some, holds of one of them together
pub all_any : {X : Type 0} {P Q : X → Type 0} (xs : List X) → All P xs → Any Q xs → (x : X) × P x × Q x
all_any {X} {P} {Q} xs all any = (any.1, subst P any.3 (all any.0 any.1 any.2), any.4)

pub Any-front : {X : Type 0} (P : X → Type 0) (xs ys : List X) → Any P xs → Any P (xs ++ ys)
Any-front P xs ys any = (any.0, any.1, omega (arith, any.2, length-append xs ys), get_or-append xs ys any.1 any.0 any.2 ∙ any.3, any.4)

pub Any-back : {X : Type 0} (P : X → Type 0) (xs ys : List X) → Any P ys → Any P (xs ++ ys)
Any-back P [] ys any = any
Any-back P (x ∷ xs) ys any = let a = Any-back P xs ys any in (suc a.0, a.1, omega (arith, a.2), a.3, a.4)

module _ {V : Type 0} where
  pub length_set : (views : List V) (i : ℕ) (w : V) → 0 < length views → 0 < length (set views i w)
  length_set [] i w h = h
  length_set (v ∷ vs) zero w h = omega arith
  length_set (v ∷ vs) (suc i) w h = omega arith
