-- Steps of which each may fail: `do` goes on behind an `Ok` and ends at the first `Err`.
use Rattle.std.specs.Prelude.{Bool, true, false, List, [], ◌∷◌, Result, Ok, Err}

infixl 10 ◌>>=◌
abbrev pub ◌>>=◌ : {A B E : Type 0} → Result A E → (A → Result B E) → Result B E
(Ok x) >>= f = f x
(Err e) >>= f = Err e

-- a check: goes on where the test is passed, and fails with this otherwise
abbrev pub check : {E : Type 0} → Bool → E → Result (Unit {0}) E
check true e = Ok tt
check false e = Err e

-- the first of a list and those behind it, or this failure where there is none
abbrev pub first_of : {A E : Type 0} → List A → E → Result (A × List A) E
first_of [] e = Err e
first_of (x ∷ xs) e = Ok (x, xs)
