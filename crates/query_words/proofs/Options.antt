-- A step that goes on.
use Rattle.std.proofs.Common.{◌≡◌, Option, Some, None, option_and_then, refl}

-- where one thing behind another gives something, the one gave something
pub and_then-Some : {A B : Type 0} (f : A → Option B) (o : Option A) (b : B) → option_and_then f o ≡ Some b → (a : A) × (o ≡ Some a) × (f a ≡ Some b)
and_then-Some f (Some a) b e = (a, refl, e)
and_then-Some f None b e = cc

pub same_Some : {A : Type 0} (a b : A) → Some a ≡ Some b → a ≡ b
same_Some a b e = cc
