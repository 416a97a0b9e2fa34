-- Documents that were all looked at are short.
use Rattle.std.proofs.Common.{◌≡◌, ℕ, zero, suc, ◌≤◌, List, [], ◌∷◌, length, Bool, true, false, ◌&&◌, leb, true≢false, refl, sym, arith}
use Rattle.std.specs.List.{list_all}
use Rattle.std.proofs.lemmas.Bool.Decides.{nat_tests}
use Rattle.fan_base.specs.declared.doc.Doc.{Doc}
use Rattle.shard_index.specs.Standing.{AreShort}

both : (a b : Bool) → (a && b) ≡ true → (a ≡ true) × (b ≡ true)
both true b e = (refl, e)
both false b e = absurd (true≢false (sym e))

le : (n m : ℕ) → leb n m ≡ true → n ≤ m
le n m h = grind (arith, nat_tests)

pub all_short : (docs : List Doc) → list_all (λ doc. leb (length doc.words) 1000) docs ≡ true → AreShort docs
all_short [] e k d within = absurd (omega arith)
all_short (x ∷ xs) e zero d within = le (length x.words) 1000 (both _ _ e).0
all_short (x ∷ xs) e (suc k) d within = all_short xs (both _ _ e).1 k d (omega arith)
