-- What one more read makes of what was read so far, and what it is at the end.
use Rattle.std.proofs.Common.{◌≡◌, ℕ, ◌≤◌, List, [], ◌++◌, length, Option, Some, None, sym, ap, ◌∙◌, subst, append-nil, ◌↔◌, arith, length-append}
use Rattle.std.specs.Option.{IfSome}
use Rattle.std.specs.Io.KnownBytes.{Consumes, Keeps}
use Rattle.std.proofs.KnownBytes.{Consumes-kept, Consumes-trans}
use Rattle.fan_base.specs.Outside.{FaultsRose, Shown}
use Rattle.input_reader.specs.Sources.{most_bytes, FailsBehind, ReadsAll, ReadsChunk, ReadsSome}

nothing_left : (xs ys zs text got : List ℕ) → xs ≡ text ++ ys → ys ≡ got ++ zs → got ≡ [] → ys ≡ [] → (xs ≡ text) × (Some zs ≡ Some [])
nothing_left xs ys zs text got first then none end =
    (first ∙ (ap (λ l. text ++ l) end ∙ append-nil text), ap (λ l. Some l) (ap (λ l. l ++ zs) (sym none) ∙ (sym then ∙ end)))

all_read : (old mid new : Option (List ℕ)) (text got : List ℕ) → Consumes old mid text → Consumes mid new got → IfSome mid (λ bytes. (got ≡ []) ↔ (bytes ≡ [])) → got ≡ []
    → IfSome old (λ bytes. (bytes ≡ text) × (new ≡ Some []))
all_read None mid new text got first then end none = tt
all_read (Some xs) None new text got first then end none = absurd first
all_read (Some xs) (Some ys) None text got first then end none = absurd then
all_read (Some xs) (Some ys) (Some zs) text got first then end none = nothing_left xs ys zs text got first then none (end.0 none)

module _ (old mid new : Shown) (text : List ℕ) (consumed : Consumes old.bytes mid.bytes text) (sound : mid.faults ≡ old.faults) (few : length text ≤ most_bytes) where
  pub reads_all : (got : List ℕ) → ReadsChunk mid new got → got ≡ [] → ReadsAll old new text
  reads_all got read none = record { whole = all_read old.bytes mid.bytes new.bytes text got consumed read.moved read.end none; sound = read.sound ∙ sound; few = few }

  pub fails_behind : Keeps mid.bytes new.bytes → FaultsRose mid.faults new.faults → FailsBehind old new text
  fails_behind kept rose = record { consumed = Consumes-kept old.bytes mid.bytes new.bytes text consumed kept; few = few; rose = subst (λ n. FaultsRose n new.faults) sound rose }

  pub reads_some : (got : List ℕ) → ReadsChunk mid new got → ReadsSome old new (text ++ got)
  reads_some got read = record {
    consumed = Consumes-trans old.bytes mid.bytes new.bytes text got consumed read.moved;
    sound = read.sound ∙ sound;
    few = omega (arith, few, read.few, length-append text got);
  }
