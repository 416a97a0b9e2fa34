-- Calls of a closure at each item of a list, with what is shared.
use Rattle.std.specs.Prelude.{◌≡◌, ℕ, ◌<◌, List, length, slice_index_or}
use denote.Ref.{Bor, MutBor}
use denote.Param.Members.{Shared}

module _ {F X S : Type 0} (g : Shared F (Bor X × (MutBor S × Unit {0})) ((Unit {0}) × (MutBor S × Unit {0}))) (f : F) (x : X) where
  -- f may be called at this item
  abbrev pub AcceptsOne : S → Type 0
  AcceptsOne s = (b : Bor X) (p : MutBor S) → b.now ≡ x → p.now ≡ s → g.pre f (b, (p, tt))

  -- f may be called at each item
  pub record AcceptsAll (items : List S) : Type 0 where
    pub each : (k : ℕ) (b : Bor X) (p : MutBor S) → k < length items → b.now ≡ x → p.now ≡ slice_index_or items k p.now → g.pre f (b, (p, tt))

  -- a call of f may leave an item so
  pub record ChangesOne (old new : S) : Type 0 where
    pub what : Bor X
    pub what_is : what.now ≡ x
    pub argument : MutBor S
    pub argument_is : argument.now ≡ old
    pub after_call : MutBor S
    pub call : g.post f (what, (argument, tt)) (tt, (after_call, tt))
    pub left : after_call.now ≡ new

  pub record ChangesAll (old new : List S) : Type 0 where
    pub as_many : length new ≡ length old
    pub each : (k : ℕ) (d : S) → k < length old → ChangesOne (slice_index_or old k d) (slice_index_or new k d)
