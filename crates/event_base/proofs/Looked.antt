-- What a look at the posters' marks adds to the looks of a receiver.
use Rattle.std.proofs.Common.{Bool, true, false, [], ◌∷◌, ◌++◌, sym}
use Rattle.std.specs.Bool.{OnTrue, OnFalse}
use mathlib.Core.List.{IsPrefix}
use Rattle.notify_queue.specs.Ends.{Receiving, HasEnded, FoundEnded, FoundLive}

module _ {J : Type 0} where
  pub looked_on : (found : Bool) (old new : Receiving J) → OnTrue found (HasEnded new × FoundEnded old new) → OnFalse found (FoundLive old new) → IsPrefix old.looks new.looks
  looked_on true old new on off = (on.1.looks, sym on.1.looked)
  looked_on false old new on off = (off.looks ++ off.last ∷ [], sym off.looked)
