-- What single steps tell, in the words of contracts.
use Rattle.std.specs.Prelude.{◌≡◌, ℕ, ◌+◌, ◌≤◌, true, false, List, [], ◌∷◌, ◌++◌, length}
use Rattle.std.specs.declared.alloc.Global.{Global}
use Rattle.crossbeam_queue.specs.SegTies.{SegId}
use Rattle.notify_queue.specs.declared.delivery.Knowledge.{Knowledge}
use Rattle.notify_queue.specs.declared.marks.Look.{Look}
use Rattle.notify_queue.specs.declared.marks.Marking.{Marking}
use Rattle.notify_queue.specs.declared.stamp.Stamped.{Stamped}
use Rattle.notify_queue.specs.Delivery.{sending, Takes, Shows}
use Rattle.notify_queue.specs.Ends.{Receiving, HasTaken}
use Rattle.notify_queue.specs.Marks.{KnowsAll, HasLooked}
use Rattle.notify_queue.specs.Passes.{PassOf}

module _ {M : Type 0} where
  -- the sender's pass knows of one put more
  abbrev pub HasPut : Knowledge M → M → Knowledge M → Type 0
  HasPut v message w = w ≡ sending v.number (v.put ++ message ∷ [])

  -- the queue held nothing, and the pass knows what it knew
  abbrev pub HasFoundNothing : Knowledge M → Knowledge M → Type 0
  HasFoundNothing v w = (w ≡ v) × Shows v []

  -- so many messages at most were taken, and stand behind the others
  abbrev pub HasGiven : Knowledge M → Knowledge M → ℕ → List (Stamped M) → List (Stamped M) → Type 0
  HasGiven v w limit before after = (xs : List (Stamped M)) × (after ≡ before ++ xs) × (length xs ≤ limit) × Takes v xs w

  -- the same of a receiver
  abbrev pub HasGivenUpTo : ℕ → Receiving M → Receiving M → List (Stamped M) → List (Stamped M) → Type 0
  HasGivenUpTo limit old new before after = (xs : List (Stamped M)) × (after ≡ before ++ xs) × (length xs ≤ limit) × HasTaken old xs new

  -- a look at the mark in turn found that the sender had not ended
  abbrev pub HasFoundLive : ℕ → Marking M → Marking M → Type 0
  HasFoundLive sender old new = (look : Look) × HasLooked sender sender look old new × (look.ended ≡ false)

  -- or that it had, and the pass there knows what it put
  abbrev pub HasFoundEnd : SegId Global → ℕ → PassOf M → Marking M → Marking M → Type 0
  HasFoundEnd queue sender pass old new =
      (look : Look) × HasLooked sender (sender + 1) look old new × (look.ended ≡ true) × KnowsAll queue sender pass
