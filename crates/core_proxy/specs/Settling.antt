-- What is done with the answer of a leave.
use Rattle.std.specs.Prelude.{◌≡◌, List, [], Bool, true, false, Option, Some, None}
use Rattle.fan_base.specs.declared.outcome.Try.{Try}
use Rattle.core_word.specs.Count.{Counts}
use Rattle.core_word.specs.declared.left.Left.{Left}
use Rattle.core_word.specs.declared.left.Left.TheVariants as left
use Rattle.core_word.specs.declared.left.Leftover.{Leftover}
use Rattle.core_word.specs.declared.left.Leftover.TheVariants as leftover
use Rattle.core_proxy.specs.Walk.{Stop, freed_at, after_giving_up}

module _ {T C P : Type 0} where
  -- whether a leave was the last one
  abbrev pub is_last : Left T C P → Bool
  is_last (left.First receipt) = false
  is_last (left.Last leftover husk) = true

module _ {T P : Type 0} (gives_up : P → List Stop → Option (Try T) → Type 0) where
  -- a result comes out, and a proxy is given up
  abbrev pub GivesOut : Leftover T P → List Stop → Option (Try T) → Type 0
  GivesOut leftover.Nothing stops result = (stops ≡ []) × (result ≡ None)
  GivesOut (leftover.Outcome outcome) stops result = (stops ≡ []) × (result ≡ Some outcome)
  GivesOut (leftover.Proxy proxy) stops result = gives_up proxy stops result

  -- a first leave has nothing left over
  abbrev pub Settles : {C : Type 0} → Left T C P → List Stop → Option (Try T) → Type 0
  Settles (left.First receipt) stops result = (stops ≡ []) × (result ≡ None)
  Settles (left.Last leftover husk) stops result = GivesOut leftover stops result

-- what giving out a leftover did: the cores beyond the one that was left, what came out, and what the tally was and is
pub record GivenOut {T P : Type 0} (gives_up : P → List Stop → Option (Try T) → Type 0) (left_over : Leftover T P) (result : Option (Try T)) (old new : Counts) : Type 0 where
  pub stops : List Stop
  pub walk : GivesOut gives_up left_over stops result
  pub tally : new ≡ after_giving_up stops old

-- What settling did: the cores beyond the one that was left, what came out, and what the tally was and is. The core that was left is freed where that leave was the last one.
pub record Settled {T C P : Type 0} (gives_up : P → List Stop → Option (Try T) → Type 0) (leave : Left T C P) (result : Option (Try T)) (old new : Counts) : Type 0 where
  pub stops : List Stop
  pub walk : Settles gives_up leave stops result
  pub tally : new ≡ after_giving_up stops (freed_at (is_last leave) old)
