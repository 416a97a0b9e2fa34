-- The walk of a callback, or of giving up, through a chain of cores.
use Rattle.std.specs.Prelude.{◌≡◌, List, [], ◌∷◌, Bool, true, false, Option, Some, None}
use Rattle.fan_base.specs.declared.outcome.Try.{Try}
use Rattle.core_word.specs.Words.{State}
use Rattle.core_word.specs.Words.state
use Rattle.core_word.specs.Count.{Counts, raised}
use Rattle.core_word.specs.Seen.{SeenConsumer}
use Rattle.core_word.specs.declared.producer.Landed.{Landed}
use Rattle.core_word.specs.declared.producer.Landed.TheVariants as landed
use Rattle.core_word.specs.declared.producer.Passed.{Passed}
use Rattle.core_word.specs.declared.producer.Passed.TheVariants as passed
use Rattle.core_word.specs.declared.consumer.Met.{Met}
use Rattle.core_word.specs.declared.consumer.Met.TheVariants as met

-- One core on a walk: the consumer with which the walk came to it (its home, its use and its number), the state that was found, and whether the leave was the last one. A walk that gives up makes no exchange. Its found state is the one that its last leave read, OnlyResult or Proxy, and Start where the leave was the first one.
pub record Stop : Type 0 where
  pub core : SeenConsumer
  pub found : State
  pub last : Bool

-- a core was forwarded exactly where a proxy was found
abbrev pub forwarded_at : State → Counts → Counts
forwarded_at state.Proxy counts = record counts { forwarded = raised counts.forwarded }
forwarded_at state.Start counts = counts
forwarded_at state.OnlyResult counts = counts
forwarded_at state.OnlyCallback counts = counts
forwarded_at state.Done counts = counts
forwarded_at state.Empty counts = counts
forwarded_at state.OnlyCallbackAllowInline counts = counts

-- a core was freed exactly where the leave was the last one
abbrev pub freed_at : Bool → Counts → Counts
freed_at true counts = record counts { freed = raised counts.freed }
freed_at false counts = counts

-- the numbers after a callback's walk: each stop that found a proxy was forwarded, and each that was left last was freed
abbrev pub after_giving : List Stop → Counts → Counts
after_giving [] counts = counts
after_giving (stop ∷ rest) counts = after_giving rest (forwarded_at stop.found (freed_at stop.last counts))

-- the numbers after giving up: each stop that was left last was freed
abbrev pub after_giving_up : List Stop → Counts → Counts
after_giving_up [] counts = counts
after_giving_up (stop ∷ rest) counts = after_giving_up rest (freed_at stop.last counts)

-- a proxy of which there is no value is never gone to
abbrev pub NeverGives : {P T C : Type 0} → P → C → Bool → List Stop → Landed T C → Type 0
NeverGives proxy callback inline stops answer = ⊥

abbrev pub NeverGivesUp : {P T : Type 0} → P → List Stop → Option (Try T) → Type 0
NeverGivesUp proxy stops result = ⊥

module _ {T C P : Type 0} (gives : P → C → Bool → List Stop → Landed T C → Type 0) where
  -- What a callback comes to at a core with this number, by the state found. It waits at Start, and fires with this core's result at OnlyResult. There the walk ends. At Proxy it goes on with the proxy.
  abbrev pub GoesOn : State → SeenConsumer → C → Bool → List Stop → Landed T C → Type 0
  GoesOn state.Start core callback inline rest answer = (rest ≡ []) × (answer ≡ landed.Waiting)
  GoesOn state.OnlyResult core callback inline rest answer = (rest ≡ []) × ((outcome : Try T) × (answer ≡ landed.Fire record { no = core.no; outcome = outcome; callback = callback; inline = false }))
  GoesOn state.Proxy core callback inline rest answer = (proxy : P) × gives proxy callback inline rest answer
  GoesOn state.OnlyCallback core callback inline rest answer = ⊥
  GoesOn state.Done core callback inline rest answer = ⊥
  GoesOn state.Empty core callback inline rest answer = ⊥
  GoesOn state.OnlyCallbackAllowInline core callback inline rest answer = ⊥

  -- the walk of a callback that begins at this consumer, with or without the allowance to run inline
  abbrev pub Gives : SeenConsumer → C → Bool → List Stop → Landed T C → Type 0
  Gives consumer callback inline [] answer = ⊥
  Gives consumer callback inline (stop ∷ rest) answer = (stop.core ≡ consumer) × GoesOn stop.found consumer callback inline rest answer

module _ {T P : Type 0} (gives_up : P → List Stop → Option (Try T) → Type 0) where
  -- What giving up comes to, by whether the leave was the last one, and by what it read. The result of a core that it left last comes out, and a proxy is given up in its turn.
  abbrev pub GoesOnGivingUp : Bool → State → List Stop → Option (Try T) → Type 0
  GoesOnGivingUp false state.Start rest result = (rest ≡ []) × (result ≡ None)
  GoesOnGivingUp false state.OnlyResult rest result = ⊥
  GoesOnGivingUp false state.Proxy rest result = ⊥
  GoesOnGivingUp false state.OnlyCallback rest result = ⊥
  GoesOnGivingUp false state.Done rest result = ⊥
  GoesOnGivingUp false state.Empty rest result = ⊥
  GoesOnGivingUp false state.OnlyCallbackAllowInline rest result = ⊥
  GoesOnGivingUp true state.Start rest result = ⊥
  GoesOnGivingUp true state.OnlyResult rest result = (rest ≡ []) × ((outcome : Try T) × (result ≡ Some outcome))
  GoesOnGivingUp true state.Proxy rest result = (proxy : P) × gives_up proxy rest result
  GoesOnGivingUp true state.OnlyCallback rest result = ⊥
  GoesOnGivingUp true state.Done rest result = ⊥
  GoesOnGivingUp true state.Empty rest result = ⊥
  GoesOnGivingUp true state.OnlyCallbackAllowInline rest result = ⊥

  -- the walk that gives up this consumer
  abbrev pub GivesUp : SeenConsumer → List Stop → Option (Try T) → Type 0
  GivesUp consumer [] result = ⊥
  GivesUp consumer (stop ∷ rest) result = (stop.core ≡ consumer) × GoesOnGivingUp stop.last stop.found rest result

-- What giving a callback to a taker did: through which cores it went, what it answered, and what the tally was and is. With `gives` the relation of the taker's type.
pub record Given {Taker T C : Type 0} (gives : Taker → C → Bool → List Stop → Landed T C → Type 0) (taker : Taker) (callback : C) (inline : Bool) (answer : Landed T C) (old new : Counts) : Type 0 where
  pub stops : List Stop
  pub walk : gives taker callback inline stops answer
  pub tally : new ≡ after_giving stops old

-- what giving a taker up did, in the same way
pub record GivenUp {Taker T : Type 0} (gives_up : Taker → List Stop → Option (Try T) → Type 0) (taker : Taker) (result : Option (Try T)) (old new : Counts) : Type 0 where
  pub stops : List Stop
  pub walk : gives_up taker stops result
  pub tally : new ≡ after_giving_up stops old

-- What a callback comes to that has met something at its core, by the core's answer. With nothing there it waits, with a result it fires, and with a proxy it is passed on.
abbrev pub WentOn : {T C P : Type 0} → (P → C → Bool → List Stop → Landed T C → Type 0) → Met T C P → Landed T C → Counts → Counts → Type 0
WentOn gives met.Waiting answer old new = (answer ≡ landed.Waiting) × (new ≡ old)
WentOn gives (met.Fire fire) answer old new = (answer ≡ landed.Fire fire) × (new ≡ old)
WentOn gives (met.Forward forward) answer old new = Given gives forward.proxy forward.callback forward.inline answer (record old { forwarded = raised old.forwarded }) new

-- A callback that was there goes to the proxy that was named, in the form in which it was set. Where none was there nothing is counted.
abbrev pub WentToProxy : {T C P : Type 0} → (P → C → Bool → List Stop → Landed T C → Type 0) → Passed C P → Landed T C → Counts → Counts → Type 0
WentToProxy gives passed.Waiting answer old new = (answer ≡ landed.Waiting) × (new ≡ old)
WentToProxy gives (passed.Forward forward) answer old new = Given gives forward.proxy forward.callback forward.inline answer (record old { forwarded = raised old.forwarded }) new
