-- What the calls on halves answer.
use Rattle.std.specs.Prelude.{◌≡◌, ◌⊎◌, ℕ, Bool, false}
use Rattle.fan_base.specs.declared.outcome.Try.{Try}
use Rattle.core_state.specs.declared.table.State.{State}
use Rattle.core_state.specs.declared.table.State.TheVariants as state
use Rattle.core_state.specs.Table.{waiting_state}
use Rattle.core_state.specs.declared.schedule.Offer.{Offer}
use Rattle.core_state.specs.declared.schedule.Offer.TheVariants as offered
use Rattle.core_state.specs.declared.schedule.Demand.{Demand}
use Rattle.core_state.specs.declared.schedule.Demand.TheVariants as demanded
use Rattle.core_word.specs.declared.producer.Landed.{Landed}
use Rattle.core_word.specs.declared.producer.Landed.TheVariants as landed
use Rattle.core_word.specs.declared.producer.Passed.{Passed}
use Rattle.core_word.specs.declared.producer.Passed.TheVariants as passed
use Rattle.core_word.specs.declared.consumer.Met.{Met}
use Rattle.core_word.specs.declared.consumer.Met.TheVariants as met
use Rattle.core_word.specs.declared.left.Leftover.{Leftover}
use Rattle.core_word.specs.declared.left.Leftover.TheVariants as leftover
use Rattle.core_word.specs.declared.left.Left.{Left}
use Rattle.core_word.specs.declared.left.Left.TheVariants as left
use Rattle.core_word.specs.Seen.{SeenReceipt, SeenHusk}

-- Waiting at Start. At a callback that waits a Fire with the core's number, the outcome that was set, and the callback that was got. It may run inline exactly where that callback was set with the allowance.
abbrev pub LandsAt : {T C : Type 0} → State → Demand C → ℕ → Try T → Landed T C → Type 0
LandsAt found got number outcome landed.Waiting = (found ≡ state.Start) × (got ≡ demanded.Nothing)
LandsAt found got number outcome (landed.Fire fire) = (found ≡ waiting_state fire.inline) × (fire.no ≡ number) × (fire.outcome ≡ outcome)
    × (got ≡ demanded.Callback record { callback = fire.callback; inline = fire.inline })

-- Waiting at Start. At a callback that waits a Forward with the core's number, the proxy that was set, and the callback that was got, with its allowance.
abbrev pub PassesAt : {C P : Type 0} → State → Demand C → ℕ → P → Passed C P → Type 0
PassesAt found got number to passed.Waiting = (found ≡ state.Start) × (got ≡ demanded.Nothing)
PassesAt found got number to (passed.Forward forward) = (found ≡ waiting_state forward.inline) × (forward.no ≡ number) × (forward.proxy ≡ to)
    × (got ≡ demanded.Callback record { callback = forward.callback; inline = forward.inline })

-- Waiting at Start. At OnlyResult a Fire, which may not run inline, and at Proxy a Forward with the allowance of the call, with the core's number, the callback that was set, and what was got.
abbrev pub MeetsAt : {T C P : Type 0} → State → Offer (Try T) P → ℕ → C → Bool → Met T C P → Type 0
MeetsAt found got number callback allows met.Waiting = (found ≡ state.Start) × (got ≡ offered.Nothing)
MeetsAt found got number callback allows (met.Fire fire) = (found ≡ state.OnlyResult) × (fire.no ≡ number) × (fire.callback ≡ callback) × (got ≡ offered.Result fire.outcome) × (fire.inline ≡ false)
MeetsAt found got number callback allows (met.Forward forward) = (found ≡ state.Proxy) × (forward.no ≡ number) × (forward.callback ≡ callback) × (got ≡ offered.Proxy forward.proxy) × (forward.inline ≡ allows)

abbrev pub IsFire : {T C : Type 0} → Landed T C → Type 0
IsFire landed.Waiting = ⊥
IsFire (landed.Fire fire) = Unit {0}

abbrev pub IsForward : {C P : Type 0} → Passed C P → Type 0
IsForward passed.Waiting = ⊥
IsForward (passed.Forward forward) = Unit {0}

-- what is left over, as the last leaver gets it
abbrev pub leftover_as : {T P : Type 0} → Offer (Try T) P → Leftover T P
leftover_as offered.Nothing = leftover.Nothing
leftover_as (offered.Result r) = leftover.Outcome r
leftover_as (offered.Proxy k) = leftover.Proxy k

-- What both halves of one use say of each other. Where the consumer set a callback, one half alone got the other's act: the producer the callback, or the consumer what the producer set. Where it set none, neither got anything.
abbrev pub HaveAgreed : {T C P : Type 0} → Offer (Try T) P → Demand C → Demand C → Offer (Try T) P → Type 0
HaveAgreed offer callback_got demanded.Nothing offer_got = (callback_got ≡ demanded.Nothing) × (offer_got ≡ offered.Nothing)
HaveAgreed offer callback_got (demanded.Callback c) offer_got = ((callback_got ≡ demanded.Callback c) × (offer_got ≡ offered.Nothing)) ⊎ ((callback_got ≡ demanded.Nothing) × (offer_got ≡ offer))

module _ {T C P : Type 0} where
  -- a fact for each answer of a leave
  abbrev pub MatchLeft : Left T C P → (SeenReceipt T C P → Type 0) → (Leftover T P → SeenHusk T C P → Type 0) → Type 0
  MatchLeft (left.First receipt) First Last = First receipt
  MatchLeft (left.Last leftover husk) First Last = Last leftover husk

  -- a fact for the answer of the last leave
  abbrev pub IfLast : Left T C P → (Leftover T P → SeenHusk T C P → Type 0) → Type 0
  IfLast (left.First receipt) Last = Unit {0}
  IfLast (left.Last leftover husk) Last = Last leftover husk

  abbrev pub IsLastLeave : Left T C P → Type 0
  IsLastLeave (left.First receipt) = ⊥
  IsLastLeave (left.Last leftover husk) = Unit {0}
