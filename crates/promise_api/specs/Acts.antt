-- What the acts of a promise and of a future do. Each names the half as it had acted, by the state that its exchange found and by what it got then, beside the answer and what its leave says.
use Rattle.std.specs.Prelude.{◌≡◌, List, Bool}
use Rattle.fan_base.specs.declared.outcome.Try.{Try}
use Rattle.core_word.specs.Words.{IsAwaited}
use Rattle.core_word.specs.Words.offered
use Rattle.core_word.specs.Words.demanded
use Rattle.core_word.specs.Words.state
use Rattle.core_word.specs.Count.{Counts}
use Rattle.core_word.specs.Seen.{SeenProducer, SeenConsumer, SeenLeftP, SeenLeftC}
use Rattle.core_word.specs.Answers.{LandsAt, PassesAt, MeetsAt, IsFire, IsForward}
use Rattle.core_word.specs.declared.left.Left.{Left}
use Rattle.core_word.specs.declared.producer.Landed.{Landed}
use Rattle.core_word.specs.declared.producer.Passed.{Passed}
use Rattle.core_word.specs.declared.consumer.Met.{Met}
use Rattle.core_proxy.specs.Walk.{Stop, WentOn, WentToProxy}
use Rattle.promise_api.specs.declared.after.After.{After}
use Rattle.promise_api.specs.Leaves.{ProducerLeft, ConsumerLeft}

module _ {T C P : Type 0} where
  -- a half that has acted is of the same core as before
  pub record ProducerKept (before : SeenProducer) (acted : SeenLeftP T C P) : Type 0 where
    pub home : acted.home ≡ before.home
    pub use_number : acted.use_number ≡ before.use_number
    pub no : acted.no ≡ before.no
    pub sight : acted.sight ≡ before.sight

  pub record ConsumerKept (before : SeenConsumer) (acted : SeenLeftC T C P) : Type 0 where
    pub home : acted.home ≡ before.home
    pub use_number : acted.use_number ≡ before.use_number
    pub no : acted.no ≡ before.no

  -- the producer set this outcome, and left
  pub record Fulfils (producer : SeenProducer) (outcome : Try T) (after : After T C P) : Type 0 where
    pub acted : SeenLeftP T C P
    pub kept : ProducerKept producer acted
    pub act : acted.offer ≡ offered.Result outcome
    pub answer : LandsAt acted.found acted.got producer.no outcome after.landed
    pub awaited : IsAwaited producer.sight → IsFire after.landed
    pub left : ProducerLeft acted after.left

  -- the producer named this proxy, gave it a callback that was there, and left
  pub record Proxies (gives : P → C → Bool → List Stop → Landed T C → Type 0) (producer : SeenProducer) (to : P) (after : After T C P) (old new : Counts) : Type 0 where
    pub acted : SeenLeftP T C P
    pub kept : ProducerKept producer acted
    pub act : acted.offer ≡ offered.Proxy to
    pub passed : Passed C P
    pub answer : PassesAt acted.found acted.got producer.no to passed
    pub awaited : IsAwaited producer.sight → IsForward passed
    pub went : WentToProxy gives passed after.landed old new
    pub left : ProducerLeft acted after.left

  -- the consumer set this callback, with or without the allowance to run inline, passed it on where a proxy was there, and left
  pub record Asks (gives : P → C → Bool → List Stop → Landed T C → Type 0) (consumer : SeenConsumer) (callback : C) (inline : Bool) (after : After T C P) (old new : Counts) : Type 0 where
    pub acted : SeenLeftC T C P
    pub kept : ConsumerKept consumer acted
    pub act : acted.demand ≡ demanded.Callback record { callback = callback; inline = inline }
    pub met : Met T C P
    pub answer : MeetsAt acted.found acted.got consumer.no callback inline met
    pub went : WentOn gives met after.landed old new
    pub left : ConsumerLeft acted after.left

  -- the consumer gave up, and left
  pub record GaveUp (consumer : SeenConsumer) (leave : Left T C P) : Type 0 where
    pub acted : SeenLeftC T C P
    pub kept : ConsumerKept consumer acted
    pub act : acted.demand ≡ demanded.Nothing
    pub found : (acted.found ≡ state.Start) × (acted.got ≡ offered.Nothing)
    pub left : ConsumerLeft acted leave
