-- What contracts see of a home, of its key, of its halves and of what they come to.
use Rattle.std.specs.Prelude.{ℕ, Bool}
use Rattle.fan_base.specs.declared.outcome.Try.{Try}
use Rattle.core_state.specs.declared.table.State.{State}
use Rattle.core_state.specs.declared.schedule.Half.{Half}
use Rattle.core_state.specs.declared.schedule.Offer.{Offer}
use Rattle.core_state.specs.declared.schedule.Demand.{Demand}
use base.Stored.{Coded, coded×, coded_ℕ, coded_via}
use Rattle.atomic_table.specs.Seated.{TableId, table_id_coded}
use Rattle.core_word.specs.declared.view.Sight.{Sight}

-- which home it is
abbrev pub HomeId : Type 0
HomeId = TableId

-- a home, and whether its key was taken
pub record SeenHome : Type 0 where
  pub home : HomeId
  pub taken : Bool

-- a key: its home, and the number of the use that it may begin
pub record SeenKey : Type 0 where
  pub home : HomeId
  pub use_number : ℕ

-- the codes of a home's identity and of a key, for a ghost field that has some
abbrev pub home_coded : Coded HomeId
home_coded = table_id_coded

abbrev pub key_coded : Coded SeenKey
key_coded = coded_via (coded× home_coded coded_ℕ) (λ (key : SeenKey). (key.home, key.use_number)) (λ x y e i. record { home = (e i).0; use_number = (e i).1 })

-- A producer that hasn't acted: its home, the number of the use, the core's number, what it has learned of its consumer, and how many looks it has made.
pub record SeenProducer : Type 0 where
  pub home : HomeId
  pub use_number : ℕ
  pub no : ℕ
  pub sight : Sight
  pub looks : ℕ

-- a consumer that hasn't acted: its home, the number of the use, and the core's number
pub record SeenConsumer : Type 0 where
  pub home : HomeId
  pub use_number : ℕ
  pub no : ℕ

-- A producer that has acted: what it set, the state that its deciding exchange found, the callback that it got then, and what it had learned of its consumer before.
pub record SeenLeftP (T C P : Type 0) : Type 0 where
  pub home : HomeId
  pub use_number : ℕ
  pub no : ℕ
  pub offer : Offer (Try T) P
  pub found : State
  pub got : Demand C
  pub sight : Sight

-- A consumer that has acted: the callback that it set, or nothing where it gave up, the state that its deciding exchange found, and what it got then. Giving up makes no exchange, and has the state Start and nothing here.
pub record SeenLeftC (T C P : Type 0) : Type 0 where
  pub home : HomeId
  pub use_number : ℕ
  pub no : ℕ
  pub demand : Demand C
  pub found : State
  pub got : Offer (Try T) P

-- A receipt of the first leave: which half left, how many halves its leave found attached, and what it had set and got. For a producer it set the offer and got the demand, for a consumer the other way round.
pub record SeenReceipt (T C P : Type 0) : Type 0 where
  pub home : HomeId
  pub use_number : ℕ
  pub half : Half
  pub count_found : ℕ
  pub offer : Offer (Try T) P
  pub demand : Demand C

-- The husk of a core: how many halves the last leave found attached, and what both halves had set, as the last leaver read it. Besides, what the last leaver had set and got itself by its own act: for a producer it set the known offer and got the known demand, for a consumer the other way round.
pub record SeenHusk (T C P : Type 0) : Type 0 where
  pub home : HomeId
  pub use_number : ℕ
  pub count_found : ℕ
  pub offer : Offer (Try T) P
  pub demand : Demand C
  pub known_offer : Offer (Try T) P
  pub known_demand : Demand C

-- a result with its callback, the number of the core that handed it over, and whether the callback may run inline
pub record SeenFire (T C : Type 0) : Type 0 where
  pub no : ℕ
  pub outcome : Try T
  pub callback : C
  pub inline : Bool

-- a callback with the proxy to which it goes, the number of the core that forwarded it, and whether the callback was set with the allowance to run inline
pub record SeenForward (C P : Type 0) : Type 0 where
  pub no : ℕ
  pub callback : C
  pub proxy : P
  pub inline : Bool
