-- What the callback of a deferral and a deferred future are seen as, and what they answer.
use Rattle.std.specs.Prelude.{◌≡◌, ℕ, Option, Some, None}
use Rattle.fan_base.specs.declared.number.ExecId.{ExecId}
use Rattle.core_word.specs.Seen.{SeenKey}
use Rattle.promise_api.specs.Seen.{SeenChain, SeenFuture, producer_of, consumer_of}
use Rattle.semi_defer.specs.declared.state.Chosen.TheVariants as chosen
use Rattle.semi_defer.specs.declared.history.AddEvent.{AddEvent}
use Rattle.semi_defer.specs.declared.history.AddEvent.TheVariants as add
use Rattle.semi_defer.specs.declared.history.ChooseEvent.{ChooseEvent}
use Rattle.semi_defer.specs.declared.history.ChooseEvent.TheVariants as choose
use Rattle.semi_defer.specs.declared.adder.Added.{Added}
use Rattle.semi_defer.specs.declared.adder.Added.TheVariants as added
use Rattle.semi_defer.specs.declared.deferring.DeferJob.{DeferJob}
use Rattle.semi_defer.specs.Seen.{HomeId}

-- the home of the adder, and the chain of the job that it will add
pub record DeferChainSeen (K : Type 0) : Type 0 where
  pub home : HomeId
  pub chain : SeenChain K

-- the home of the holder, and the future
pub record DeferredSeen : Type 0 where
  pub home : HomeId
  pub future : SeenFuture

-- the executor that a chain has that waits for one
abbrev pub waiting : ExecId
waiting = record { 0 = 0 }

-- the callback of a deferral: the adder of this home, and the chain of the key's promise and the continuation
abbrev pub callback_of : {K : Type 0} → HomeId → SeenKey → ℕ → K → DeferChainSeen K
callback_of home key number cont = record { home = home; chain = record { to = producer_of key number; cont = cont; exec = waiting } }

-- the future of the key's core, beside the holder of this home
abbrev pub deferred_of : HomeId → SeenKey → ℕ → DeferredSeen
deferred_of home key number = record { home = home; future = record { core = consumer_of key number; exec = waiting } }

module _ {T K U D Q : Type 0} where
  -- the job with its chain on this executor
  abbrev pub on_executor : ExecId → DeferJob T K U D Q → DeferJob T K U D Q
  on_executor exec job = record job { chain = record job.chain { exec = exec } }

  -- A landing answers as an add of its job does, and where an executor was set the job that comes back is on it.
  abbrev pub LandsAt : DeferJob T K U D Q → Added (DeferJob T K U D Q) → Option (AddEvent (DeferJob T K U D Q)) → Type 0
  LandsAt job added.Kept did = did ≡ Some (add.Kept job)
  LandsAt job (added.RunOn exec out) did = (out ≡ on_executor exec job) × (did ≡ Some (add.Late job (chosen.Executor exec)))
  LandsAt job (added.Gone out) did = (out ≡ job) × (did ≡ Some (add.Late job chosen.Detached))

  -- A choice of this executor answers as the holder's does, and the job that was kept comes out on it.
  abbrev pub RunsOnAt : ExecId → Option (DeferJob T K U D Q) → Option (ChooseEvent (DeferJob T K U D Q)) → Type 0
  RunsOnAt exec None did = did ≡ Some (choose.First (chosen.Executor exec))
  RunsOnAt exec (Some out) did = (job : DeferJob T K U D Q) × (out ≡ on_executor exec job) × (did ≡ Some (choose.Got (chosen.Executor exec) job))
