-- What contracts see of a future and of a chain. A promise is seen as its producer.
use Rattle.fan_base.specs.declared.number.ExecId.{ExecId}
use Rattle.core_word.specs.Seen.{SeenProducer, SeenConsumer, SeenKey}
use Rattle.core_word.specs.declared.view.Sight.TheVariants as seen
use Rattle.std.specs.Prelude.{ℕ}

-- its consumer, and the executor of the next continuation
pub record SeenFuture : Type 0 where
  pub core : SeenConsumer
  pub exec : ExecId

-- the promise that a run keeps, the continuation, and the executor that it is to run on
pub record SeenChain (K : Type 0) : Type 0 where
  pub to : SeenProducer
  pub cont : K
  pub exec : ExecId

-- the two halves of the core that a key begins with this number
abbrev pub producer_of : SeenKey → ℕ → SeenProducer
producer_of key number = record { home = key.home; use_number = key.use_number; no = number; sight = seen.Unseen; looks = 0 }

abbrev pub consumer_of : SeenKey → ℕ → SeenConsumer
consumer_of key number = record { home = key.home; use_number = key.use_number; no = number }
