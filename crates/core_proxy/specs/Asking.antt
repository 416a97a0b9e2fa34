-- How a half asks or gives up, and leaves: what it met, and what its leave answered.
use Rattle.std.specs.Prelude.{◌≡◌, Bool, List, Option}
use Rattle.fan_base.specs.declared.outcome.Try.{Try}
use Rattle.core_word.specs.Words.{IsSet, leftover_from, leftover_as}
use Rattle.core_word.specs.Words.half
use Rattle.core_word.specs.Words.demanded
use Rattle.core_word.specs.Count.{Counts}
use Rattle.core_word.specs.Seen.{SeenConsumer, SeenLeftC}
use Rattle.core_word.specs.Answers.{MeetsAt, MatchLeft, IfLast}
use Rattle.core_word.specs.declared.producer.Landed.{Landed}
use Rattle.core_word.specs.declared.consumer.Met.{Met}
use Rattle.core_word.specs.declared.left.Left.{Left}
use Rattle.core_proxy.specs.Walk.{Stop, WentOn, freed_at}
use Rattle.core_proxy.specs.Settling.{Settled, is_last}

module _ {T C P : Type 0} where
  -- A consumer that has acted is of this core, and its leave says so: what it had set and got stands in its receipt or in the husk.
  pub record ActedAt (consumer : SeenConsumer) (acted : SeenLeftC T C P) (leave : Left T C P) : Type 0 where
    pub same : (acted.home ≡ consumer.home) × (acted.use_number ≡ consumer.use_number) × (acted.no ≡ consumer.no)
    pub home : MatchLeft leave (λ receipt. receipt.home ≡ acted.home) (λ leftover husk. husk.home ≡ acted.home)
    pub use_number : MatchLeft leave (λ receipt. receipt.use_number ≡ acted.use_number) (λ leftover husk. husk.use_number ≡ acted.use_number)
    pub acts : MatchLeft leave (λ receipt. (receipt.half ≡ half.Consumer) × (receipt.demand ≡ acted.demand) × (receipt.offer ≡ acted.got)) (λ leftover husk. (husk.known_demand ≡ acted.demand) × (husk.known_offer ≡ acted.got))

  -- a consumer set this callback, with or without the allowance to run inline, met this, and left with this answer
  pub record Asked (consumer : SeenConsumer) (callback : C) (inline : Bool) (m : Met T C P) (leave : Left T C P) : Type 0 where
    pub acted : SeenLeftC T C P
    pub at : ActedAt consumer acted leave
    pub act : acted.demand ≡ demanded.Callback record { callback = callback; inline = inline }
    pub answer : MeetsAt acted.found acted.got consumer.no callback inline m

  -- a consumer gave up, and left with this answer
  pub record Stopped (consumer : SeenConsumer) (leave : Left T C P) : Type 0 where
    pub acted : SeenLeftC T C P
    pub at : ActedAt consumer acted leave
    pub act : acted.demand ≡ demanded.Nothing
    pub ends : IfLast leave (λ leftover husk. (husk.demand ≡ acted.demand) × IsSet husk.offer × (leftover ≡ leftover_as (leftover_from husk.offer husk.demand)))

-- What a half that asked came to: it left, its core was freed where that leave was the last one, and the callback went on from what was met. With `asks` the relation of the half's type.
pub record GaveBy {Self T C P : Type 0} (asks : Self → C → Bool → Met T C P → Left T C P → Type 0) (gives : P → C → Bool → List Stop → Landed T C → Type 0) (asker : Self) (callback : C) (inline : Bool) (answer : Landed T C) (old new : Counts) : Type 0 where
  pub m : Met T C P
  pub leave : Left T C P
  pub asked : asks asker callback inline m leave
  pub went : WentOn gives m answer (freed_at (is_last leave) old) new

-- what a half that gave up came to, in the same way
pub record GaveUpBy {Self T C P : Type 0} (stops : Self → Left T C P → Type 0) (gives_up : P → List Stop → Option (Try T) → Type 0) (asker : Self) (result : Option (Try T)) (old new : Counts) : Type 0 where
  pub leave : Left T C P
  pub stopped : stops asker leave
  pub settled : Settled gives_up leave result old new
