-- What the leave of a half says that has acted: it is the receipt of a first leave, or a husk with what is left over.
use Rattle.std.specs.Prelude.{◌≡◌, ◌<◌}
use Rattle.core_word.specs.Words.{IsSet, GotDemand, GotOffer, leftover_from, leftover_as}
use Rattle.core_word.specs.Words.half
use Rattle.core_word.specs.declared.view.Sight.TheVariants as seen
use Rattle.core_word.specs.Seen.{SeenLeftP, SeenLeftC}
use Rattle.core_word.specs.Answers.{MatchLeft, IfLast, IsLastLeave}
use Rattle.core_word.specs.declared.left.Left.{Left}

module _ {T C P : Type 0} where
  -- A producer that has acted in this way left. Its leave was the last one where it had seen that the consumer had left.
  pub record ProducerLeft (acted : SeenLeftP T C P) (left : Left T C P) : Type 0 where
    pub home : MatchLeft left (λ receipt. receipt.home ≡ acted.home) (λ leftover husk. husk.home ≡ acted.home)
    pub use_number : MatchLeft left (λ receipt. receipt.use_number ≡ acted.use_number) (λ leftover husk. husk.use_number ≡ acted.use_number)
    pub count : MatchLeft left (λ receipt. (receipt.half ≡ half.Producer) × (1 < receipt.count_found)) (λ leftover husk. husk.count_found ≡ 1)
    pub acts : MatchLeft left (λ receipt. (receipt.offer ≡ acted.offer) × (receipt.demand ≡ acted.got)) (λ leftover husk. (husk.offer ≡ acted.offer) × GotDemand acted.got husk.demand)
    pub leftover : IfLast left (λ leftover husk. leftover ≡ leftover_as (leftover_from husk.offer husk.demand))
    pub known : IfLast left (λ leftover husk. (husk.known_offer ≡ acted.offer) × (husk.known_demand ≡ acted.got))
    pub last : acted.sight ≡ seen.CallbackLeft → IsLastLeave left

  -- a consumer that has acted in this way left
  pub record ConsumerLeft (acted : SeenLeftC T C P) (left : Left T C P) : Type 0 where
    pub home : MatchLeft left (λ receipt. receipt.home ≡ acted.home) (λ leftover husk. husk.home ≡ acted.home)
    pub use_number : MatchLeft left (λ receipt. receipt.use_number ≡ acted.use_number) (λ leftover husk. husk.use_number ≡ acted.use_number)
    pub count : MatchLeft left (λ receipt. (receipt.half ≡ half.Consumer) × (1 < receipt.count_found)) (λ leftover husk. husk.count_found ≡ 1)
    pub acts : MatchLeft left (λ receipt. (receipt.demand ≡ acted.demand) × (receipt.offer ≡ acted.got)) (λ leftover husk. (husk.demand ≡ acted.demand) × IsSet husk.offer × GotOffer acted.got husk.offer)
    pub leftover : IfLast left (λ leftover husk. leftover ≡ leftover_as (leftover_from husk.offer husk.demand))
    pub known : IfLast left (λ leftover husk. (husk.known_demand ≡ acted.demand) × (husk.known_offer ≡ acted.got))
