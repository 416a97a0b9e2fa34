-- What a fire or a forward says of the callback that was got.
use Rattle.std.proofs.Common.{◌≡◌, ℕ, subst}
use Rattle.fan_base.specs.declared.outcome.Try.{Try}
use Rattle.core_word.specs.Words.{Request, State, Demand}
use Rattle.core_word.specs.Words.demanded
use Rattle.core_word.specs.Seen.{SeenFire, SeenForward}
use Rattle.core_word.specs.Answers.{LandsAt, PassesAt}
use Rattle.core_word.specs.declared.producer.Landed.{Landed}
use Rattle.core_word.specs.declared.producer.Landed.TheVariants as landed
use Rattle.core_word.specs.declared.producer.Passed.{Passed}
use Rattle.core_word.specs.declared.producer.Passed.TheVariants as passed

module _ {T C : Type 0} where
  pub got_by_fire : (found : State) (got : Demand C) (number : ℕ) (outcome : Try T) (answer : Landed T C) (fire : SeenFire T C)
      → LandsAt found got number outcome answer → answer ≡ landed.Fire fire → (request : Request C) × (got ≡ demanded.Callback request)
  got_by_fire found got number outcome answer fire lands is =
      (record { callback = fire.callback; inline = fire.inline }, (subst (λ (a : Landed T C). LandsAt found got number outcome a) is lands).3)

module _ {C P : Type 0} where
  pub got_by_forward : (found : State) (got : Demand C) (number : ℕ) (to : P) (answer : Passed C P) (forward : SeenForward C P)
      → PassesAt found got number to answer → answer ≡ passed.Forward forward → (request : Request C) × (got ≡ demanded.Callback request)
  got_by_forward found got number to answer forward passes is =
      (record { callback = forward.callback; inline = forward.inline }, (subst (λ (a : Passed C P). PassesAt found got number to a) is passes).3)
