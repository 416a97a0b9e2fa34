-- One stop of a walk: what a consumer's calls say makes the relation of its type.
use Rattle.std.specs.Prelude.{◌≡◌, List, [], ◌∷◌, Bool, true, false, Option, refl}
use Rattle.std.proofs.Common.{rules, subst}
use Rattle.fan_base.specs.declared.outcome.Try.{Try}
use Rattle.core_word.specs.Words.{State, Offer, Demand, IsSet, leftover_from, leftover_as}
use Rattle.core_word.specs.Words.state
use Rattle.core_word.specs.Words.offered
use Rattle.core_word.specs.Words.demanded
use Rattle.core_word.specs.Count.{Counts}
use Rattle.core_word.specs.Seen.{SeenConsumer}
use Rattle.core_word.specs.Answers.{MeetsAt, IfLast}
use Rattle.core_word.specs.declared.producer.Landed.{Landed}
use Rattle.core_word.specs.declared.consumer.Met.{Met}
use Rattle.core_word.specs.declared.consumer.Met.TheVariants as met
use Rattle.core_word.specs.declared.left.Left.{Left}
use Rattle.core_word.specs.declared.left.Left.TheVariants as left
use Rattle.core_word.specs.declared.left.Leftover.TheVariants as leftover
use Rattle.core_proxy.specs.Walk.{Stop, Gives, GivesUp, Given, GivenUp, WentOn, freed_at, after_giving_up}
use Rattle.core_proxy.specs.Settling.{Settled}

-- a callback that was set at a consumer, which left, and that went on from there
pub given : {T C P : Type 0} (gives : P → C → Bool → List Stop → Landed T C → Type 0) (consumer : SeenConsumer) (callback : C) (inline : Bool) (found : State) (got : Offer (Try T) P) (m : Met T C P) (answer : Landed T C) (last : Bool) (old middle new : Counts)
    → MeetsAt found got consumer.no callback inline m → middle ≡ freed_at last old → WentOn gives m answer middle new → Given (Gives gives) consumer callback inline answer old new
given gives consumer callback inline found got met.Waiting answer last old middle new meets freed went =
    record { stops = record { core = consumer; found = state.Start; last = last } ∷ []; walk = (refl, (refl, went.0)); tally = search rules }
given gives consumer callback inline found got (met.Fire fire) answer last old middle new meets freed went =
    record { stops = record { core = consumer; found = state.OnlyResult; last = last } ∷ []; walk = (refl, (refl, (fire.outcome, search rules))); tally = search rules }
given gives consumer callback inline found got (met.Forward forward) answer last old middle new meets freed went =
    record { stops = record { core = consumer; found = state.Proxy; last = last } ∷ went.stops; walk = (refl, (forward.proxy, search rules)); tally = search rules }

-- where the producer has set something and the consumer gave up, something is left over
something_left : {T P : Type 0} (offer : Offer (Try T) P) → IsSet offer → leftover.Nothing ≡ leftover_as offer → ⊥
something_left offered.Nothing is_set same = is_set
something_left (offered.Result r) is_set same = search rules
something_left (offered.Proxy k) is_set same = search rules

something_left_from : {T C P : Type 0} (offer : Offer (Try T) P) (demand : Demand C) → IsSet offer → demand ≡ demanded.Nothing → leftover.Nothing ≡ leftover_as (leftover_from offer demand) → ⊥
something_left_from offer demanded.Nothing is_set none same = something_left offer is_set same
something_left_from offer (demanded.Callback request) is_set none same = search rules

-- a consumer that gave up and left, which was then settled
pub given_up : {T C P : Type 0} (gives_up : P → List Stop → Option (Try T) → Type 0) (consumer : SeenConsumer) (demand : Demand C) (l : Left T C P) (result : Option (Try T)) (old new : Counts)
    → demand ≡ demanded.Nothing
    → IfLast l (λ left_over husk. (husk.demand ≡ demand) × IsSet husk.offer × (left_over ≡ leftover_as (leftover_from husk.offer husk.demand)))
    → Settled gives_up l result old new → GivenUp (GivesUp gives_up) consumer result old new
given_up gives_up consumer demand (left.First receipt) result old new act ends settled =
    record { stops = record { core = consumer; found = state.Start; last = false } ∷ []; walk = (refl, (refl, settled.walk.1)); tally = subst (λ stops. new ≡ after_giving_up stops (freed_at false old)) settled.walk.0 settled.tally }
given_up gives_up consumer demand (left.Last leftover.Nothing husk) result old new act ends settled =
    let none : husk.demand ≡ demanded.Nothing = rw ends.0 act in
    absurd (something_left_from husk.offer husk.demand ends.1 none ends.2)
given_up gives_up consumer demand (left.Last (leftover.Outcome outcome) husk) result old new act ends settled =
    record { stops = record { core = consumer; found = state.OnlyResult; last = true } ∷ []; walk = (refl, (refl, (outcome, settled.walk.1))); tally = subst (λ stops. new ≡ after_giving_up stops (freed_at true old)) settled.walk.0 settled.tally }
given_up gives_up consumer demand (left.Last (leftover.Proxy proxy) husk) result old new act ends settled =
    record { stops = record { core = consumer; found = state.Proxy; last = true } ∷ settled.stops; walk = (refl, (proxy, settled.walk)); tally = settled.tally }
