use Rattle.std.proofs.Common.{◌+◌, ◌∙◌, ap, arith}
use Rattle.collect_ops.proofs.Passing.{dealt_desk, dealer_desk}
use Rattle.collect_ops.proofs.arrival.Arrivals.next.Goals as goal

pub new-requires-clause-ready : goal.new-requires-clause-ready
new-requires-clause-ready g c =
    let dealer = c.self.invariant.2 in
    record { ending = dealer.ending; sits = c.deal_arrival-seat.ensures.dealt _ dealer.sits.stands; room = dealer.room }

pub invariant_of-self : goal.invariant_of-self
invariant_of-self g c =
    let dealer = c.self.invariant.2 in
    let below = c.self.invariant.0 in
    let other = c.if-self.false in
    (omega arith, c.self.invariant.1, record { ending = dealer.ending; sits = c.deal_arrival-seat.ensures.dealer _ dealer.sits.stands; room = dealer.room })

pub returns-clause-arrival : goal.returns-clause-arrival
returns-clause-arrival g c =
    let dealer = c.self.invariant.2 in
    let dealt = c.deal_arrival-seat.ensures.dealt _ dealer.sits.stands in
    let desk = dealt_desk _ _ _ _ _ _ _ _ dealer.sits.stands dealt.stands ∙ ap (λ a. a.desk) c.self.view_is in
    c.new.ensures ∙ (λ i. record { desk = desk i; index = ap (λ a. a.next) c.self.view_is i })

pub returns-clause-rest : goal.returns-clause-rest
returns-clause-rest g c =
    let dealer = c.self.invariant.2 in
    let now = c.deal_arrival-seat.ensures.dealer _ dealer.sits.stands in
    let desk = dealer_desk _ _ _ _ _ _ _ dealer.sits.stands now.stands ∙ ap (λ a. a.desk) c.self.view_is in
    λ i. record { desk = desk i; next = ap (λ a. a.next + 1) c.self.view_is i }
