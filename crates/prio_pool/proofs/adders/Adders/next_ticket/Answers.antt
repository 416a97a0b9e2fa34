use Rattle.std.proofs.Common.{◌∙◌, ap, length}
use Rattle.pool_model.specs.Passes.{adds_of}
use Rattle.pool_model.specs.Seen.{PassSeen}
use Rattle.prio_pool.proofs.Adding.{adds_count}
use Rattle.prio_pool.proofs.adders.Adders.next_ticket.Goals as goal

pub returns : goal.returns
returns g c =
    let number = ap (λ (p : PassSeen). p.number) c.self.view_is in
    let index = adds_count _ _ c.self.invariant.adds ∙ ap (λ (p : PassSeen). length (adds_of p)) c.self.view_is in
    (λ i. record { adder = number i; index = index i })
