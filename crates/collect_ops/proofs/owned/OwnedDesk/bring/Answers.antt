use Rattle.std.proofs.Common.{refl, ap, sym, ◌∙◌, arith}
use Rattle.collect_ops.proofs.Seats.{keeps, stands, without}
use Rattle.collect_ops.proofs.owned.OwnedDesk.bring.Goals as goal

pub keep-requires : goal.keep-requires
keep-requires g c =
    c.self.invariant.each c.args.index c.in-Some.seat
    (stands c.self.inside.arrivals.items c.args.index c.index_mut.result.now c.in-Some.seat
    (omega (arith, c.self.invariant.as_many, c.requires, ap (λ d. d.desk.size) c.self.view_is)) c.index_mut.ensures.value (sym c.take.ensures.value ∙ c.in-Some.is))

pub invariant_of-result-in-Err : goal.invariant_of-result-in-Err
invariant_of-result-in-Err g c = without c.self.inside.desk.desk c.self.inside.arrivals.items c.args.index c.take.new.self c.self.invariant c.take.ensures.after

pub returns-in-Err : goal.returns-in-Err
returns-in-Err g c =
    keeps c.self.inside.desk.desk c.self.inside.arrivals.items c.args.index c.in-Some.seat c.take.new.self _ _ c.args.outcome c.in-Err.receipt (sym c.self.view_is) refl
    (stands c.self.inside.arrivals.items c.args.index c.index_mut.result.now c.in-Some.seat
    (omega (arith, c.self.invariant.as_many, c.requires, ap (λ d. d.desk.size) c.self.view_is)) c.index_mut.ensures.value (sym c.take.ensures.value ∙ c.in-Some.is)) c.take.ensures.after c.in-Err.ensures.more
