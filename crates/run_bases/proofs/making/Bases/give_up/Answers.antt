use Rattle.std.proofs.Common.{length}
use Rattle.run_bases.proofs.Opening.{open_less}
use Rattle.run_bases.proofs.making.Bases.give_up.Goals as goal

pub close_unused-requires : goal.close_unused-requires
close_unused-requires g c =
    let i = c.bases.invariant in
    let l = open_less g.J.Headed.head i.0 c.args.senders i.1 _ record { bases = c.pop.new.self; columns = c.pop-in-Some.new.self } c.in-Some.base c.in-Some-pop.column i.2 c.in-Some.ensures.items c.in-Some-pop.ensures.items in
    (_, l.0, l.1.0)

pub bases-preserved : goal.bases-preserved
bases-preserved g c =
    let i = c.bases.invariant in
    let l = open_less g.J.Headed.head i.0 c.args.senders i.1 _ record { bases = c.pop.new.self; columns = c.pop-in-Some.new.self } c.in-Some.base c.in-Some-pop.column i.2 c.in-Some.ensures.items c.in-Some-pop.ensures.items in
    (i.0, length c.pop.new.self.items, l.1.1)
