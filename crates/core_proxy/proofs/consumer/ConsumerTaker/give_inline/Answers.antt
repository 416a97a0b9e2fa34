use Rattle.std.proofs.Common.{true, refl}
use Rattle.core_proxy.specs.Settling.{is_last}
use Rattle.core_proxy.proofs.Steps.{given}
use Rattle.core_proxy.proofs.consumer.ConsumerTaker.give_inline.Goals as goal

pub returns : goal.returns
returns g c =
    let by = c.give_by.ensures in
    let asked = by.asked in
    given g.P.Proxy.gives c.args.self c.args.callback true asked.acted.found asked.acted.got by.m c.give_by.result (is_last by.leave) c.args.t.now _ c.give_by.new.t
    asked.answer refl by.went
