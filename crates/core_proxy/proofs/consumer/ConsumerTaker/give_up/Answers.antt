use Rattle.core_proxy.proofs.Steps.{given_up}
use Rattle.core_proxy.proofs.consumer.ConsumerTaker.give_up.Goals as goal

pub returns : goal.returns
returns g c =
    let by = c.give_up_by.ensures in
    given_up g.P.Proxy.gives_up c.args.self by.stopped.acted.demand by.leave c.give_up_by.result c.args.t.now c.give_up_by.new.t
    by.stopped.act by.stopped.ends by.settled
