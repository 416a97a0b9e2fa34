use Rattle.std.proofs.Common.{[]}
use Rattle.task_queue.specs.Steps.{Shows}
use Rattle.task_queue.proofs.Calls as calls
use Rattle.task_queue.proofs.Looking.{looks_are}
use Rattle.task_queue.proofs.looks.pop.Goals as goal

pub pop-requires-clause-rule : goal.pop-requires-clause-rule
pop-requires-clause-rule g c = calls.pop g.J.Headed.head _ _ c.requires.may

pub returns-clause-noted : goal.returns-clause-noted
returns-clause-noted g c =
    looks_are g.J.Headed.head c.args.line.now c.args.place c.pop.new.pass c.args.pass.now.me.view.client (Shows g.J.Headed.head c.args.pass.now.me.view.client []) c.pop.result
    c.looks.inside.trail.items c.pop.new.trail.items c.args.looks.now c.pop.ensures.pass c.pop.ensures.told c.pop.ensures.noted c.looks.view_is
