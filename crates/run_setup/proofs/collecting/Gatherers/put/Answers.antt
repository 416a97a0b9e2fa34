use Rattle.std.proofs.Common.{◌+◌}
use Rattle.fan_model.specs.Tasks.{printer_exec}
use Rattle.run_setup.proofs.collecting.Gatherers.put.Goals as goal

pub put_one-requires : goal.put_one-requires
put_one-requires g c =
    let r = c.requires.back in
    let asked = g.N.RunName.asked in
    record { back = (r.0.printer, printer_exec asked.bases, asked.bases + 1, 0, r.1, r.2.is) }

pub returns-clause-printer : goal.returns-clause-printer
returns-clause-printer g c = λ ids low back end.
    let asked = g.N.RunName.asked in
    record { is = c.put_one.ensures ids.printer (printer_exec asked.bases) (asked.bases + 1) 0 low back.is end.is }
