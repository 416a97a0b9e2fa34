use Rattle.std.proofs.Common.{◌+◌}
use Rattle.fan_model.specs.Tasks.{printer_exec}
use Rattle.run_setup.proofs.SlotLemmas.{all-ready-to-gather, all-ready-to-work, base-new}
use Rattle.run_setup.proofs.laws.a_setup_is_ready.Goals as goal

pub returns-clause-gatherers : goal.returns-clause-gatherers
returns-clause-gatherers g c = all-ready-to-gather g.N.RunName.asked

pub returns-clause-workers : goal.returns-clause-workers
returns-clause-workers g c = all-ready-to-work

pub returns-clause-printer : goal.returns-clause-printer
returns-clause-printer g c = λ ids base is. record { start = 0; is_new = base-new (printer_exec g.N.RunName.asked.bases) (g.N.RunName.asked.bases + 1) ids.printer base is }
