use Rattle.std.proofs.Common.{ap, ◌∙◌}
use Rattle.event_base.specs.Seen.{BaseSeen}
use Rattle.fan_parts.specs.declared.jobs.PrintJob.{PrintJob}
use Rattle.run_setup.proofs.SlotLemmas.{all-done, all-ends, all-gathered, all-worked, all-worlds, front-ends, printer-end}
use Rattle.run_setup.proofs.laws.what_ran_can_be_closed.Goals as goal

pub returns-clause-gathered : goal.returns-clause-gathered
returns-clause-gathered g c = all-gathered g.N.RunName.asked

pub returns-clause-worked : goal.returns-clause-worked
returns-clause-worked g c = all-worked

pub returns-clause-worlds : goal.returns-clause-worlds
returns-clause-worlds g c = all-worlds

pub returns-clause-ends : goal.returns-clause-ends
returns-clause-ends g c = all-ends

pub returns-clause-done : goal.returns-clause-done
returns-clause-done g c = all-done

pub returns-clause-printed : goal.returns-clause-printed
returns-clause-printed g c = λ ids old new is same. record {
  exec = same.exec ∙ ap (λ (b : BaseSeen (PrintJob g.row.N.Denot)). b.agenda.exec) is;
  queue = same.queue ∙ ap (λ (b : BaseSeen (PrintJob g.row.N.Denot)). b.queue.queue) is;
  senders = same.senders ∙ ap (λ (b : BaseSeen (PrintJob g.row.N.Denot)). b.queue.senders) is;
}

pub returns-clause-front : goal.returns-clause-front
returns-clause-front g c = front-ends

pub returns-clause-poster : goal.returns-clause-poster
returns-clause-poster g c = λ ids e queue number. printer-end g.N.RunName.asked ids 0 e queue number
