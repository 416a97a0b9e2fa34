use Rattle.std.proofs.Common.{ap, sym, ◌∙◌}
use Rattle.collect_ops.proofs.Telling.{is_last}
use Rattle.collect_ops.proofs.desk.Desk.keep.Goals as goal

pub returns-in-Ok-clause-last : goal.returns-in-Ok-clause-last
returns-in-Ok-clause-last g c =
    let receipt = c.in-Ok.ensures.last.receipt in (
      sym (ap (λ d. d.table) c.into_seat.ensures.desk) ∙ (ap (λ d. d.desk.table) (c.in-Ok.done-is ∙ receipt) ∙ ap (λ d. d.desk.table) (c.into_pass.ensures ∙ c.new-arrival.ensures) ∙ ap (λ d. d.desk.table) c.self.view_is),
      is_last _ _ c.into_seat.ensures.done.1 c.into_seat.ensures.done.0 (sym c.into_seat.ensures.found ∙ ap (λ d. d.found) (c.in-Ok.done-is ∙ receipt)),
    )
