use Rattle.std.proofs.Common.{◌<◌, rules, sym, ap, subst, ◌∙◌}
use Rattle.atomic_table.specs.Table.{Me}
use Rattle.task_queue.specs.declared.mark.MarkView.{MarkView}
use Rattle.task_queue.specs.Marks.{OpenSeen, MarkSeen}
use Rattle.task_queue.proofs.Marking.{set_allowed}
use Rattle.task_queue.proofs.mark.EndMark.set.Goals as goal

pub store-requires : goal.store-requires
store-requires c = (
  search rules,
  search rules,
  set_allowed _ _ _ _ _
      (ap (λ (o : OpenSeen). o.parts) c.adders.view_is ∙ (c.requires.all ∙ sym (ap (λ (m : MarkSeen). m.adders) c.self.view_is)))
      (subst (λ (o : OpenSeen). 0 < o.parts) (sym c.adders.view_is) c.requires.some)
      (ap (λ (me : Me _ MarkView). me.0.theirs) c.adders.invariant)
      c.word.ensures.set.0
      c.word.ensures.set.1,
)
