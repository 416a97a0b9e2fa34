use Rattle.std.proofs.Common.{refl}
use Rattle.run_plan.proofs.Noting.{all_noted}
use Rattle.run_plan.proofs.planning.plan_named.Goals as goal

pub returns : goal.returns
returns g c = record {
  turns = all_noted _ (λ w. w.turns.items) g.N.Planned.lines (λ place coming w v did. did.noted refl) c.args.lines.now _ _ c.requires.lines c.new.ensures.items c.in-Ok.ensures.done;
}
