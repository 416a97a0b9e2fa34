use Rattle.std.proofs.Common.{option_map, sym, ap, ◌∙◌}
use Rattle.tick_wheel.specs.Table.{timer_of}
use Rattle.tick_wheel.proofs.Keeping.{kept_drop, gone_ranks}
use Rattle.tick_wheel.proofs.Seen.{seen_timer, seen_cancel}
use Rattle.tick_wheel.proofs.Views.{timers_drop}
use Rattle.tick_wheel.proofs.timers.Timers.cancel.Goals as goal

pub invariant_of-self : goal.invariant_of-self
invariant_of-self g c = kept_drop _ _ c.self.inside.book c.remove.new.self c.args.id c.self.invariant c.remove.ensures.unique c.remove.ensures.gone

pub returns-in_err-due-clause-timer : goal.returns-in_err-due-clause-timer
returns-in_err-due-clause-timer g c =
    c.from_residual.ensures ∙ sym (ap (option_map (timer_of c.args.id)) c.in_err-due.ensures.none)
    ∙ seen_timer _ c.self.inside.book c.args.self.now c.args.id c.self.invariant.apart c.self.view_is

pub returns-in_err-due-clause-rest : goal.returns-in_err-due-clause-rest
returns-in_err-due-clause-rest g c =
    let k = kept_drop _ _ c.self.inside.book c.remove.new.self c.args.id c.self.invariant c.remove.ensures.unique c.remove.ensures.gone in
    seen_cancel _ c.self.inside.book c.remove.new.self c.args.self.now c.args.id c.self.view_is
    (timers_drop c.self.inside.book c.remove.new.self c.args.id c.self.invariant.apart k.apart (gone_ranks _ _ _ c.remove.ensures.gone))

pub invariant_of-self-2 : goal.invariant_of-self-2
invariant_of-self-2 g c = kept_drop _ _ c.self.inside.book c.remove.new.self c.args.id c.self.invariant c.remove.ensures.unique c.remove.ensures.gone

pub returns-clause-timer : goal.returns-clause-timer
returns-clause-timer g c =
    sym (ap (option_map (timer_of c.args.id)) c.in_ok-due.ensures.some.1)
    ∙ seen_timer _ c.self.inside.book c.args.self.now c.args.id c.self.invariant.apart c.self.view_is

pub returns-clause-rest : goal.returns-clause-rest
returns-clause-rest g c =
    let k = kept_drop _ _ c.self.inside.book c.remove.new.self c.args.id c.self.invariant c.remove.ensures.unique c.remove.ensures.gone in
    seen_cancel _ c.self.inside.book c.remove.new.self c.args.self.now c.args.id c.self.view_is
    (timers_drop c.self.inside.book c.remove.new.self c.args.id c.self.invariant.apart k.apart (gone_ranks _ _ _ c.remove.ensures.gone))
