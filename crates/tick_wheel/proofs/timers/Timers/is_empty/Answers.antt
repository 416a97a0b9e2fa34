use Rattle.std.proofs.Common.{sym, ◌∙◌}
use Rattle.std.proofs.lemmas.List.{nil_from_length}
use Rattle.tick_wheel.proofs.Seen.{seen_length, length_nil, is_zero, zero_is}
use Rattle.tick_wheel.proofs.timers.Timers.is_empty.Goals as goal

pub returns : goal.returns
returns g c =
    let len = seen_length _ c.self.inside.book c.args.self.now c.self.invariant.apart c.self.view_is in
    (λ t. nil_from_length _ (sym len ∙ sym c.len.ensures ∙ is_zero _ t), λ e. zero_is _ (c.len.ensures ∙ len ∙ length_nil _ e))
