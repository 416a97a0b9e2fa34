use Rattle.std.proofs.Common.{[], ◌∷◌, ◌++◌, None, length, sym, ap, ◌∙◌}
use Rattle.query_timers.proofs.Numbers.{one_skipped, seen_skipped}
use Rattle.query_timers.proofs.waiters.Waiters.skip.Goals as goal

pub invariant_of-self-2 : goal.invariant_of-self-2
invariant_of-self-2 c =
    let items = c.push_reserved.ensures.items ∙ ap (λ l. l ++ None ∷ []) c.in_ok-reserve.ensures.items in
    let made = one_skipped _ _ items c.self.invariant.0 in
    (made.0, c.self.invariant.1 ∙ ap length (sym made.1), c.self.invariant.2)

pub returns-clause-ok : goal.returns-clause-ok
returns-clause-ok c =
    let items = c.push_reserved.ensures.items ∙ ap (λ l. l ++ None ∷ []) c.in_ok-reserve.ensures.items in
    let made = one_skipped _ _ items c.self.invariant.0 in
    seen_skipped _ _ _ _ c.self.view_is made.1 made.2
