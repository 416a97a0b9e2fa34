use Rattle.std.proofs.Common.{length, sym, ap, arith}
use Rattle.std.proofs.lemmas.Grind.{common_steps}
use Rattle.collect_ops.proofs.Lists.{has_one, filled, same_end, same_room}
use Rattle.collect_ops.proofs.steps.take_end.Goals as goal

pub take_ending-end-requires : goal.take_ending-end-requires
take_ending-end-requires g c =
    let r = c.requires.claiming in
    (r.2.of_table, (_, has_one _ _ _ _ r.2.stands))

pub destroy_empty-requires : goal.destroy_empty-requires
destroy_empty-requires g c =
    let r = c.requires.claiming in
    let same = same_end _ _ _ _ _ _ _ r.2.stands c.take_ending-end.ensures.had in
    let none = ap length (same_room _ _ _ same r.1).empty in
    grind (arith, common_steps, none)

pub return_end-requires-clause-claiming : goal.return_end-requires-clause-claiming
return_end-requires-clause-claiming g c =
    let r = c.requires.claiming in
    (r.0, record { of_table = c.take_ending-end.ensures.sits.of_table; stands = filled _ _ _ _ _ _ c.take_ending-end.ensures.sits.stands r.2.stands })

pub returns-clause-end : goal.returns-clause-end
returns-clause-end g c r is = ap (λ e. e.end) (sym (same_end _ _ _ _ _ _ _ is c.take_ending-end.ensures.had))

pub returns-clause-sits : goal.returns-clause-sits
returns-clause-sits g c r is = c.return_end.ensures _ (filled _ _ _ _ _ _ c.take_ending-end.ensures.sits.stands is)
