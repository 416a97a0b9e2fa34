use Rattle.std.proofs.Common.{◌∙◌, arith}
use Rattle.collect_ops.proofs.Lists.{on_equal, on_different, sits}
use Rattle.collect_ops.proofs.Claiming.{arrival_claims}
use Rattle.collect_ops.proofs.steps.claim.Goals as goal

pub swap-requires : goal.swap-requires
swap-requires g c =
    let desk = c.requires.desk in
    let ready = c.requires.ready in
    (ready.1.of_table, omega (arith, desk.words), arrival_claims _ _ _ ready.0 _ _ ready.1.stands)

pub returns-clause-claimed : goal.returns-clause-claimed
returns-clause-claimed g c r is = on_equal _ _ _ (λ none. sits _ _ _ (c.swap.ensures.0 ∙ c.requires.ready.1.of_table) ((c.swap.ensures.2 _ _ _ is).0 none))

pub returns-clause-lost : goal.returns-clause-lost
returns-clause-lost g c r is = on_different _ _ _ (λ some. sits _ _ _ (c.swap.ensures.0 ∙ c.requires.ready.1.of_table) ((c.swap.ensures.2 _ _ _ is).1 some).1)
