use Rattle.std.proofs.Common.{◌-◌}
use Rattle.runtime_examples.proofs.Rounds.{same_base, whole_where_ok}
use Rattle.runtime_examples.proofs.looped.make_round.Goals as goal

pub returns-clause-same : goal.returns-clause-same
returns-clause-same g c =
    let law = c.rounds_keep_the_base.ensures in
    let w = c.args.ran.now in
    let old = c.args.base.now in
    let v = c.loop_once.new.world in
    let new = c.loop_once.new.self in
    same_base _ _ w old c.loop_once.result v new (λ round did h. law.round 1 w old round did v new h) (λ fault did h. (1 - fault.left_ticks, law.cut_round 1 w old fault did v new h)) (λ fault h. law.not_begun 1 w old fault v new h) c.loop_once.ensures.ok c.loop_once.ensures.memory

pub returns-clause-whole : goal.returns-clause-whole
returns-clause-whole g c =
    whole_where_ok _ _ c.args.ran.now c.args.base.now c.loop_once.result c.loop_once.new.world c.loop_once.new.self c.is_ok.result c.is_ok.ensures.value c.loop_once.ensures.ok
