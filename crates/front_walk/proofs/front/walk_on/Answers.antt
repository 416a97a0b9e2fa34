use Rattle.std.proofs.Common.{◌≡◌, length, arith}
use Rattle.front_walk.proofs.Walking.{all_came, all_walked, end_cut, none_walked, one_more_walked, walked_cut}
use Rattle.front_walk.proofs.front.walk_on.Goals as goal

pub lines-init : goal.lines-init
lines-init g c = none_walked g.H.AtTurn.does c.args.lines.now c.args.hook.now c.args.state.now c.known_laws.ensures.counts c.requires.follows

pub returns-in_default-clause-memory : goal.returns-in_default-clause-memory
returns-in_default-clause-memory g c =
    walked_cut c.known_laws.ensures.laws g.H.AtTurn.does c.args.lines.now c.lines.i c.args.hook.now c.lines.state c.lines.hook _ c.requires.input.0 c.lines.invariant c.in_default.ensures.memory

pub lines-preserved : goal.lines-preserved
lines-preserved g c =
    one_more_walked c.known_laws.ensures.laws g.H.AtTurn.does c.args.lines.now c.lines.i c.args.hook.now c.lines.state c.step.new.state c.lines.hook c.step.new.hook c.requires.input.0 c.lines.invariant c.in-Ok.ensures.ok

pub returns-in_default-give_up-clause-memory : goal.returns-in_default-give_up-clause-memory
returns-in_default-give_up-clause-memory g c =
    let end : c.lines.i ≡ length c.args.lines.now = omega arith in
    let walked = all_walked g.H.AtTurn.does c.args.lines.now c.lines.i c.args.hook.now c.lines.state c.lines.hook end c.lines.invariant in
    end_cut g.H.AtTurn.does c.args.lines.now c.args.hook.now c.lines.state c.lines.hook _ walked c.in_default-give_up.ensures.memory

pub returns-clause-done : goal.returns-clause-done
returns-clause-done g c =
    let end : c.lines.i ≡ length c.args.lines.now = omega arith in
    let walked = all_walked g.H.AtTurn.does c.args.lines.now c.lines.i c.args.hook.now c.lines.state c.lines.hook end c.lines.invariant in
    all_came g.H.AtTurn.does c.args.lines.now c.args.hook.now c.lines.state c.lines.hook _ walked c.in-Ok-give_up.ensures.ok

pub give_up-requires-clause-follows : goal.give_up-requires-clause-follows
give_up-requires-clause-follows g c =
    let end : c.lines.i ≡ length c.args.lines.now = omega arith in
    (all_walked g.H.AtTurn.does c.args.lines.now c.lines.i c.args.hook.now c.lines.state c.lines.hook end c.lines.invariant).0
