use Rattle.std.proofs.Common.{◌≡◌, refl, arith}
use Rattle.fan_model.specs.Comings.{Coming}
use Rattle.front_walk.proofs.Leaving.{all_given_up, given_up_cut, none_given_up, none_there, one_more_given_up, one_there, there_names}
use Rattle.front_walk.proofs.LineByLine.{named, small_place}
use Rattle.front_walk.proofs.front.give_up.Goals as goal

pub numbers-init : goal.numbers-init
numbers-init g c = none_given_up g.H.AtTurn.does c.args.lines.now c.args.state.now c.args.hook.now c.known_laws.ensures.counts c.requires.follows

pub cancel-requires : goal.cancel-requires
cancel-requires g c =
    let there = one_there g.H.AtTurn.does c.args.lines.now c.numbers.earlier c.args.state.now c.args.hook.now c.numbers.state c.numbers.hook c.in-Some.query c.requires.follows c.numbers.invariant c.in-Some.ensures.those in
    there_names g.H.AtTurn.does c.args.lines.now g.H.AtTurn.lines c.numbers.earlier c.args.state.now c.args.hook.now c.numbers.state c.numbers.hook c.in-Some.query c.numbers.invariant c.requires.input.1 there

pub returns-in_default-cancel-clause-memory : goal.returns-in_default-cancel-clause-memory
returns-in_default-cancel-clause-memory g c =
    let there = one_there g.H.AtTurn.does c.args.lines.now c.numbers.earlier c.args.state.now c.args.hook.now c.numbers.state c.numbers.hook c.in-Some.query c.requires.follows c.numbers.invariant c.in-Some.ensures.those in
    given_up_cut g.H.AtTurn.does c.args.lines.now c.numbers.earlier c.args.state.now c.args.hook.now c.numbers.state c.numbers.hook _ c.in-Some.query c.numbers.invariant there
    (c.in_default-cancel.ensures there.asked (named c.args.lines.now g.H.AtTurn.lines c.numbers.state.place (Coming.cancels there.asked) c.requires.input.1 there.comes))

pub overflow_add-state : goal.overflow_add-state
overflow_add-state g c =
    let there = one_there g.H.AtTurn.does c.args.lines.now c.numbers.earlier c.args.state.now c.args.hook.now c.numbers.state c.numbers.hook c.in-Some.query c.requires.follows c.numbers.invariant c.in-Some.ensures.those in
    let small = small_place c.known_laws.ensures.counts.comings c.args.lines.now c.numbers.state.place (Coming.cancels there.asked) c.requires.input.0 there.comes in
    omega (arith, small)

pub numbers-preserved : goal.numbers-preserved
numbers-preserved g c =
    let there = one_there g.H.AtTurn.does c.args.lines.now c.numbers.earlier c.args.state.now c.args.hook.now c.numbers.state c.numbers.hook c.in-Some.query c.requires.follows c.numbers.invariant c.in-Some.ensures.those in
    one_more_given_up g.H.AtTurn.does c.args.lines.now c.numbers.earlier c.args.state.now c.args.hook.now c.numbers.state _ c.numbers.hook c.cancel.new.self c.in-Some.query c.numbers.invariant there
    c.in-Some.ensures.rest refl (c.in-Ok.ensures there.asked (named c.args.lines.now g.H.AtTurn.lines c.numbers.state.place (Coming.cancels there.asked) c.requires.input.1 there.comes))

pub numbers-preserved-in_default : goal.numbers-preserved-in_default
numbers-preserved-in_default g c =
    none_there g.H.AtTurn.does c.args.lines.now c.numbers.earlier c.args.state.now c.args.hook.now c.numbers.state _ c.numbers.hook c.numbers.invariant c.in_default.ensures.those c.in_default.ensures.rest refl

pub returns-clause-ok : goal.returns-clause-ok
returns-clause-ok g c =
    let end : c.numbers.earlier ≡ c.args.state.now.timers.asked = omega (arith, c.asked-earlier-end.ensures) in
    all_given_up g.H.AtTurn.does c.args.lines.now c.numbers.earlier c.args.state.now c.args.hook.now c.numbers.state c.numbers.hook end c.numbers.invariant
