use Rattle.std.proofs.Common.{refl, ap, ◌∙◌, arith, take}
use Rattle.query_model.specs.LineByLine.{next_asked}
use Rattle.fan_model.specs.Comings.{Coming}
use Rattle.query_timers.specs.Seen.{TimersSeen}
use Rattle.front_walk.proofs.LineByLine.{answered_cut, answered_steps, named, next_begins, next_comes, small_place}
use Rattle.front_walk.proofs.lines.answer_now.Goals as goal

pub begin-requires : goal.begin-requires
begin-requires g c =
    let laws = c.known_laws.ensures in
    next_begins laws.laws laws.next c.args.lines.now _ c.args.i c.args.query.now _ c.args.state.now c.requires.input.1 c.requires.input.0 c.requires.line c.requires.none c.requires.follows
    (c.asked.ensures ∙ ap (λ (t : TimersSeen). t.asked) c.in-Ok.ensures.ok) refl refl

pub returns-in_default-begin-clause-memory : goal.returns-in_default-begin-clause-memory
returns-in_default-begin-clause-memory g c =
    let all = c.args.lines.now in
    let place = c.args.state.now.place in
    let comes = next_comes c.known_laws.ensures.laws all c.args.i c.args.query.now place c.requires.input.0 c.requires.line c.requires.none c.requires.follows.place in
    let a = next_asked (take c.args.i all) c.args.query.now in
    answered_cut g.H.AtTurn.does (take c.args.i all) c.args.query.now place c.args.hook.now _ c.requires.none
    (c.in_default-begin.ensures a (named all g.H.AtTurn.lines place (Coming.begins a) c.requires.input.1 comes))

pub overflow_add-state : goal.overflow_add-state
overflow_add-state g c =
    let all = c.args.lines.now in
    let place = c.args.state.now.place in
    let comes = next_comes c.known_laws.ensures.laws all c.args.i c.args.query.now place c.requires.input.0 c.requires.line c.requires.none c.requires.follows.place in
    let small = small_place c.known_laws.ensures.counts.comings all place _ c.requires.input.0 comes in
    omega (arith, small)

pub returns-clause-ok : goal.returns-clause-ok
returns-clause-ok g c =
    let all = c.args.lines.now in
    let place = c.args.state.now.place in
    let comes = next_comes c.known_laws.ensures.laws all c.args.i c.args.query.now place c.requires.input.0 c.requires.line c.requires.none c.requires.follows.place in
    let a = next_asked (take c.args.i all) c.args.query.now in
    answered_steps c.known_laws.ensures.laws g.H.AtTurn.does all c.args.i c.args.query.now c.args.state.now _ c.args.hook.now _ c.requires.input.0 c.requires.line c.requires.none c.requires.follows
    c.in-Ok.ensures.ok refl refl (c.in-Ok-begin.ensures a (named all g.H.AtTurn.lines place (Coming.begins a) c.requires.input.1 comes))
