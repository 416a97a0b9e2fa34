use Rattle.std.proofs.Common.{refl, sym, arith, subst}
use Rattle.query_model.specs.declared.line.Line.TheVariants as line
use Rattle.query_timers.specs.Seen.{TimersSeen}
use Rattle.front_walk.specs.Following.{Steps}
use Rattle.front_walk.proofs.Firing.{all_begun, begun_cut, next_fired, none_begun, one_more_begun}
use Rattle.front_walk.proofs.LineByLine.{small_place}
use Rattle.front_walk.proofs.lines.ticks.Goals as goal

pub firing-init : goal.firing-init
firing-init g c = none_begun g.H.AtTurn.does c.args.lines.now c.args.i c.args.n c.args.state.now _ c.args.hook.now c.requires.follows c.in-Ok.ensures refl refl

pub begin-requires-clause-turn : goal.begin-requires-clause-turn
begin-requires-clause-turn g c =
    (next_fired c.known_laws.ensures.laws g.H.AtTurn.does c.args.lines.now c.args.i c.args.n c.args.state.now c.args.hook.now c.firing.state c.firing.hook c.in-Some.query c.next_fired.new.self.fired
    c.requires.input.0 c.requires.line c.requires.follows c.firing.invariant c.in-Some.ensures.0).turn

pub returns-in_default-begin-clause-memory : goal.returns-in_default-begin-clause-memory
returns-in_default-begin-clause-memory g c =
    let next = next_fired c.known_laws.ensures.laws g.H.AtTurn.does c.args.lines.now c.args.i c.args.n c.args.state.now c.args.hook.now c.firing.state c.firing.hook c.in-Some.query c.next_fired.new.self.fired
    c.requires.input.0 c.requires.line c.requires.follows c.firing.invariant c.in-Some.ensures.0 in
    begun_cut g.H.AtTurn.does c.args.lines.now c.args.i c.args.n c.args.state.now c.args.hook.now c.firing.state c.firing.hook _ c.in-Some.query c.next_fired.new.self.fired c.firing.invariant next
    (c.in_default-begin.ensures next.asked next.comes)

pub overflow_add-state : goal.overflow_add-state
overflow_add-state g c =
    let next = next_fired c.known_laws.ensures.laws g.H.AtTurn.does c.args.lines.now c.args.i c.args.n c.args.state.now c.args.hook.now c.firing.state c.firing.hook c.in-Some.query c.next_fired.new.self.fired
    c.requires.input.0 c.requires.line c.requires.follows c.firing.invariant c.in-Some.ensures.0 in
    let small = small_place c.known_laws.ensures.counts.comings c.args.lines.now c.firing.state.place _ c.requires.input.0 next.comes in
    omega (arith, small)

pub firing-preserved : goal.firing-preserved
firing-preserved g c =
    let next = next_fired c.known_laws.ensures.laws g.H.AtTurn.does c.args.lines.now c.args.i c.args.n c.args.state.now c.args.hook.now c.firing.state c.firing.hook c.in-Some.query c.next_fired.new.self.fired
    c.requires.input.0 c.requires.line c.requires.follows c.firing.invariant c.in-Some.ensures.0 in
    one_more_begun g.H.AtTurn.does c.args.lines.now c.args.i c.args.n c.args.state.now c.args.hook.now c.firing.state c.firing.hook _ _ c.in-Some.query c.firing.invariant next
    c.in-Some.ensures.1 refl refl (c.in-Ok-begin.ensures next.asked next.comes)

pub returns-clause-ok : goal.returns-clause-ok
returns-clause-ok g c =
    let does = g.H.AtTurn.does in
    let all = c.args.lines.now in
    let state = c.firing.state in
    let none = c.in_default-next_fired.ensures in
    subst (λ (t : TimersSeen). Steps does all c.args.i (line.Tick c.args.n) c.args.state.now c.args.hook.now (record { timers = t; documents = state.documents; place = state.place }) c.firing.hook) (sym none.1)
    (all_begun c.known_laws.ensures.laws does all c.args.i c.args.n c.args.state.now c.args.hook.now state c.firing.hook c.requires.input.0 c.requires.line c.requires.follows c.firing.invariant none.0)
