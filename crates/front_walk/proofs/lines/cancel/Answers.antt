use Rattle.std.proofs.Common.{◌≡◌, [], filter, refl, ap, ◌∙◌, arith}
use Rattle.fan_model.specs.Comings.{Coming}
use Rattle.query_timers.specs.Seen.{has_number, without}
use Rattle.front_walk.proofs.Firing.{cancelled_comes, cancelled_cut, cancelled_names, cancelled_steps, none_steps, one_cancelled}
use Rattle.front_walk.proofs.LineByLine.{named, small_place}
use Rattle.front_walk.proofs.lines.cancel.Goals as goal

pub returns-in_default-clause-ok : goal.returns-in_default-clause-ok
returns-in_default-clause-ok g c =
    let state = c.args.state.now in
    let none : [] ≡ filter (has_number c.args.n) state.timers.waiting = c.in_default.ensures.those ∙ ap (λ m. filter (has_number m) state.timers.waiting) c.from.ensures in
    none_steps c.known_laws.ensures.laws g.H.AtTurn.does c.args.lines.now c.args.i c.args.n state _ c.args.hook.now c.requires.input.0 c.requires.line c.requires.follows none
    (c.in_default.ensures.rest ∙ ap (λ m. without m state.timers) c.from.ensures) refl refl

pub cancel-requires-2 : goal.cancel-requires-2
cancel-requires-2 g c =
    let all = c.args.lines.now in
    let state = c.args.state.now in
    let query = c.in-Some.query in
    let one = one_cancelled all c.args.i c.args.n state query c.requires.follows (c.in-Some.ensures.those ∙ ap (λ m. filter (has_number m) state.timers.waiting) c.from.ensures) in
    let comes = cancelled_comes c.known_laws.ensures.laws all c.args.i c.args.n state.place query c.requires.input.0 c.requires.line one c.requires.follows.place in
    cancelled_names all g.H.AtTurn.lines c.args.i c.args.n state.place query c.requires.input.1 one comes

pub returns-in_default-cancel-clause-memory : goal.returns-in_default-cancel-clause-memory
returns-in_default-cancel-clause-memory g c =
    let all = c.args.lines.now in
    let state = c.args.state.now in
    let query = c.in-Some.query in
    let one = one_cancelled all c.args.i c.args.n state query c.requires.follows (c.in-Some.ensures.those ∙ ap (λ m. filter (has_number m) state.timers.waiting) c.from.ensures) in
    let comes = cancelled_comes c.known_laws.ensures.laws all c.args.i c.args.n state.place query c.requires.input.0 c.requires.line one c.requires.follows.place in
    cancelled_cut g.H.AtTurn.does all c.args.i c.args.n state.place c.args.hook.now _ query one
    (c.in_default-cancel.ensures one.asked (named all g.H.AtTurn.lines state.place (Coming.cancels one.asked) c.requires.input.1 comes))

pub overflow_add-state : goal.overflow_add-state
overflow_add-state g c =
    let all = c.args.lines.now in
    let state = c.args.state.now in
    let query = c.in-Some.query in
    let one = one_cancelled all c.args.i c.args.n state query c.requires.follows (c.in-Some.ensures.those ∙ ap (λ m. filter (has_number m) state.timers.waiting) c.from.ensures) in
    let comes = cancelled_comes c.known_laws.ensures.laws all c.args.i c.args.n state.place query c.requires.input.0 c.requires.line one c.requires.follows.place in
    let small = small_place c.known_laws.ensures.counts.comings all state.place _ c.requires.input.0 comes in
    omega (arith, small)

pub returns-clause-ok : goal.returns-clause-ok
returns-clause-ok g c =
    let all = c.args.lines.now in
    let state = c.args.state.now in
    let query = c.in-Some.query in
    let one = one_cancelled all c.args.i c.args.n state query c.requires.follows (c.in-Some.ensures.those ∙ ap (λ m. filter (has_number m) state.timers.waiting) c.from.ensures) in
    let comes = cancelled_comes c.known_laws.ensures.laws all c.args.i c.args.n state.place query c.requires.input.0 c.requires.line one c.requires.follows.place in
    cancelled_steps c.known_laws.ensures.laws g.H.AtTurn.does all c.args.i c.args.n state _ c.args.hook.now _ query c.requires.input.0 c.requires.line c.requires.follows one
    (c.in-Some.ensures.rest ∙ ap (λ m. without m state.timers) c.from.ensures) refl refl
    (c.in-Ok.ensures one.asked (named all g.H.AtTurn.lines state.place (Coming.cancels one.asked) c.requires.input.1 comes))
