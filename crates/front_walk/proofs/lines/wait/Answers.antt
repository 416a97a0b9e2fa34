use Rattle.std.proofs.Common.{refl}
use Rattle.front_walk.proofs.LineByLine.{a_home_is_left, follows_wait}
use Rattle.front_walk.proofs.lines.wait.Goals as goal

pub delay-requires-clause-home : goal.delay-requires-clause-home
delay-requires-clause-home c =
    a_home_is_left c.args.lines.now c.args.i c.args.query.now c.args.delay c.args.state.now c.requires.input c.requires.line c.requires.some c.requires.follows

pub returns-clause-ok : goal.returns-clause-ok
returns-clause-ok c =
    let home = a_home_is_left c.args.lines.now c.args.i c.args.query.now c.args.delay c.args.state.now c.requires.input c.requires.line c.requires.some c.requires.follows in
    follows_wait c.known_laws.ensures.laws c.known_laws.ensures.next c.args.lines.now c.args.i c.args.query.now c.args.delay c.args.state.now _ c.requires.input c.requires.line
    c.requires.some c.requires.follows home c.in-Ok.ensures.ok refl refl
