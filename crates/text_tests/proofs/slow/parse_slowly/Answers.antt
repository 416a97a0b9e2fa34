use Rattle.std.proofs.Common.{◌≡◌, ◌<◌, length, Bool, false, arith, rules}
use Rattle.query_grammar.specs.Grammar.{CanGoOn}
use Rattle.text_tests.proofs.Slowly.{CanGoOn-nothing, unexpected_here, accepted_here, unclosed_here, false_denies}
use Rattle.text_tests.proofs.slow.parse_slowly.Goals as goal

pub loop-place-init : goal.loop-place-init
loop-place-init c = CanGoOn-nothing

pub returns-then-not-goes_on-clause-refused : goal.returns-then-not-goes_on-clause-refused
returns-then-not-goes_on-clause-refused c = λ _. unexpected_here c.args.tokens.now c.loop-place.place c.requires c.loop-place-test.true c.loop-place.invariant
    (false_denies _ c.in_ok-goes_on.goes_on c.if-not-goes_on.true c.in_ok-goes_on.ensures)

pub returns-in-Some-clause-accepted : goal.returns-in-Some-clause-accepted
returns-in-Some-clause-accepted c =
    accepted_here c.args.tokens.now c.in-Some.e (search rules) c.requires (rw c.in-Some.is at c.in_ok-e.ensures)

pub returns-in-None-clause-refused : goal.returns-in-None-clause-refused
returns-in-None-clause-refused c = λ _.
    unclosed_here c.args.tokens.now c.loop-place.place (search rules) c.requires c.loop-place-test.false c.loop-place.invariant (rw c.in-None.is at c.in_ok-e.ensures)
