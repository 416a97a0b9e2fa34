use Rattle.std.proofs.Common.{◌≡◌, List, [], ◌∷◌, ◌++◌, ap, ◌∙◌, arith, rules}
use Rattle.query_grammar.specs.declared.token.Token.{Token}
use Rattle.query_grammar.specs.declared.token.Token.TheVariants as token
use Rattle.text_tests.specs.Slow.{closed}
use Rattle.text_tests.proofs.Slowly.{none_closed, none_more, some_closed, closed-more, yes_if, no_if}
use Rattle.text_tests.proofs.slow.goes_on.Goals as goal

pub loop-init : goal.loop-init
loop-init c =
    let same : c.in_ok-whole.whole.items ≡ c.args.tokens.now = search rules in
    record {
      closed_so = c.in_ok-push.ensures.items ∙ ap (λ (ts : List Token). ts ++ token.Word c.args.word ∷ []) same;
      none_before = λ k lt. absurd (omega arith);
    }

pub returns-in-Some : goal.returns-in-Some
returns-in-Some c =
    let is : c.deref.result.now ≡ closed c.args.tokens.now c.args.word c.loop.counter = c.deref.ensures.value ∙ c.loop.invariant.closed_so in
    yes_if _ (some_closed c.args.tokens.now _ c.args.word c.loop.counter c.in-Some.field-0 is (rw c.in-Some.is at c.in_ok-either_of.ensures))

pub loop-preserved : goal.loop-preserved
loop-preserved c =
    let is : c.deref.result.now ≡ closed c.args.tokens.now c.args.word c.loop.counter = c.deref.ensures.value ∙ c.loop.invariant.closed_so in
    record {
      closed_so = c.in_ok-push-in-None.ensures.items ∙ (ap (λ (ts : List Token). ts ++ token.Right ∷ []) c.loop.invariant.closed_so ∙ closed-more c.args.tokens.now c.args.word c.loop.counter);
      none_before = none_more c.args.tokens.now c.deref.result.now c.args.word c.loop.counter is (rw c.in-None.is at c.in_ok-either_of.ensures) c.loop.invariant.none_before;
    }

pub returns : goal.returns
returns c = no_if _ (none_closed c.args.tokens.now c.args.word c.loop.counter c.loop-test.false c.loop.invariant.none_before)
