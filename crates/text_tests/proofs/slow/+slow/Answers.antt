use Rattle.std.proofs.Common.{◌≡◌, ◌≢◌, ◌<◌, ◌≤◌, length, List, [], ◌∷◌, ◌++◌, arith, rules}
use Rattle.std.proofs.lemmas.Result.{IfOk-weaker}
use Rattle.query_grammar.specs.declared.token.Token.TheVariants as token
use Rattle.text_tests.proofs.Splits.{nothing_is_no_fact, word_alone, word_and_more, bang_found, bang_not_found, left_alone, in_brackets, no_bracket_closes, mark_is_no_fact, both_found, both_from_fact, either_found, either_from_both}
use Rattle.text_tests.proofs.slow.+slow.Goals as goal

pub both_of-returns-in-Some : goal.both_of-returns-in-Some
both_of-returns-in-Some t c = both_found c.args.tokens.now c.loop-place.place c.in-Some.e (rw c.in-Some.is at c.in_ok-e.ensures)

pub both_of-returns : goal.both_of-returns
both_of-returns t c =
    IfOk-weaker c.fact_of.result _ _ (λ found h. both_from_fact c.args.tokens.now c.loop-place.place found c.loop-place-test.false c.loop-place.invariant h) c.fact_of.ensures

pub either_of-returns-in-Some : goal.either_of-returns-in-Some
either_of-returns-in-Some t c = either_found c.args.tokens.now c.loop-place.place c.in-Some.e (rw c.in-Some.is at c.in_ok-e.ensures)

pub either_of-returns : goal.either_of-returns
either_of-returns t c =
    IfOk-weaker c.both_of.result _ _ (λ found h. either_from_both c.args.tokens.now c.loop-place.place found c.loop-place-test.false c.loop-place.invariant h) c.both_of.ensures

pub fact_of-returns-in_default : goal.fact_of-returns-in_default
fact_of-returns-in_default t c = nothing_is_no_fact c.args.tokens.now c.in_default.ensures.cases

pub fact_of-returns-in_default-split_last : goal.fact_of-returns-in_default-split_last
fact_of-returns-in_default-split_last t c =
    let e : c.args.tokens.now ≡ token.Left ∷ c.in-Some.rest.now = cc (c.in-Some.ensures.cases.0, c.in-Left.is) in
    left_alone c.args.tokens.now c.in-Some.rest.now e c.in_default-split_last.ensures.cases

pub fact_of-returns-then-is_empty : goal.fact_of-returns-then-is_empty
fact_of-returns-then-is_empty t c =
    let e : c.args.tokens.now ≡ token.Word c.in-Word.word ∷ c.in-Some.rest.now = cc (c.in-Some.ensures.cases.0, c.in-Word.is) in
    let none : length c.in-Some.rest.now ≡ 0 = search rules in
    rw c.word.ensures (word_alone c.args.tokens.now c.in-Some.rest.now c.in-Word.word e none)

pub fact_of-returns-else-is_empty : goal.fact_of-returns-else-is_empty
fact_of-returns-else-is_empty t c =
    let e : c.args.tokens.now ≡ token.Word c.in-Word.word ∷ c.in-Some.rest.now = cc (c.in-Some.ensures.cases.0, c.in-Word.is) in
    let some : 0 < length c.in-Some.rest.now = search rules in
    word_and_more c.args.tokens.now c.in-Some.rest.now c.in-Word.word e some

pub fact_of-returns-in-None : goal.fact_of-returns-in-None
fact_of-returns-in-None t c =
    let e : c.args.tokens.now ≡ token.Bang ∷ c.in-Some.rest.now = cc (c.in-Some.ensures.cases.0, c.in-Bang.is) in
    bang_not_found c.args.tokens.now c.in-Some.rest.now e (rw c.in-None.is at c.in_ok-fact_of-in-Bang.ensures)

pub fact_of-returns-in_ok-not-in-Some-2 : goal.fact_of-returns-in_ok-not-in-Some-2
fact_of-returns-in_ok-not-in-Some-2 t c =
    let e : c.args.tokens.now ≡ token.Bang ∷ c.in-Some.rest.now = cc (c.in-Some.ensures.cases.0, c.in-Bang.is) in
    rw c.in_ok-not-in-Some-2.ensures (bang_found c.args.tokens.now c.in-Some.rest.now c.in-Some-2.e e (rw c.in-Some-2.is at c.in_ok-fact_of-in-Bang.ensures))

pub fact_of-returns-in-Right : goal.fact_of-returns-in-Right
fact_of-returns-in-Right t c =
    let e : c.args.tokens.now ≡ token.Left ∷ c.in-Some.rest.now = cc (c.in-Some.ensures.cases.0, c.in-Left.is) in
    let f : c.in-Some.rest.now ≡ c.in-Some-split_last.inner.now ++ token.Right ∷ [] = cc (c.in-Some-split_last.ensures.cases.0, c.in-Right.is) in
    IfOk-weaker c.either_of.result _ _ (λ found h. in_brackets c.args.tokens.now c.in-Some.rest.now c.in-Some-split_last.inner.now found e f h) c.either_of.ensures

pub fact_of-returns-in_default-last : goal.fact_of-returns-in_default-last
fact_of-returns-in_default-last t c =
    let e : c.args.tokens.now ≡ token.Left ∷ c.in-Some.rest.now = cc (c.in-Some.ensures.cases.0, c.in-Left.is) in
    no_bracket_closes c.args.tokens.now c.in-Some.rest.now c.in-Some-split_last.inner.now c.in-Some-split_last.last.now e c.in-Some-split_last.ensures.cases.0 c.in_default-last.not-Right

pub fact_of-returns-in-Bar : goal.fact_of-returns-in-Bar
fact_of-returns-in-Bar t c = mark_is_no_fact c.args.tokens.now c.in-Some.rest.now c.in-Some.first.now c.in-Some.ensures.cases.0 c.in-Bar.is
