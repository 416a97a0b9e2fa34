use Rattle.std.proofs.Common.{rules, ◌≡◌, ◌<◌, [], length, arith, subst, sym, ◌∙◌}
use Rattle.std.proofs.lemmas.Option.{MatchOption-at_some}
use Rattle.query_text.proofs.WordLemmas.{HasTaken, taken_all, taken_more, too_many, bad_word_fails}
use Rattle.query_text.proofs.words.words_of.Goals as goal

pub returns-then-len-eq-MOST_WORDS : goal.returns-then-len-eq-MOST_WORDS
returns-then-len-eq-MOST_WORDS c =
    let steps = MatchOption-at_some _ _ _ c.in-Some.is c.next_place.ensures.first in
    too_many c.texts.words c.texts.fields c.next_place.new.self c.args.fields _ c.texts.invariant steps (sym c.len.ensures ∙ c.if-len-eq-MOST_WORDS.true)

pub returns-in_err-push_word : goal.returns-in_err-push_word
returns-in_err-push_word c =
    let steps = MatchOption-at_some _ _ _ c.in-Some.is c.next_place.ensures.first in
    let few : length c.texts.words < 1000 = omega (arith, c.texts.invariant.few, c.if-len-eq-MOST_WORDS.false, c.len.ensures) in
    let failed = bad_word_fails c.texts.words c.texts.fields c.next_place.new.self c.args.fields _ _ c.texts.invariant steps c.in_err-push_word.ensures.err few in
    search (rules, failed)

pub texts-preserved : goal.texts-preserved
texts-preserved c =
    let steps = MatchOption-at_some _ _ _ c.in-Some.is c.next_place.ensures.first in
    let few : length c.texts.words < 1000 = omega (arith, c.texts.invariant.few, c.if-len-eq-MOST_WORDS.false, c.len.ensures) in
    subst (λ words. HasTaken words c.next_place.new.self c.args.fields) (sym c.in_ok-push_word.ensures.ok.1)
    (taken_more c.texts.words c.texts.fields c.next_place.new.self c.args.fields _ _ c.texts.invariant steps c.in_ok-push_word.ensures.ok.0 few)

pub returns : goal.returns
returns c =
    let nothing : c.texts.fields ≡ [] = search rules in
    taken_all c.texts.words c.texts.fields c.args.fields c.texts.invariant nothing
