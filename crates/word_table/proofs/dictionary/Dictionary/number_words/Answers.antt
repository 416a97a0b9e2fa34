use Rattle.std.proofs.Common.{◌≡◌, List, length, take, ap, sym, ◌∙◌, subst, arith, length-take-le}
use Rattle.std.proofs.lemmas.List.{length-set}
use Rattle.fan_base.specs.declared.word.Word.{Word}
use Rattle.word_table.specs.Numbers.{Knows, number_in, with_word, with_words, words_in}
use Rattle.word_table.proofs.DocLemmas.{few-more, stand-step}
use Rattle.word_table.proofs.NumberLemmas.{with-more}
use Rattle.word_table.proofs.dictionary.Dictionary.number_words.Goals as goal

pub number_word-requires-clause-few : goal.number_word-requires-clause-few
number_word-requires-clause-few c =
    let front : List Word = take c.loop-place.place c.args.words.now in
    omega (arith, c.requires.few, few-more (words_in c.args.self.now) front, length-take-le c.loop-place.place c.args.words.now (omega (arith, c.loop-place-test.true)), c.loop-place-test.true, ap length c.loop-place.invariant.knows.words_are)

pub loop-place-preserved : goal.loop-place-preserved
loop-place-preserved c =
    let words = c.args.words.now in
    let known = words_in c.args.self.now in
    let i = c.loop-place.place in
    let word = c.index-words-place.result in
    let n = c.in_ok-numbers-2.field-0 in
    let before : List Word = with_words known (take i words) in
    let same : words_in c.loop-place.self ≡ before = c.loop-place.invariant.knows.words_are in
    record {
      many = length-set c.loop-place.numbers.items i n ∙ c.loop-place.invariant.many;
      knows = subst (λ (ws : List Word). Knows c.number_word.new.self ws) (sym (with-more known words i word c.loop-place-test.true c.index-words-place.is))
          (subst (λ (ws : List Word). Knows c.number_word.new.self (with_word ws word)) same c.in_ok-numbers-2.ensures.knows);
      stand = stand-step known words i n word c.loop-place.numbers.items c.loop-place-test.true c.index-words-place.is c.loop-place.invariant.many c.loop-place.invariant.stand
          (c.in_ok-numbers-2.ensures.number ∙ ap (λ (ws : List Word). number_in (with_word ws word) word) same);
    }
