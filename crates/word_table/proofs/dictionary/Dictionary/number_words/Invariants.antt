use Rattle.std.proofs.Common.{◌≡◌, length, take}
use Rattle.word_table.specs.Numbered.{AreNumbersOf}
use Rattle.word_table.specs.Numbers.{Knows, with_words, words_in}
use Rattle.word_table.proofs.dictionary.Dictionary.number_words.Given as goal

abbrev pub invariant-loop-place : goal.invariant-loop-place
invariant-loop-place l = record {
  many : length l.numbers.items ≡ length l.words;
  knows : Knows l.self (with_words (words_in l.initial.self) (take l.place l.words));
  stand : AreNumbersOf (with_words (words_in l.initial.self) (take l.place l.words)) (take l.place l.numbers.items) (take l.place l.words);
}
