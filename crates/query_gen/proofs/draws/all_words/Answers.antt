use Rattle.std.proofs.Common.{ap, arith, length}
use Rattle.std.proofs.lemmas.List.{length_push}
use Rattle.query_gen.proofs.DrawnWords.{words_more}
use Rattle.query_gen.proofs.draws.all_words.Goals as goal

pub loop-number-preserved : goal.loop-number-preserved
loop-number-preserved c = record {
  many = omega (arith, ap length c.in_ok-push.ensures.items, length_push c.loop-number.all.items c.word_of.result, c.loop-number.invariant.many);
  each = words_more c.loop-number.all.items c.push.new.self.items c.word_of.result c.loop-number.number c.in_ok-push.ensures.items c.loop-number.invariant.many c.word_of.ensures
      c.loop-number.invariant.each;
}
