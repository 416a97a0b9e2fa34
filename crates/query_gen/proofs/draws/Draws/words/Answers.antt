use Rattle.std.proofs.Common.{arith, ◌-◌, [], sym, subst}
use Rattle.query_gen.proofs.SoFar.{IsSoFar, one_word, words_at}
use Rattle.query_gen.proofs.draws.Draws.words.Goals as goal

pub words-preserved : goal.words-preserved
words-preserved c =
    subst (λ words. IsSoFar words_at [] words 0 (c.words.left - 1) c.word_among.new.self c.args.count c.args.self.now) (sym c.in_ok-push.ensures.items)
    (one_word c.words.words.items c.word_among.result c.words.left (c.words.left - 1) c.words.self c.word_among.new.self c.args.count c.args.self.now
    c.words.invariant (omega (arith, c.words-test.true)) c.word_among.ensures.0 c.word_among.ensures.1)
