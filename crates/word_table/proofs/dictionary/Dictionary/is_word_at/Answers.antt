use Rattle.std.proofs.Common.{◌≡◌, get_or, sym, subst, arith}
use Rattle.fan_base.specs.declared.word.Word.{Word}
use Rattle.word_table.proofs.dictionary.Dictionary.is_word_at.Goals as goal

pub returns-then-number-len : goal.returns-then-number-len
returns-then-number-len c = λ e.
    let words = c.args.self.now.words.items in
    let same = c.are_same.ensures e in
    record {
      within = omega (arith, c.len.ensures, c.if-number-len.true, c.args.self.now.words.ok);
      is = subst (λ (w : Word). get_or words c.args.number w ≡ w) same (sym c.index.ensures);
    }
