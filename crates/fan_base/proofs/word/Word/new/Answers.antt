use Rattle.std.proofs.Common.{sym, ◌∙◌}
use Rattle.fan_base.proofs.Words.{found, is_kept}
use Rattle.fan_base.proofs.word.Word.new.Goals as goal

pub invariant_of-result : goal.invariant_of-result
invariant_of-result c =
    is_kept c.args.bytes.now c.padded.result c.padded.ensures (sym c.is_word.ensures ∙ c.if-not-is_word.false)

pub returns-clause-word : goal.returns-clause-word
returns-clause-word c =
    found c.args.bytes.now c.padded.result c.padded.ensures (sym c.is_word.ensures ∙ c.if-not-is_word.false)
