use Rattle.std.proofs.Common.{List, ℕ, sym, ap, ◌∙◌}
use Rattle.std.specs.Prelude.{take_while}
use Rattle.fan_base.specs.Word.{is_filled}
use Rattle.fan_base.proofs.Words.{up_to_padding}
use Rattle.word_table.proofs.dictionary.are_same.Goals as goal

pub returns : goal.returns
returns c = λ e.
    sym (up_to_padding c.args.one.now c.as_array.ensures.word)
    ∙ (ap (λ (bytes : List ℕ). take_while is_filled bytes) (sym c.as_array.ensures.bytes ∙ (c.agree.ensures e ∙ c.as_array-2.ensures.bytes))
    ∙ up_to_padding c.args.other.now c.as_array-2.ensures.word)
