use Rattle.std.proofs.Common.{subst, sym, ◌∙◌}
use Rattle.query_model.specs.Lines.{GivesLine}
use Rattle.query_text.specs.Outcomes.{GivesBy}
use Rattle.query_text.proofs.LineLemmas.{printable_line, small_line}
use Rattle.query_text.proofs.line.text_line.Goals as goal

pub returns-then-are_small : goal.returns-then-are_small
returns-then-are_small c =
    subst (λ given. GivesBy c.fields_line.result (GivesLine c.args.shards c.args.so_far.now given))
    (small_line c.args.so_far.now c.args.text.now c.new.result (sym c.are_small.ensures ∙ c.if-are_small.true) c.new.ensures)
    c.fields_line.ensures

pub returns : goal.returns
returns c =
    subst (λ given. GivesBy c.fields_line-2.result (GivesLine c.args.shards c.args.so_far.now given))
    (printable_line c.args.so_far.now c.args.text.now c.as_slice.result.now c.new-2.result (sym c.is_printable.ensures ∙ c.if-not-is_printable.false) (c.as_slice.ensures.value ∙ c.in_ok-lowered.ensures) c.new-2.ensures)
    c.fields_line-2.ensures
