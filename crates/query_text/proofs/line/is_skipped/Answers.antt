use Rattle.std.proofs.Common.{◌∙◌, sym}
use Rattle.query_text.proofs.CutLemmas.{skipped_empty, skipped_first}
use Rattle.query_text.proofs.line.is_skipped.Goals as goal

pub returns-then-is_empty : goal.returns-then-is_empty
returns-then-is_empty c = skipped_empty _ _ _ c.split_spaces.ensures.spaces c.split_spaces.ensures.whole (sym c.is_empty.ensures ∙ c.if-is_empty.true)

pub returns-else-is_empty : goal.returns-else-is_empty
returns-else-is_empty c = skipped_first _ _ _ c.split_spaces.ensures.spaces c.split_spaces.ensures.whole c.split_spaces.ensures.first (sym c.is_empty.ensures ∙ c.if-is_empty.false)
