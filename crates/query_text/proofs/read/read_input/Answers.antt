use Rattle.std.proofs.Common.{ap, ◌∙◌}
use Rattle.query_text.proofs.ReadLemmas.{input_of}
use Rattle.query_text.proofs.read.read_input.Goals as goal

pub returns-clause-accepts : goal.returns-clause-accepts
returns-clause-accepts c = λ input a. ap input_of (c.in_ok-into_lines.ensures ∙ c.in_ok-lines.ensures.accepts input a)
