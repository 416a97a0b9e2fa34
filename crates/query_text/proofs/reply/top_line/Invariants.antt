use Rattle.std.proofs.Common.{◌≡◌, ◌++◌, take}
use Rattle.query_model.specs.Output.{scores_text}
use Rattle.query_text.proofs.reply.top_line.Given as goal

abbrev pub invariant-loop-id : goal.invariant-loop-id
invariant-loop-id l = l.text.items ≡ l.initial.text.items ++ scores_text (take l.id-index l.scores)
