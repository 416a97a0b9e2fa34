use Rattle.std.proofs.Common.{◌≡◌, ◌++◌, take}
use Rattle.query_model.specs.Output.{ids_text}
use Rattle.query_text.proofs.reply.find_line.Given as goal

abbrev pub invariant-loop-id : goal.invariant-loop-id
invariant-loop-id l = l.text.items ≡ l.initial.text.items ++ ids_text (take l.id-index l.hits.ids)
