use Rattle.std.proofs.Common.{subst}
use Rattle.input_reader.specs.Texts.{IsReadAs}
use Rattle.input_reader.proofs.TextLemmas.{refused_more}
use Rattle.input_reader.proofs.text.lines_with.Goals as goal

pub returns-in-Refused : goal.returns-in-Refused
returns-in-Refused c = λ text read.
    refused_more c.args.shards text c.args.chunk.now c.args.tail.now.items c.in-Refused.bad (subst (λ ls. IsReadAs c.args.shards text c.args.tail.now.items ls) c.in-Refused.is read)
