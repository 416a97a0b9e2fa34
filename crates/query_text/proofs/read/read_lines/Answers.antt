use Rattle.query_text.proofs.ReadLemmas.{gives_accepts, gives_refuses}
use Rattle.query_text.proofs.read.read_lines.Goals as goal

pub returns-clause-accepts : goal.returns-clause-accepts
returns-clause-accepts c = gives_accepts c.args.bytes.now c.args.shards c.read_whole.result (c.input_law.ensures c.args.bytes.now c.args.shards) c.read_whole.ensures.accepted c.read_whole.ensures.refused

pub returns-clause-refuses : goal.returns-clause-refuses
returns-clause-refuses c = gives_refuses c.args.bytes.now c.args.shards c.read_whole.result (c.input_law.ensures c.args.bytes.now c.args.shards) c.read_whole.ensures.accepted c.read_whole.ensures.refused
