use Rattle.query_text.proofs.ReadLemmas.{read_nothing}
use Rattle.query_text.proofs.reading.Reading.new.Goals as goal

pub returns-clause-nothing : goal.returns-clause-nothing
returns-clause-nothing c = λ shards. read_nothing shards c.new.result (c.one_piece_more.ensures.none shards) c.new.ensures
