use Rattle.query_model.proofs.ReadingLaws.{is_decided}
use Rattle.query_model.proofs.laws.input_is_decided.Goals as goal

pub returns : goal.returns
returns c = λ d bytes shards. is_decided d bytes shards
