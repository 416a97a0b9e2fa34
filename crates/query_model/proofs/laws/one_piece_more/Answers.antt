use Rattle.query_model.proofs.ReadingLaws.{StandFor-none, StandFor-push}
use Rattle.query_model.proofs.laws.one_piece_more.Goals as goal

pub returns-clause-none : goal.returns-clause-none
returns-clause-none c = λ shards. StandFor-none shards

pub returns-clause-more : goal.returns-clause-more
returns-clause-more c = λ shards ps marks piece mark s is. StandFor-push shards ps marks piece mark s is
