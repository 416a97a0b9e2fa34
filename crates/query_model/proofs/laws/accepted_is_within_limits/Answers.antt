use Rattle.query_model.proofs.LimitLaws.{is_within_limits}
use Rattle.query_model.proofs.laws.accepted_is_within_limits.Goals as goal

pub returns : goal.returns
returns c = λ bytes shards input a. is_within_limits bytes shards input a
