use Rattle.query_model.proofs.CanonicalLaws.{canonical_accepted}
use Rattle.query_model.proofs.laws.canonical_text_is_accepted.Goals as goal

pub returns : goal.returns
returns c = λ keeps bytes shards input a. canonical_accepted keeps bytes shards input a
