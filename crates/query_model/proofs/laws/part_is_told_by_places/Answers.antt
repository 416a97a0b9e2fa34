use Rattle.query_model.proofs.PlaceLaws.{part_places}
use Rattle.query_model.proofs.laws.part_is_told_by_places.Goals as goal

pub returns : goal.returns
returns c = λ docs shards number i below. part_places docs shards number i below
