use Rattle.std.proofs.Common.{ap, ◌∙◌, take, map, get_or, ltb}
use Rattle.std.proofs.lemmas.List.{take_all}
use Rattle.query_model.specs.Sorting.{sorted_by}
use Rattle.shard_index.proofs.hits.smallest_ids.Goals as goal

pub returns : goal.returns
returns c =
    c.loop-place.invariant.kept ∙ ap (λ ps. take 100 (sorted_by ltb (map (λ p. get_or c.args.ids.now p 0) ps))) (take_all c.loop-place.place-index c.args.places.now c.loop-place-test.false)
