use Rattle.std.proofs.Common.{◌∷◌, ◌++◌, [], ap, sym, ◌∙◌, zero-add, arith, ◌≡◌}
use Rattle.std.specs.List.{range_with_len}
use Rattle.shard_index.proofs.HitLemmas.{all-of, range-push}
use Rattle.shard_index.proofs.hits.places_below.Goals as goal

pub loop-place-preserved : goal.loop-place-preserved
loop-place-preserved c =
    c.in_ok-push.ensures.items ∙ (ap (λ xs. xs ++ c.loop-place.place ∷ []) c.loop-place.invariant
    ∙ (ap (λ k. range_with_len 0 c.loop-place.place ++ k ∷ []) (sym (zero-add c.loop-place.place)) ∙ range-push 0 c.loop-place.place))

pub returns : goal.returns
returns c = λ docs many.
    let all : c.loop-place.place ≡ c.args.count = omega arith in
    c.loop-place.invariant ∙ (ap (λ n. range_with_len 0 n) all ∙ all-of docs c.args.count many)
