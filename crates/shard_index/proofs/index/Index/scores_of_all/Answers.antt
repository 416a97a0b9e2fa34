use Rattle.std.proofs.Common.{length, ap, ◌∙◌, arith, take, zip}
use Rattle.std.proofs.lemmas.List.{length-map, length-take-le}
use Rattle.std.proofs.lemmas.Result.{IfOk-weaker}
use Rattle.query_model.specs.Parts.{weighted_score}
use Rattle.shard_index.proofs.IndexLemmas.{ids-front, many-front, top-of-all}
use Rattle.shard_index.proofs.index.Index.scores_of_all.Goals as goal

pub first_of_all-requires : goal.first_of_all-requires
first_of_all-requires c =
    let docs = c.requires.docs.0 in
    let stands = c.requires.docs.1 in
    omega (
      arith,
      length-take-le c.args.front c.deref.result.now (omega (arith, c.requires.front, ap length c.deref.ensures.value)),
      ap length (c.as_slice.ensures.value ∙ c.in_ok-totals.ensures docs stands),
      length-map (take c.args.front docs) (weighted_score (zip c.args.words.now c.args.weights.now)),
      many-front c.args.self.now docs c.args.front stands c.requires.front,
    )

pub returns : goal.returns
returns c = λ docs stands.
    let first = take c.args.front c.deref.result.now in
    IfOk-weaker c.first_of_all.result _ _
    (λ scores is. is ∙ top-of-all c.args.k (take c.args.front docs) c.args.words.now c.args.weights.now first c.as_slice.result.now
    (ids-front c.args.self.now docs c.args.front first stands (ap (λ xs. take c.args.front xs) c.deref.ensures.value)) (c.as_slice.ensures.value ∙ c.in_ok-totals.ensures docs stands))
    c.first_of_all.ensures
