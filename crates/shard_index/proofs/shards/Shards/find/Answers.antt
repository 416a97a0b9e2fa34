use Rattle.std.proofs.Common.{length, map, sum, ap, ◌∙◌, arith}
use Rattle.std.proofs.lemmas.Result.{IfOk-weaker}
use Rattle.query_model.specs.Parts.{merged_hits}
use Rattle.shard_index.proofs.shards.Shards.find.Goals as goal

pub merge_hits-requires : goal.merge_hits-requires
merge_hits-requires c =
    let docs = c.requires.docs in
    let n = length c.args.self.now.shards.items in
    omega (
      arith,
      ap (λ parts. sum (map (λ hits. hits.total) parts)) (c.as_slice.ensures.value ∙ c.in_ok-parts.ensures docs c.requires.stand),
      c.merged_hits_are_the_whole.ensures.total c.args.e.now docs n c.args.before c.requires.stand.some,
      c.requires.stand.few,
    )

pub returns : goal.returns
returns c = λ docs stands.
    IfOk-weaker c.merge_hits.result _ _
    (λ hits is. is ∙ (ap merged_hits (c.as_slice.ensures.value ∙ c.in_ok-parts.ensures docs stands)
    ∙ c.merged_hits_are_the_whole.ensures.hits c.args.e.now docs (length c.args.self.now.shards.items) c.args.before stands.some))
    c.merge_hits.ensures
