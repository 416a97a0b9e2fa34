use Rattle.std.proofs.Common.{◌≡◌, ◌<◌, length, take, min, ap, sym, subst, ◌∙◌, arith}
use Rattle.std.specs.List.{All}
use Rattle.std.proofs.lemmas.List.{length-map}
use Rattle.query_model.specs.Answers.{having}
use Rattle.query_model.specs.Parts.{part_before}
use Rattle.shard_index.specs.Counting.{counts_of}
use Rattle.shard_index.specs.Parts.{total_with, weights_by}
use Rattle.shard_index.proofs.MergeLemmas.{all-by-shard, length-take-min}
use Rattle.shard_index.proofs.shards.Shards.weights.Goals as goal

pub weights-requires-clause-each : goal.weights-requires-clause-each
weights-requires-clause-each c =
    let docs = c.requires.docs in
    let n = length c.args.self.now.shards.items in
    let words = c.args.words.now in
    subst (λ parts. All (λ part. length part.with ≡ c.len.result) parts) (sym (c.as_slice.ensures.value ∙ c.in_ok-parts.ensures docs c.requires.stand))
    (all-by-shard (λ part. length part.with ≡ c.len.result) (λ number. counts_of words (part_before docs n number c.args.before)) n
    (λ number. length-map words (λ word. length (having word (part_before docs n number c.args.before))) ∙ sym c.len.ensures))

pub weights-requires-clause-fits : goal.weights-requires-clause-fits
weights-requires-clause-fits c = λ i within.
    let docs = c.requires.docs in
    let n = length c.args.self.now.shards.items in
    let inside : i < length c.args.words.now = omega (arith, within, c.len.ensures) in
    omega (
      arith,
      ap (λ parts. total_with i parts) (c.as_slice.ensures.value ∙ c.in_ok-parts.ensures docs c.requires.stand),
      c.merged_scores_are_the_whole.ensures.total c.args.words.now docs n c.args.before i c.requires.stand.some inside,
      c.requires.stand.few,
    )

pub returns : goal.returns
returns c = λ docs stands.
    let n = length c.args.self.now.shards.items in
    let many : c.min-docs.result ≡ length (take c.args.before docs) =
    c.min-docs.ensures ∙ (ap (λ m. min m c.args.before) stands.docs_are ∙ sym (length-take-min c.args.before docs)) in
    let parts = c.as_slice.ensures.value ∙ c.in_ok-parts.ensures docs stands in
    c.in_ok-weights.ensures
    ∙ ((λ i. weights_by (many i) (c.len.ensures i) (parts i)) ∙ c.merged_scores_are_the_whole.ensures.weights c.args.words.now docs n c.args.before stands.some)
