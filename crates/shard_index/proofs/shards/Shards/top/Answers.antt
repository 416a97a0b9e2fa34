use Rattle.std.proofs.Common.{◌<◌, ◌^◌, ℕ, List, length, map, take, ap, sym, subst, ◌∙◌}
use Rattle.std.specs.List.{All}
use Rattle.std.proofs.lemmas.Result.{IfOk-weaker}
use Rattle.query_model.specs.Answers.{each_once, weight_of}
use Rattle.query_model.specs.Parts.{merged_scores, part_before, weighted_top}
use Rattle.shard_index.specs.Parts.{by_shard}
use Rattle.shard_index.proofs.MergeLemmas.{all-weights}
use Rattle.shard_index.proofs.shards.Shards.top.Goals as goal

pub scores_in_each-requires-clause-low : goal.scores_in_each-requires-clause-low
scores_in_each-requires-clause-low c =
    subst (λ (gs : List ℕ). All (λ g. g < 2 ^ 32) gs) (sym (c.as_slice-2.ensures.value ∙ c.in_ok-weights.ensures c.requires.docs c.requires.stand))
    (all-weights c.requires.docs c.args.before (2 ^ 32) c.in_ok-words.words c.requires.stand.few)

pub returns : goal.returns
returns c = λ docs stands.
    let n = length c.args.self.now.shards.items in
    let first = take c.args.before docs in
    let once = c.in_ok-words.ensures ∙ ap each_once c.as_slice.ensures in
    let heavy = c.as_slice-2.ensures.value ∙ (c.in_ok-weights.ensures docs stands ∙ ap (λ ws. map (weight_of first) ws) once) in
    let parts = c.as_slice-3.ensures.value ∙ (c.in_ok-parts.ensures docs stands
    ∙ (λ i. by_shard (λ number. weighted_top c.args.k (once i) (heavy i) (part_before docs n number c.args.before)) n)) in
    IfOk-weaker c.merge_scores.result _ _
    (λ scores is. is ∙ (ap (λ ps. merged_scores c.args.k ps) parts ∙ c.merged_scores_are_the_whole.ensures.scores c.args.k c.args.words.now docs n c.args.before stands.some))
    c.merge_scores.ensures
