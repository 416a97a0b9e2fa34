use Rattle.std.proofs.Common.{length, map, ap, sym, take, ◌∙◌}
use Rattle.std.proofs.lemmas.List.{length-map}
use Rattle.query_model.specs.Answers.{each_once, weight_of}
use Rattle.shard_index.specs.Parts.{weights_by}
use Rattle.query_parts.proofs.MergeLemmas.{length-counts, weights-are}
use Rattle.query_parts.proofs.ranking.Ranking.by_counts.Goals as goal

pub weights-requires-clause-each : goal.weights-requires-clause-each
weights-requires-clause-each c = λ k d within.
    length-counts c.args.words.now c.requires.docs c.requires.shards c.args.before c.args.parts.now c.requires.are k d within ∙ sym c.len.ensures

pub weigh_once-requires : goal.weigh_once-requires
weigh_once-requires c =
    let all = weights-are c.merged_scores_are_the_whole.ensures.weights c.args.words.now c.requires.docs c.requires.shards c.args.before c.len.result c.args.parts.now c.requires.are c.len.ensures in
    ap length (c.as_slice-2.ensures.value ∙ (c.in_ok-weights.ensures ∙ (ap (λ n. weights_by n c.len.result c.args.parts.now) c.from.ensures ∙ all)))
    ∙ (length-map c.args.words.now (weight_of (take c.args.before c.requires.docs)) ∙ ap length (sym c.as_slice.ensures))

pub returns : goal.returns
returns c = λ docs shards are.
    let weight = weight_of (take c.args.before docs) in
    let all = weights-are c.merged_scores_are_the_whole.ensures.weights c.args.words.now docs shards c.args.before c.len.result c.args.parts.now are c.len.ensures in
    let heavy = c.as_slice-2.ensures.value ∙ (c.in_ok-weights.ensures ∙ (ap (λ n. weights_by n c.len.result c.args.parts.now) c.from.ensures ∙ (all ∙ ap (λ ws. map weight ws) (sym c.as_slice.ensures)))) in
    let words = c.in_ok-once.ensures.words ∙ ap each_once c.as_slice.ensures in
    let weights = c.in_ok-once.ensures.weights weight heavy ∙ ap (λ ws. map weight (each_once ws)) c.as_slice.ensures in
    λ i. record { k = c.args.k; words = words i; weights = weights i }
