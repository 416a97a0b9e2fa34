use Rattle.std.proofs.Common.{ℕ, List, length, ap, sym, subst, ◌∙◌, take, zip}
use Rattle.std.proofs.lemmas.List.{length-map}
use Rattle.std.proofs.lemmas.Result.{IfOk-weaker}
use Rattle.query_model.specs.Parts.{weighted_score}
use Rattle.shard_index.specs.Places.{has_one}
use Rattle.shard_index.specs.Scored.{AreScored}
use Rattle.shard_index.proofs.IndexLemmas.{ids-front}
use Rattle.shard_index.proofs.ScoredLemmas.{scored-within, top-of-some}
use Rattle.shard_index.proofs.index.Index.scores_of_some.Goals as goal

pub first_scores-requires : goal.first_scores-requires
first_scores-requires c =
    let docs = take c.args.front c.requires.docs.0 in
    let stands = c.requires.docs.1 in
    let first = take c.args.front c.deref.result.now in
    let ids = ids-front c.args.self.now c.requires.docs.0 c.args.front first stands (ap (λ xs. take c.args.front xs) c.deref.ensures.value) in
    scored-within (has_one c.args.words.now) (weighted_score (zip c.args.words.now c.args.weights.now)) docs c.as_slice.result.now (length first)
    (subst (λ (ss : List (ℕ × ℕ)). AreScored ss (has_one c.args.words.now) (weighted_score (zip c.args.words.now c.args.weights.now)) docs) (sym c.as_slice.ensures.value)
    (c.in_ok-scored.ensures c.requires.docs.0 stands)) (ap length ids ∙ length-map docs (λ d. d.id))

pub returns : goal.returns
returns c = λ docs stands.
    let front = take c.args.front docs in
    let first = take c.args.front c.deref.result.now in
    IfOk-weaker c.first_scores.result _ _
    (λ scores is. is ∙ top-of-some c.args.k front c.args.words.now c.args.weights.now first c.as_slice.result.now
    (ids-front c.args.self.now docs c.args.front first stands (ap (λ xs. take c.args.front xs) c.deref.ensures.value))
    (subst (λ (ss : List (ℕ × ℕ)). AreScored ss (has_one c.args.words.now) (weighted_score (zip c.args.words.now c.args.weights.now)) front) (sym c.as_slice.ensures.value)
    (c.in_ok-scored.ensures docs stands)))
    c.first_scores.ensures
