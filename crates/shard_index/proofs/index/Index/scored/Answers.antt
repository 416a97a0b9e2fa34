use Rattle.std.proofs.Common.{◌≡◌, ◌+◌, ◌*◌, ◌<◌, ◌^◌, ◌||◌, Bool, ℕ, List, length, take, zip, get_or, sym, subst, ap, ◌∙◌, arith}
use Rattle.std.specs.List.{AllByRecursion}
use Rattle.std.proofs.lemmas.List.{take_all}
use Rattle.std.proofs.lemmas.List.Folds.{list_any_more}
use Rattle.fan_base.specs.declared.doc.Doc.{Doc}
use Rattle.fan_base.specs.declared.word.Word.{Word}
use Rattle.query_grammar.specs.Truth.{is_among}
use Rattle.query_model.specs.Answers.{times_in}
use Rattle.query_model.specs.Parts.{weighted_score}
use Rattle.shard_index.specs.Places.{has_one, has_word}
use Rattle.shard_index.specs.Scored.{AreScored}
use Rattle.shard_index.proofs.IndexLemmas.{room-for}
use Rattle.shard_index.proofs.ScoreLemmas.{score-more}
use Rattle.shard_index.proofs.ScoredLemmas.{no-words, same-scored}
use Rattle.shard_index.proofs.index.Index.scored.Goals as goal

pub loop-i-init : goal.loop-i-init
loop-i-init c = λ docs stands. no-words c.new-scored.result.items c.args.words.now c.args.weights.now (take c.args.front docs) c.new-scored.ensures.items

pub with_word-requires : goal.with_word-requires
with_word-requires c =
    let docs = c.requires.docs.0 in
    let stands = c.requires.docs.1 in
    let i = c.loop-i.i in
    let words = c.args.words.now in
    let weights = c.args.weights.now in
    let within : i < length weights = omega (arith, c.requires.many, c.loop-i-test.true) in
    let score : Doc → ℕ = weighted_score (zip (take i words) (take i weights)) in
    record {
      docs = docs;
      test = has_one (take i words);
      score = score;
      indexes = stands;
      scored_are = subst (λ (ss : List (ℕ × ℕ)). AreScored ss (has_one (take i words)) score (take c.args.front docs)) (sym c.as_slice.ensures.value) (c.loop-i.invariant docs stands);
      room = subst (λ (w : Word). AllByRecursion (λ d. score d + times_in d w * get_or weights i 0 < 2 ^ 64) (take c.args.front docs)) (sym c.index-words-i.is)
          (room-for c.args.self.now docs c.args.front words weights i c.index-words-i.result stands c.requires.differ c.requires.low c.loop-i-test.true within);
    }

pub loop-i-preserved : goal.loop-i-preserved
loop-i-preserved c = λ docs stands.
    let i = c.loop-i.i in
    let words = c.args.words.now in
    let weights = c.args.weights.now in
    let word = c.index-words-i.result in
    let within : i < length weights = omega (arith, c.requires.many, c.loop-i-test.true) in
    let test : Doc → Bool = has_one (take i words) in
    let score : Doc → ℕ = weighted_score (zip (take i words) (take i weights)) in
    same-scored c.in_ok-scored.scored.items (λ d. test d || has_word word d) (has_one (take (i + 1) words)) (λ d. score d + times_in d word * get_or weights i 0)
    (weighted_score (zip (take (i + 1) words) (take (i + 1) weights))) (take c.args.front docs)
    (λ d. ap (λ w. test d || is_among w d.words) c.index-words-i.is ∙ sym (list_any_more (λ w. is_among w d.words) words i word c.loop-i-test.true))
    (λ d. ap (λ (w : Word). score d + times_in d w * get_or weights i 0) c.index-words-i.is ∙ score-more d words weights i word c.loop-i-test.true within)
    (c.in_ok-scored.ensures docs test score stands
    (subst (λ (ss : List (ℕ × ℕ)). AreScored ss test score (take c.args.front docs)) (sym c.as_slice.ensures.value) (c.loop-i.invariant docs stands)))

pub returns : goal.returns
returns c = λ docs stands.
    let i = c.loop-i.i in
    let words = c.args.words.now in
    let weights = c.args.weights.now in
    let all : take i words ≡ words = take_all i words c.loop-i-test.false in
    let each : take i weights ≡ weights = take_all i weights (omega (arith, c.requires.many, c.loop-i-test.false)) in
    same-scored c.loop-i.scored.items (has_one (take i words)) (has_one words) (weighted_score (zip (take i words) (take i weights))) (weighted_score (zip words weights)) (take c.args.front docs)
    (λ d k. has_one (all k) d) (λ d k. weighted_score (zip (all k) (each k)) d) (c.loop-i.invariant docs stands)
