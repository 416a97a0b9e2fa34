use Rattle.std.proofs.Common.{◌+◌, ◌*◌, ◌<◌, ◌^◌, ℕ, length, map, take, zip, get_or, sym, subst, ◌∙◌, arith}
use Rattle.std.specs.List.{AllByRecursion}
use Rattle.fan_base.specs.declared.doc.Doc.{Doc}
use Rattle.fan_base.specs.declared.word.Word.{Word}
use Rattle.query_model.specs.Answers.{times_in}
use Rattle.query_model.specs.Parts.{weighted_score}
use Rattle.shard_index.proofs.IndexLemmas.{many-front, no-totals, room-for}
use Rattle.shard_index.proofs.ScoreLemmas.{score-more}
use Rattle.shard_index.proofs.index.Index.totals.Goals as goal

pub loop-i-init : goal.loop-i-init
loop-i-init c = λ docs stands.
    c.in_ok-totals.ensures ∙ no-totals c.args.words.now c.args.weights.now (take c.args.front docs) c.args.front (many-front c.args.self.now docs c.args.front stands c.requires.front)

pub add_word-requires : goal.add_word-requires
add_word-requires c =
    let docs = c.requires.docs.0 in
    let stands = c.requires.docs.1 in
    let i = c.loop-i.i in
    let words = c.args.words.now in
    let weights = c.args.weights.now in
    let within : i < length weights = omega (arith, c.requires.many, c.loop-i-test.true) in
    let score : Doc → ℕ = weighted_score (zip (take i words) (take i weights)) in
    record {
      docs = docs;
      score = score;
      indexes = stands;
      totals_are = c.loop-i.invariant docs stands;
      room = subst (λ (w : Word). AllByRecursion (λ d. score d + times_in d w * get_or weights i 0 < 2 ^ 64) (take c.args.front docs)) (sym c.index-words-i.is)
          (room-for c.args.self.now docs c.args.front words weights i c.index-words-i.result stands c.requires.differ c.requires.low c.loop-i-test.true within);
    }

pub loop-i-preserved : goal.loop-i-preserved
loop-i-preserved c = λ docs stands.
    let i = c.loop-i.i in
    let words = c.args.words.now in
    let weights = c.args.weights.now in
    let within : i < length weights = omega (arith, c.requires.many, c.loop-i-test.true) in
    let score : Doc → ℕ = weighted_score (zip (take i words) (take i weights)) in
    c.add_word.ensures docs score stands (c.loop-i.invariant docs stands)
    ∙ ((λ k. map (λ d. score d + times_in d (c.index-words-i.is k) * get_or weights i 0) (take c.args.front docs))
    ∙ (λ k. map (λ d. score-more d words weights i c.index-words-i.result c.loop-i-test.true within k) (take c.args.front docs)))
