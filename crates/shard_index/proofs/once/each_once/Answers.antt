use Rattle.std.proofs.Common.{◌≡◌, ◌+◌, ◌<◌, List, ◌++◌, Bool, length, drop, get_or, ap, sym, ◌∙◌, arith}
use Rattle.query_model.specs.Answers.{each_once}
use Rattle.shard_index.specs.Counting.{stand_again}
use Rattle.shard_index.proofs.OnceLemmas.{once-more, once-same}
use Rattle.shard_index.proofs.once.each_once.Goals as goal
use Rattle.shard_index.proofs.once.each_once.Goals.{then-not-index+in_ok-push, else-not-index}

pub loop-i-preserved : goal.loop-i-preserved
loop-i-preserved c =
    let words = c.args.words.now in
    let i = c.loop-i.i in
    let d : Bool = c.index.result.now in
    let within : i < length words = omega (arith, c.loop-i-test.true) in
    let told : get_or (stand_again words) i d ≡ d = ap (λ (bs : List Bool). get_or bs i d) (sym c.in_ok-again.ensures.told) ∙ sym c.index.ensures in
    elim c.if-not-index.branch [
      | then-not-index+in_ok-push w ↦
          ap (λ v. v.items ++ each_once (drop (i + 1) words)) w.once-is
          ∙ (ap (λ ws. ws ++ each_once (drop (i + 1) words)) w.in_ok-push.ensures.items
          ∙ once-more words c.loop-i.once.items i w.index-words-i.result d within w.index-words-i.is (told ∙ w.if-not-index.true) c.loop-i.invariant)
      | else-not-index w ↦
          ap (λ v. v.items ++ each_once (drop (i + 1) words)) w.once-is
          ∙ once-same words c.loop-i.once.items i d within (told ∙ w.if-not-index.false) c.loop-i.invariant
    ]
