use Rattle.std.proofs.Common.{◌≡◌, ℕ, ◌+◌, ◌-◌, ◌<◌, length, not, set, drop, ap, ◌∙◌, subst, arith}
use Rattle.std.specs.Ordering.{nat_cmp}
use Rattle.std.specs.Cmp.Lexicographic.{slice_cmp}
use Rattle.std.specs.BTreeSet as tree
use Rattle.std.proofs.lemmas.List.{length-set}
use Rattle.fan_base.specs.declared.word.Word.{Word}
use Rattle.shard_index.specs.Counting.{stand_again}
use Rattle.query_grammar.specs.Truth.{is_among}
use Rattle.shard_index.proofs.OnceLemmas.{not-new, seen-more, told-more}
use Rattle.shard_index.proofs.once.told_by_set.Goals as goal

pub loop-done-preserved : goal.loop-done-preserved
loop-done-preserved c =
    let words = c.args.words.now in
    let i : ℕ = length words - 1 - c.loop-done.done in
    let word = c.index-words-i.result in
    let within : i < length words = omega (arith, c.loop-done-test.true) in
    let here : length words - c.loop-done.done ≡ i + 1 = omega (arith, c.loop-done-test.true) in
    let next : i ≡ length words - (c.loop-done.done + 1) = omega (arith, c.loop-done-test.true) in
    let told = subst (λ (m : ℕ). drop m c.loop-done.again.items ≡ stand_again (drop m words)) here c.loop-done.invariant.told in
    let seen : (w : Word) → tree.contains (slice_cmp nat_cmp) c.loop-done.seen w ≡ is_among w (drop (i + 1) words) =
    λ w. c.loop-done.invariant.seen w ∙ ap (λ (m : ℕ). is_among w (drop m words)) here in
    record {
      many = length-set c.loop-done.again.items i _ ∙ c.loop-done.invariant.many;
      told = subst (λ (m : ℕ). drop m (set c.loop-done.again.items i (not c.in_ok-again-2.field-0)) ≡ stand_again (drop m words)) next
          (told-more words c.loop-done.again.items i word (not c.in_ok-again-2.field-0) within c.loop-done.invariant.many c.index-words-i.is told
          (not-new c.in_ok-again-2.field-0 _ c.in_ok-again-2.ensures.added ∙ seen word));
      seen = λ w. subst (λ (m : ℕ). tree.contains (slice_cmp nat_cmp) c.insert.new.self w ≡ is_among w (drop m words)) next
          (c.in_ok-again-2.ensures.updates.0 w ∙ seen-more words i word w (tree.contains (slice_cmp nat_cmp) c.loop-done.seen w) within c.index-words-i.is (seen w));
    }
