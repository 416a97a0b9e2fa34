use Rattle.std.proofs.Common.{◌≤◌, ◌+◌, ◌⊎◌, inl, inr, length, refl, ap, ◌∙◌}
use Rattle.shard_index.proofs.JoinLemmas.{joined, joined-end, joined-where, step-least}
use Rattle.shard_index.proofs.NarrowLemmas.{one-more}
use Rattle.shard_index.proofs.join.all_near.Goals as goal
use Rattle.shard_index.proofs.join.all_near.Goals.{then-places-test+else-j-second, else-places-test}

pub returns : goal.returns
returns c = λ p q docs first second.
    let past : (length c.args.second.now ≤ c.places.j) ⊎ (length c.args.first.now ≤ c.places.i) = elim c.places-test.branch [
      | then-places-test+else-j-second w ↦ inl w.if-j-second.false
      | else-places-test w ↦ inr w.places-test.false
    ] in
    joined-end c.args.first.now c.args.second.now c.places.kept.items c.extend_from_slice.new.self.items c.extend_from_slice-2.new.self.items (joined c.args.first.now c.args.second.now)
    c.places.i c.places.j past c.places.invariant.kept c.in_ok-extend_from_slice.ensures.items c.in_ok-extend_from_slice-2.ensures.items
    ∙ ((λ k. joined (first k) (second k)) ∙ joined-where p q docs)

pub places-preserved : goal.places-preserved
places-preserved c = record {
  within_first = one-more c.places.i c.from-i.result (length c.args.first.now) _ c.places-test.true c.from-i.ensures;
  within_second = one-more c.places.j c.from-j.result (length c.args.second.now) _ c.if-j-second.true c.from-j.ensures;
  kept = step-least c.args.first.now c.args.second.now c.places.kept.items c.push.new.self.items (joined c.args.first.now c.args.second.now) c.places.i c.places.j
      c.places-test.true c.if-j-second.true c.places.invariant.kept _ _ (c.places.i + c.from-i.result) (c.places.j + c.from-j.result) c.least.result refl refl
      (ap (λ n. c.places.i + n) c.from-i.ensures) (ap (λ n. c.places.j + n) c.from-j.ensures) c.least.ensures c.in_ok-push.ensures.items;
}
