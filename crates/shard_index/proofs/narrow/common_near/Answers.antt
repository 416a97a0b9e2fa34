use Rattle.std.proofs.Common.{◌≤◌, ◌+◌, ◌⊎◌, inl, inr, length, true, append-nil, refl, sym, ap, ◌∙◌}
use Rattle.shard_index.proofs.NarrowLemmas.{ascend-where, near-more, near-where, one-more}
use Rattle.shard_index.proofs.narrow.common_near.Goals as goal
use Rattle.shard_index.proofs.narrow.common_near.Goals.{then-places-test+else-at-others, else-places-test}

pub places-preserved : goal.places-preserved
places-preserved c = record {
  among_places = one-more c.places.i c.from-i.result (length c.args.places.now) _ c.places-test.true c.from-i.ensures;
  among_others = one-more c.places.at c.from-at.result (length c.args.others.now) _ c.if-at-others.true c.from-at.ensures;
  kept = λ ascend parted. near-more c.args.places.now c.args.others.now c.places.kept.items c.push_if.new.kept.items c.places.i c.places.at (c.places.i + c.from-i.result) (c.places.at + c.from-at.result) _ _
      ascend parted (c.places.invariant.kept ascend parted) c.places-test.true c.if-at-others.true refl refl (ap (λ n. c.places.i + n) c.from-i.ensures) (ap (λ n. c.places.at + n) c.from-at.ensures)
      c.in_ok-push_if.ensures;
}

pub returns : goal.returns
returns c = λ p q docs are stand.
    let past : (length c.args.others.now ≤ c.places.at) ⊎ (length c.args.places.now ≤ c.places.i) = elim c.places-test.branch [
      | then-places-test+else-at-others w ↦ inl w.if-at-others.false
      | else-places-test w ↦ inr w.places-test.false
    ] in
    sym (append-nil c.places.kept.items) ∙ near-where c.args.places.now c.args.others.now c.places.kept.items true c.places.i c.places.at p q docs past c.places.invariant.among_places
    c.places.invariant.among_others (c.places.invariant.kept (ascend-where p docs c.args.places.now are) stand.parted) are stand
