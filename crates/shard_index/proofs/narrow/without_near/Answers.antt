use Rattle.std.proofs.Common.{◌<◌, ◌≤◌, ◌+◌, ◌++◌, ◌⊎◌, inl, inr, false, length, take, set, get_or, refl, ap, arith, ◌∙◌}
use Rattle.std.proofs.lemmas.List.{length-set}
use Rattle.shard_index.proofs.JoinLemmas.{behind-is}
use Rattle.shard_index.proofs.NarrowLemmas.{ascend-where, near-where, no-further, one-more, past-more, written}
use Rattle.shard_index.proofs.narrow.without_near.Goals as goal
use Rattle.shard_index.proofs.narrow.without_near.Goals.{then-places-test+else-at-others, else-places-test}

pub places-preserved : goal.places-preserved
places-preserved c =
    let place = get_or c.args.places.now c.places.i 0 in
    let room : c.places.many < length c.places.kept.items = omega (arith, c.places.invariant.room, c.places.invariant.few, c.places-test.true) in
    record {
      among_places = one-more c.places.i c.from-i.result (length c.args.places.now) _ c.places-test.true c.from-i.ensures;
      among_others = one-more c.places.at c.from-at.result (length c.args.others.now) _ c.if-at-others.true c.from-at.ensures;
      room = length-set c.places.kept.items c.places.many place ∙ c.places.invariant.room;
      few = no-further place (get_or c.args.others.now c.places.at 0) c.places.many c.places.i c.from-many.result c.from-i.result _ _ refl refl c.places.invariant.few c.from-many.ensures c.from-i.ensures;
      kept = λ ascend parted. past-more c.args.places.now c.args.others.now (take c.places.many c.places.kept.items) (take (c.places.many + c.from-many.result) (set c.places.kept.items c.places.many place))
          c.places.i c.places.at (c.places.i + c.from-i.result) (c.places.at + c.from-at.result) _ _ ascend parted (c.places.invariant.kept ascend parted) c.places-test.true c.if-at-others.true refl refl
          (ap (λ n. c.places.i + n) c.from-i.ensures) (ap (λ n. c.places.at + n) c.from-at.ensures)
          (written c.places.kept.items c.places.many (c.places.many + c.from-many.result) place _ room (ap (λ n. c.places.many + n) c.from-many.ensures));
    }

pub returns : goal.returns
returns c = λ p q docs are stand.
    let past : (length c.args.others.now ≤ c.places.at) ⊎ (length c.args.places.now ≤ c.places.i) = elim c.places-test.branch [
      | then-places-test+else-at-others w ↦ inl w.if-at-others.false
      | else-places-test w ↦ inr w.places-test.false
    ] in
    c.in_ok-extend_from_slice.ensures.items ∙ ((λ k. (c.truncate.ensures.items k) ++ behind-is c.args.places.now c.places.i k)
    ∙ near-where c.args.places.now c.args.others.now (take c.places.many c.places.kept.items) false c.places.i c.places.at p q docs past c.places.invariant.among_places c.places.invariant.among_others
    (c.places.invariant.kept (ascend-where p docs c.args.places.now are) stand.parted) are stand)
