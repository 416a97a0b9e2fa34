use Rattle.std.proofs.Common.{◌+◌, ◌<◌, not, cond, Bool, length, get_or, ap, ◌∙◌, arith}
use Rattle.std.proofs.lemmas.List.{length-set}
use Rattle.shard_index.proofs.BitLemmas.{kept-by-more, kept-by-where}
use Rattle.shard_index.proofs.MarkLemmas.{one-count}
use Rattle.shard_index.proofs.bits.narrow_by_bits.Goals as goal

pub loop-place-preserved : goal.loop-place-preserved
loop-place-preserved c =
    let index = c.loop-place.place-index in
    let place = get_or c.args.places.now index 0 in
    let room : c.loop-place.many < length c.loop-place.kept.items = omega (arith, c.loop-place.invariant.room, c.loop-place.invariant.few, c.loop-place-test.true) in
    record {
      room = length-set c.loop-place.kept.items c.loop-place.many place ∙ c.loop-place.invariant.room;
      few = one-count c.loop-place.many index c.from-many.result _ c.loop-place.invariant.few c.from-many.ensures;
      kept = kept-by-more c.args.bits.now c.args.places.now c.loop-place.kept.items c.args.wanted c.is_kept.result index c.loop-place.many (c.loop-place.many + c.from-many.result) c.loop-place.invariant.kept c.loop-place-test.true room
          (c.is_kept.ensures ∙ ap (λ (b : Bool). cond c.args.wanted b (not b)) c.has_bit-has.ensures) (ap (λ n. c.loop-place.many + n) c.from-many.ensures);
    }

pub returns : goal.returns
returns c = λ p q docs are has.
    kept-by-where c.args.bits.now c.args.places.now c.truncate.new.self.items c.args.wanted c.loop-place.place-index p q docs (c.truncate.ensures.items ∙ c.loop-place.invariant.kept) c.loop-place-test.false are has
