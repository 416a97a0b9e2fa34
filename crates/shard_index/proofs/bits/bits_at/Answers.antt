use Rattle.std.proofs.Common.{◌≡◌, ◌+◌, ◌/◌, ℕ, List, length, replicate, ap, ◌∙◌, arith}
use Rattle.std.proofs.lemmas.List.{length-replicate}
use Rattle.shard_index.specs.Bits.{bit_of}
use Rattle.shard_index.proofs.BitLemmas.{are-bits, bit-none, bits-more}
use Rattle.shard_index.proofs.bits.bits_at.Goals as goal

pub loop-place-init : goal.loop-place-init
loop-place-init c =
    let zeros : c.in_ok-bits.bits.items ≡ replicate (c.args.count / 64 + 1) 0 = c.in_ok-bits.ensures.items_if_clones_equal (λ y same. same) in
    record {
      long = ap length zeros ∙ length-replicate (c.args.count / 64 + 1) 0;
      are = λ i. ap (λ (bits : List ℕ). bit_of bits i) zeros ∙ bit-none (c.args.count / 64 + 1) i;
    }

pub set_bit-requires : goal.set_bit-requires
set_bit-requires c = omega (arith, c.requires c.loop-place.place-index 0 c.loop-place-test.true, c.loop-place.invariant.long)

pub loop-place-preserved : goal.loop-place-preserved
loop-place-preserved c = record {
  long = c.set_bit.ensures.many ∙ c.loop-place.invariant.long;
  are = bits-more c.args.places.now c.loop-place.bits.items c.set_bit.new.bits.items c.loop-place.place-index c.loop-place-test.true c.loop-place.invariant.are c.set_bit.ensures.bits;
}

pub returns : goal.returns
returns c = λ test docs many are.
    are-bits c.loop-place.bits.items c.args.places.now c.loop-place.place-index c.args.count test docs c.loop-place.invariant.long many c.loop-place-test.false c.loop-place.invariant.are are
