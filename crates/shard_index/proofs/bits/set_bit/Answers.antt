use Rattle.std.proofs.Common.{◌≡◌, ◌*◌, ◌/◌, ◌%◌, ◌^◌, ℕ, get_or, set, ap, ◌∙◌, arith}
use Rattle.std.specs.Int.RustNames.{bit_or}
use Rattle.std.proofs.lemmas.List.{get_or_read}
use Rattle.shard_index.specs.Bits.{bit_of}
use Rattle.shard_index.proofs.BitLemmas.{bit-set}
use Rattle.shard_index.proofs.bits.set_bit.Goals as goal

pub returns-clause-bits : goal.returns-clause-bits
returns-clause-bits c = λ i.
    let items = c.args.bits.now.items in
    let at = c.args.place / 64 in
    let read : c.index_mut.result.now ≡ get_or items at 0 = get_or_read items at c.index_mut.result.now (omega (arith, c.requires)) c.index_mut.ensures.value 0 in
    ap (λ (n : ℕ). bit_of (set items at (bit_or n (1 * 2 ^ (c.args.place % 64) % 2 ^ 64))) i) read ∙ bit-set items c.args.place i c.requires
