use Rattle.std.proofs.Common.{◌≡◌, ◌<◌, ℕ, List, [], Global, Vec, length, map, get_or, sym, ap, subst, ◌∙◌, arith}
use Rattle.std.proofs.lemmas.List.{get_or-map, get_or_read, length-map}
use Rattle.shard_index.specs.Bits.{AreBits}
use Rattle.shard_index.specs.Places.{has_word}
use Rattle.shard_index.proofs.frequent.Frequent.bits.Goals as goal

abbrev items : Vec ℕ Global → List ℕ
items bits = bits.items

pub returns-then-index-number : goal.returns-then-index-number
returns-then-index-number c = λ known docs word has is.
    let numbers = c.args.self.now.numbers.items in
    let rows = c.args.self.now.bits.items in
    let at = c.partition_point-at.result in
    let bits = c.index-then-index-number.result.now in
    let low : at < length numbers = omega (arith, c.if-at-len.true, c.len.ensures, c.args.self.now.numbers.ok) in
    let within : at < length rows = omega (arith, low, has.many, length-map rows items) in
    let same : get_or numbers at 0 ≡ c.args.number = sym (get_or_read numbers at c.index.result.now low c.index.ensures 0) ∙ c.if-index-number.true in
    let read : bits ≡ get_or rows at bits = get_or_read rows at bits within c.index-then-index-number.ensures bits in
    let row : get_or (map items rows) at [] ≡ c.as_slice.result.now = get_or-map items rows at bits [] within ∙ (ap items (sym read) ∙ sym c.as_slice.ensures.value) in
    subst (λ (bs : List ℕ). AreBits bs (has_word word) docs) row (has.each at word low (same ∙ is))
