use Rattle.std.proofs.Common.{◌≡◌, ◌++◌, ◌∷◌, ℕ, List, [], Global, Vec, map, sym, ap, subst, ◌∙◌, arith}
use Rattle.std.proofs.lemmas.List.{map-append}
use Rattle.shard_index.specs.Bits.{StandBeside}
use Rattle.shard_index.specs.Places.{has_word}
use Rattle.shard_index.proofs.BitLemmas.{beside-more, places-low, places-of-word}
use Rattle.shard_index.proofs.frequent.Frequent.of.Goals as goal
use Rattle.shard_index.proofs.frequent.Frequent.of.Goals.{then-places-least+then-number-words+in_ok-beside+in_ok-push+in_ok-push-2, else-places-least}

abbrev items : Vec ℕ Global → List ℕ
items bits = bits.items

pub bits_at-requires : goal.bits_at-requires
bits_at-requires c = λ k d within.
    let low = places-low c.args.sorted.now c.requires.0 c.requires.1 c.at-number.result.0 c.at-number.result.1.now c.requires.4 (omega (arith, c.if-number-words.true, c.requires.2)) c.at-number.ensures.places k d within in
    omega (arith, low, c.requires.3)

pub loop-at-preserved : goal.loop-at-preserved
loop-at-preserved c = λ known docs many for.
    let before = c.loop-at.invariant known docs many for in
    let number = c.at-number.result.0 in
    let places = c.at-number.result.1.now in
    elim c.if-places-least.branch [
      | then-places-least+then-number-words+in_ok-beside+in_ok-push+in_ok-push-2 w ↦
          let one = w.in_ok-beside.beside in
          let pushed : c.if-places-least.numbers.items ≡ c.loop-at.numbers.items ++ number ∷ [] = (λ k. (w.numbers-is k).items) ∙ w.in_ok-push.ensures.items in
          let put : c.if-places-least.bits.items ≡ c.loop-at.bits.items ++ one ∷ [] = (λ k. (w.bits-is k).items) ∙ w.in_ok-push-2.ensures.items in
          beside-more c.loop-at.numbers.items (map items c.loop-at.bits.items) c.if-places-least.numbers.items (map items c.if-places-least.bits.items) number one.items known docs pushed
          (ap (λ (bs : List (Vec ℕ Global)). map items bs) put ∙ map-append items c.loop-at.bits.items (one ∷ []))
          (λ word is. w.in_ok-beside.ensures (has_word word) docs many (places-of-word c.args.sorted.now known docs number word places for is c.at-number.ensures.places)) before
      | else-places-least w ↦
          let numbers : c.if-places-least.numbers.items ≡ c.loop-at.numbers.items = λ k. (w.numbers-is k).items in
          let rows : map items c.if-places-least.bits.items ≡ map items c.loop-at.bits.items = λ k. map items (w.bits-is k).items in
          subst (λ (ns : List ℕ). StandBeside ns (map items c.if-places-least.bits.items) known docs) (sym numbers)
          (subst (λ (bs : List (List ℕ)). StandBeside c.loop-at.numbers.items bs known docs) (sym rows) before)
    ]
