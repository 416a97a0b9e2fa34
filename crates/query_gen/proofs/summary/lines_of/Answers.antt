use Rattle.std.proofs.Common.{◌≡◌, ◌≤◌, ◌+◌, ◌-◌, ◌==◌, ◌∙◌, ℕ, List, Bool, ap, arith, cond, drop, length, sym, take}
use Rattle.std.specs.List.{count_by}
use Rattle.std.proofs.lemmas.List.{drop-drop, length-take}
use Rattle.std.proofs.lemmas.List.Sums.{count_by-le-length, sum_by-take-drop}
use Rattle.query_model.specs.Pieces.{line_feed}
use Rattle.query_gen.proofs.summary.lines_of.Goals as goal

-- what a part has, and what is behind it
part-and-rest : (p : ℕ → Bool) (xs : List ℕ) (at end : ℕ) → at ≤ end → count_by p (take (end - at) (drop at xs)) + count_by p (drop end xs) ≡ count_by p (drop at xs)
part-and-rest p xs at end order =
    let behind : drop (end - at) (drop at xs) ≡ drop end xs = drop-drop (end - at) at xs ∙ ap (λ n. drop n xs) (let e : at + (end - at) ≡ end = omega (arith, order) in e) in
    sym (ap (λ ys. count_by p (take (end - at) (drop at xs)) + count_by p ys) behind) ∙ sum_by-take-drop (λ x. cond (p x) 1 0) (drop at xs) (end - at)

pub parts-preserved : goal.parts-preserved
parts-preserved c =
    let p : ℕ → Bool = λ byte. byte == line_feed in
    let order : c.parts.at ≤ c.min-end.result = omega (arith, c.min-end.ensures, c.saturating_add.ensures, c.parts.invariant.within) in
    let within : c.min-end.result ≤ length c.args.bytes.now = omega (arith, c.min-end.ensures) in
    let part : List ℕ = take (c.min-end.result - c.parts.at) (drop c.parts.at c.args.bytes.now) in
    let both = part-and-rest p c.args.bytes.now c.parts.at c.min-end.result order in
    record {
      within = within;
      few = omega (arith, c.from-lines.ensures, c.lines_in.ensures, count_by-le-length p part, length-take (c.min-end.result - c.parts.at) (drop c.parts.at c.args.bytes.now), order, c.parts.invariant.few);
      so_far = omega (arith, c.from-lines.ensures, c.lines_in.ensures, both, c.parts.invariant.so_far);
    }
