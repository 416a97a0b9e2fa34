-- A desk of two outcomes, the later of which completed it.
use Rattle.std.proofs.Common.{◌≡◌, ℕ, List, [], ◌∷◌, length, ap, sym, ◌∙◌}
use Rattle.std.specs.Prelude.{Some}
use Rattle.std.specs.List.{slice_get}
use Rattle.collect_ops.specs.Answers.{Gathered, KeptBy}
use Rattle.collect_ops.specs.Seen.{ArrivalSeen, CompletedSeen, ReceiptSeen}
use Rattle.runtime_examples.proofs.Lists.{two_listed}

-- the list has both outcomes, by index
pub both_listed : {X E : Type 0} (zero one : ArrivalSeen E) (a b : X) (list : List X) (end : E) (done : CompletedSeen X E) (receipt : ReceiptSeen X E)
    → zero.index ≡ 0 → one.index ≡ 1 → zero.desk.size ≡ 2 → Gathered zero a list end done → KeptBy one b receipt
    → slice_get done.list receipt.index ≡ receipt.outcome → list ≡ a ∷ b ∷ []
both_listed {X} {E} zero one a b list end done receipt zero_is one_is two whole kept listed =
    let long : length list ≡ 2 = whole.long ∙ two in
    let first : slice_get list 0 ≡ Some a = ap (λ (n : ℕ). slice_get list n) (sym zero_is) ∙ whole.own in
    let index : receipt.index ≡ 1 = ap (λ (r : ReceiptSeen X E). r.index) kept.is ∙ one_is in
    let outcome : receipt.outcome ≡ Some b = ap (λ (r : ReceiptSeen X E). r.outcome) kept.is in
    let same : done.list ≡ list = ap (λ (d : CompletedSeen X E). d.list) whole.receipt in
    let second : slice_get list 1 ≡ Some b =
    ap (λ (l : List X). slice_get l 1) (sym same) ∙ (ap (λ (n : ℕ). slice_get done.list n) (sym index) ∙ (listed ∙ outcome)) in
    two_listed list a b long first second
