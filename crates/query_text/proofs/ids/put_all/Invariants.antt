use Rattle.std.proofs.Common.{◌≡◌, ℕ, ◌||◌, eqb, take}
use Rattle.std.specs.List.{list_any}
use Rattle.std.specs.Ordering.{nat_cmp}
use Rattle.std.specs.BTreeSet.{contains}
use Rattle.query_text.proofs.ids.put_all.Given as goal

abbrev pub invariant-loop-id : goal.invariant-loop-id
invariant-loop-id l = (id : ℕ) → contains nat_cmp l.set id ≡ (contains nat_cmp l.initial.set id || list_any (λ known. eqb known id) (take l.id-index l.ids))
