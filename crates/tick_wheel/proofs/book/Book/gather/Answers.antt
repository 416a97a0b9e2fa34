use Rattle.std.proofs.Common.{ℕ, rules, subst}
use Rattle.std.proofs.lemmas.List.Sorted.{IsNonDecreasingBy-from_sort_by_key}
use Rattle.tick_wheel.specs.Table.{Index, ListsIds}
use Rattle.tick_wheel.proofs.BookCalls.{listed, listed_permuted}
use Rattle.tick_wheel.proofs.book.Book.gather.Goals as goal

pub returns-clause-rises : goal.returns-clause-rises
returns-clause-rises g c =
    IsNonDecreasingBy-from_sort_by_key (λ (k : ℕ × ℕ). k.0) _ c.sort_unstable_by_key.ensures.sorted (λ a r q k. search rules)

pub returns-clause-lists : goal.returns-clause-lists
returns-clause-lists g c =
    subst (λ (index : Index g.row.T.Denot). ListsIds index c.args.slot c.sort_unstable_by_key.new.self.items) c.self.view_is
    (listed_permuted c.self.inside.table c.args.slot c.in_ok-found.found.items c.sort_unstable_by_key.new.self.items
    (listed c.self.inside.table c.self.inside.slots c.args.slot c.ids.result.now c.self.invariant c.ids.ensures.list c.ids.ensures.short c.in_ok-found.found.items c.in_ok-found.ensures)
    c.sort_unstable_by_key.ensures.permutation)
