use Rattle.std.proofs.Common.{[], ◌*◌, ap, subst, sym}
use Rattle.std.proofs.lemmas.List.{nil_from_length}
use Rattle.tick_wheel.specs.Book.{keys_from}
use Rattle.tick_wheel.specs.Table.{Index, ListsIds}
use Rattle.tick_wheel.proofs.BookCalls.{equal_zero, listed}
use Rattle.tick_wheel.proofs.book.Book.is_left.Goals as goal

pub returns : goal.returns
returns g c = λ empty.
    subst (λ (index : Index g.row.T.Denot). ListsIds index c.args.slot []) c.self.view_is
    (listed c.self.inside.table c.self.inside.slots c.args.slot c.ids-ids.result.now c.self.invariant c.ids-ids.ensures.list c.ids-ids.ensures.short []
    (sym (ap (keys_from c.self.inside.table (c.args.slot * 18014398509481984)) (nil_from_length c.ids-ids.result.now (equal_zero _ empty)))))
