use Rattle.std.proofs.Common.{[], ◌∷◌, ◌*◌, subst, sym, ◌∙◌}
use Rattle.tick_wheel.specs.Table.{Index, ListsIds}
use Rattle.tick_wheel.proofs.BookCalls.{listed, only_keys}
use Rattle.tick_wheel.proofs.book.Book.only.Goals as goal

pub returns : goal.returns
returns g c =
    subst (λ (index : Index g.row.T.Denot). ListsIds index c.args.slot (c.in_ok-key.key ∷ [])) c.self.view_is
    (listed c.self.inside.table c.self.inside.slots c.args.slot c.ids-ids.result.now c.self.invariant c.ids-ids.ensures.list c.ids-ids.ensures.short (c.in_ok-key.key ∷ [])
    (only_keys c.self.inside.table (c.args.slot * 18014398509481984) c.spot_of.result c.ids-ids.result.now c.in_ok-key.key c.spot_of.ensures.spot c.if-ids-ne1.false (sym c.key_at.ensures ∙ c.in_ok-key.was)))
