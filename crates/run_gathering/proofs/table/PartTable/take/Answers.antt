use Rattle.std.proofs.Common.{◌≡◌, ◌<◌, get_or, length, sym, subst, arith}
use Rattle.run_gathering.specs.Awaited.{IsOfQuery}
use Rattle.run_gathering.proofs.Rows.{same_read, taken_row}
use Rattle.run_gathering.proofs.table.PartTable.take.Goals as goal

pub returns : goal.returns
returns g c =
    let items = c.self.inside.queries.items in
    let place = c.place_of-place.result in
    let within : place < length items = omega (arith, c.if-place-len.false, c.len.ensures) in
    let here : c.replace.result ≡ get_or items place c.replace.result = subst (λ x. x ≡ get_or items place x) (sym c.replace.ensures.value) c.index_mut.ensures.value in
    taken_row c.args.self.now items c.self.inside.bases c.self.inside.shards place c.args.number c.replace.result c.replace.new.dest c.self.view_is c.self.invariant.4 c.place_of-place.ensures within here
    (subst (λ x. IsOfQuery c.args.number x) (same_read items place c.index.result.now c.replace.result within c.index.ensures here) c.if-not-is_of.ensures.holds) c.replace.ensures.after
