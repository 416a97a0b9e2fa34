use Rattle.std.proofs.Common.{ℕ, ◌+◌, ◌-◌, ◌%◌, ◌^◌, rules, sym, subst}
use mathlib.Core.Option.{none}
use Rattle.atomic_table.specs.Table.{Me, step, Allows}
use Rattle.keep_alive.specs.declared.view.View.{View}
use Rattle.keep_alive.specs.Views.{whole_of}
use Rattle.keep_alive.specs.Rule.{CountHolds}
use Rattle.keep_alive.specs.Steps.{releases}
use Rattle.keep_alive.proofs.EachStep.{releasing}
use Rattle.keep_alive.proofs.keep.KeepAlive.release.Goals as goal

pub fetch_sub-found-requires : goal.fetch_sub-found-requires
fetch_sub-found-requires c =
    let id = c.self.inside.seat.id in
    let slots = c.deref.result.now.shared.table_id.slots in (
      search rules,
      search rules,
      subst (λ (me : Me ℕ View). Allows CountHolds slots id me 0 (λ x. (x + (2 ^ 64 - 1)) % 2 ^ 64) (releases (step slots 0 1 0 none) me)) (sym c.self.invariant.2) (releasing slots id c.self.inside.room (whole_of c.self.inside.seat.me.0)),
    )
