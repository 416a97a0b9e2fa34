use Rattle.std.proofs.Common.{ℕ, ◌+◌, ◌-◌, ◌%◌, ◌^◌, rules, sym, subst}
use mathlib.Core.Option.{none}
use Rattle.atomic_table.specs.Table.{Me, step, Allows}
use Rattle.keep_alive.specs.declared.view.View.{View}
use Rattle.keep_alive.specs.Rule.{CountHolds}
use Rattle.keep_alive.specs.Steps.{leaves, watches}
use Rattle.keep_alive.proofs.EachStep.{leaving, watching}
use Rattle.keep_alive.proofs.keep.KeepOwner.join.Goals as goal

pub fetch_sub-requires : goal.fetch_sub-requires
fetch_sub-requires g c =
    let id = c.self.inside.seat.id in
    let slots = c.deref.result.now.shared.table_id.slots in (
      search rules,
      search rules,
      subst (λ (me : Me ℕ View). Allows CountHolds slots id me 0 (λ x. (x + (2 ^ 64 - 1)) % 2 ^ 64) (leaves (step slots 0 1 0 none) me)) (sym c.self.invariant.2) (leaving slots id),
    )

pub load-found-requires : goal.load-found-requires
load-found-requires g c =
    let id = c.loop.seat.id in
    let slots = c.deref-in-loop.result.now.shared.table_id.slots in
    (search rules, search rules, subst (λ (me : Me ℕ View). Allows CountHolds slots id me 0 (λ x. x) (watches (step slots 0 0 0 none) me)) (sym c.loop.invariant.view) (watching slots id))
