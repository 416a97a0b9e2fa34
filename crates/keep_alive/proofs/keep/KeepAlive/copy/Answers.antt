use Rattle.std.proofs.Common.{◌≡◌, ℕ, ◌+◌, ◌-◌, ◌%◌, ◌^◌, ◌<◌, [], rules, sym, ap, ◌∙◌, subst, eqb}
use mathlib.Core.Option.{none, some}
use prog.Atomic.{either}
use Rattle.atomic_table.specs.Table.{Me, step, Allows, Splits}
use Rattle.keep_alive.specs.declared.view.View.{View}
use Rattle.keep_alive.specs.declared.view.View.TheVariants.{Offering, Copying}
use Rattle.keep_alive.specs.Views.{whole_of}
use Rattle.keep_alive.specs.Rule.{CountHolds}
use Rattle.keep_alive.specs.Steps.{offered, copied, kept_part, given_part, offers, copies}
use Rattle.keep_alive.proofs.EachStep.{offering, copying, handing}
use Rattle.keep_alive.proofs.keep.KeepAlive.copy.Goals as goal

abbrev offer : ℕ → ℕ → ℕ → Me ℕ View
offer room given whole = (Offering (room - (given + 1)) given whole, [])

pub compare_exchange_with-requires : goal.compare_exchange_with-requires
compare_exchange_with-requires c =
    let id = c.self.inside.seat.id in
    let room = c.self.inside.room in
    let whole = whole_of c.self.inside.seat.me.0 in
    let below : c.args.room < room = subst (λ n. c.args.room < n) (ap (λ k. k.room) (sym c.self.view_is)) c.requires in (
      search rules,
      search rules,
      subst (λ (me : Me ℕ View). Allows CountHolds c.deref.result.now.shared.table_id.slots id me 0 (λ x. either (eqb x 0) 0 x) (offers (step c.deref.result.now.shared.table_id.slots 0 0 0 (some c.args.room)) me))
          (sym c.self.invariant.2)
          (offering c.deref.result.now.shared.table_id.slots id room whole c.args.room below),
    )

pub fetch_add-requires : goal.fetch_add-requires
fetch_add-requires c =
    let id = c.compare_exchange_with.new.seat.id in
    let room = c.self.inside.room in
    let whole = whole_of c.self.inside.seat.me.0 in
    let slots = c.deref.result.now.shared.table_id.slots in
    let was : c.compare_exchange_with.new.seat.me ≡ offer room c.args.room whole = c.compare_exchange_with.ensures.2 ∙ ap (λ (me : Me ℕ View). (offered c.args.room me.0, me.1)) c.self.invariant.2 in (
      search rules,
      search rules,
      subst (λ (me : Me ℕ View). Allows CountHolds slots id me 0 (λ x. (x + 1) % 2 ^ 64) (copies (step slots 0 1 0 none) me)) (sym was) (copying slots id (room - (c.args.room + 1)) c.args.room whole),
    )

pub split_seat-seat-requires : goal.split_seat-seat-requires
split_seat-seat-requires c =
    let id = c.fetch_add.new.seat.id in
    let room = c.self.inside.room in
    let whole = whole_of c.self.inside.seat.me.0 in
    let was : c.compare_exchange_with.new.seat.me ≡ offer room c.args.room whole = c.compare_exchange_with.ensures.2 ∙ ap (λ (me : Me ℕ View). (offered c.args.room me.0, me.1)) c.self.invariant.2 in
    let now : c.fetch_add.new.seat.me ≡ (Copying (room - (c.args.room + 1)) c.args.room whole, []) = c.fetch_add.ensures.2 ∙ ap (λ (me : Me ℕ View). (copied me.0, me.1)) was in (
      search rules,
      search rules,
      subst (λ (v : View). Splits CountHolds id v (kept_part v) (given_part v)) (sym (ap (λ (me : Me ℕ View). me.0) now)) (handing id (room - (c.args.room + 1)) c.args.room whole),
    )
