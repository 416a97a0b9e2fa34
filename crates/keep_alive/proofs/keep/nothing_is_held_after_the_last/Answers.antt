use Rattle.std.proofs.Common.{ℕ, rules, sym, ap, ◌∙◌, subst}
use Rattle.atomic_table.specs.Table.{Me, Allows, Joins}
use Rattle.keep_alive.specs.declared.view.View.{View}
use Rattle.keep_alive.specs.declared.view.View.TheVariants.{Released, Clash, Spent}
use Rattle.keep_alive.specs.Views.{whole_of}
use Rattle.keep_alive.specs.Rule.{CountHolds}
use Rattle.keep_alive.proofs.EachStep.{token_after_last, never}
use Rattle.keep_alive.proofs.keep.nothing_is_held_after_the_last.Goals as goal

pub join_seat-requires : goal.join_seat-requires
join_seat-requires c =
    let id = c.keep.inside.seat.id in
    let other = c.receipt.inside.seat.id in
    let one = ap (λ r. r.found) c.receipt.view_is in (
      search rules,
      search rules,
      search rules,
      search rules,
      subst (λ (v : View × View). Joins CountHolds id v.0 other v.1 Clash Spent)
          (λ i. (sym (ap (λ (me : Me ℕ View). me.0) c.keep.invariant.2) i, sym (ap (λ (me : Me ℕ View). me.0) c.receipt.invariant ∙ ap (λ (n : ℕ). Released n) (one ∙ c.requires.1)) i))
          (token_after_last id other c.keep.inside.room (whole_of c.keep.inside.seat.me.0)),
    )

pub load-requires : goal.load-requires
load-requires c =
    let id = c.join_seat.new.seat.id in
    let slots = c.deref-2.result.now.shared.table_id.slots in (
      search rules,
      search rules,
      subst (λ (me : Me ℕ View). Allows CountHolds slots id me 0 (λ x. x) (λ _ _. ⊥)) (sym (c.join_seat.ensures.2 ∙ ap (λ (l : _). (Clash, l)) (ap (λ (me : Me ℕ View). me.1) c.keep.invariant.2))) (never slots id),
    )
