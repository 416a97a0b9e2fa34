use Rattle.std.proofs.Common.{ℕ, rules, sym, ap, subst, arith}
use Rattle.atomic_table.specs.Table.{Me, Splits}
use Rattle.keep_alive.specs.declared.view.View.{View}
use Rattle.keep_alive.specs.Rule.{CountHolds}
use Rattle.keep_alive.specs.Steps.{kept_part, given_part}
use Rattle.keep_alive.proofs.EachStep.{begins, making}
use Rattle.keep_alive.proofs.keep.KeepOwner.new.Goals as goal

pub of_words-requires : goal.of_words-requires
of_words-requires c = begins _ (omega arith)

pub split_seat-token-requires : goal.split_seat-token-requires
split_seat-token-requires c =
    let id = c.in_ok-table.seat.id in
    (search rules, search rules, subst (λ (v : View). Splits CountHolds id v (kept_part v) (given_part v)) (sym (ap (λ (me : Me ℕ View). me.0) c.in_ok-table.ensures.4)) (making id _))
