use Rattle.std.proofs.Common.{sym, ◌∙◌, arith}
use Rattle.core_word.proofs.Agreeing.{firsts_exclude, never_looks}
use Rattle.core_word.proofs.laws.not_both_first.Goals as goal

pub join_seat-requires : goal.join_seat-requires
join_seat-requires g c =
    let first = c.into_seat-seat.ensures in
    let second = c.into_seat-other.ensures in
    let home = first.home.0 in (
      first.sits.0,
      second.sits.0 ∙ (second.home.1 ∙ (sym c.requires.0 ∙ sym first.home.1)),
      second.sits.1,
      omega (arith, home.words),
      firsts_exclude _ _ _ _ _ _ first.first second.first (first.sits.2 ∙ (c.requires.1 ∙ sym second.sits.2)),
    )

pub load-requires : goal.load-requires
load-requires g c =
    let first = c.into_seat-seat.ensures in
    let home = first.home.0 in (
      c.join_seat.ensures.0 ∙ first.sits.0,
      omega (arith, home.words),
      never_looks _ _ _ _ c.join_seat.ensures.2,
    )
