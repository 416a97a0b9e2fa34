use Rattle.std.proofs.Common.{ap, sym, ◌∙◌, arith}
use Rattle.core_word.specs.Seen.{SeenLeftP, SeenHusk}
use Rattle.core_word.specs.Plays.{Standing}
use Rattle.core_word.proofs.Agreeing.{producer_beside_key, never_looks}
use Rattle.core_word.proofs.laws.no_producer_beside_husk.Goals as goal

pub join_seat-requires : goal.join_seat-requires
join_seat-requires g c =
    let home = c.producer.invariant.0 in
    let same = ap (λ (h : SeenHusk _ _ _). h.home) c.husk.view_is ∙ (sym c.requires ∙ sym (ap (λ (h : SeenLeftP _ _ _). h.home) c.producer.view_is)) in
    let sits = c.reopen.ensures in
    let is_v = ap (λ (m : Standing _ _ _). m.0) c.producer.invariant.2.stands in
    let is_w = ap (λ (m : Standing _ _ _). m.0) sits.stands in (
      c.producer.invariant.2.of_home,
      sits.of_home ∙ same,
      ap (λ (m : Standing _ _ _). m.1) sits.stands,
      omega (arith, home.words),
      producer_beside_key _ _ _ _ _ _ _ _ _ is_v is_w,
    )

pub load-requires : goal.load-requires
load-requires g c =
    let home = c.producer.invariant.0 in (
      c.join_seat.ensures.0 ∙ c.producer.invariant.2.of_home,
      omega (arith, home.words),
      never_looks _ _ _ _ c.join_seat.ensures.2,
    )
