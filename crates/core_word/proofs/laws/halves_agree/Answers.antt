use Rattle.std.proofs.Common.{ap, sym, ◌∙◌, refl, arith}
use Rattle.core_word.specs.Seen.{SeenLeftP, SeenLeftC}
use Rattle.core_word.specs.Plays.{Standing}
use Rattle.core_word.proofs.Agreeing.{left_view, halves_joined, joined_looks}
use Rattle.core_word.proofs.laws.halves_agree.Goals as goal

pub join_seat-requires : goal.join_seat-requires
join_seat-requires g c =
    let home = c.producer.invariant.0 in
    let same = ap (λ (h : SeenLeftC _ _ _). h.home) c.consumer.view_is ∙ (sym c.requires.0 ∙ sym (ap (λ (h : SeenLeftP _ _ _). h.home) c.producer.view_is)) in
    let one_use = ap (λ (h : SeenLeftP _ _ _). h.use_number) c.producer.view_is ∙ (c.requires.1 ∙ sym (ap (λ (h : SeenLeftC _ _ _). h.use_number) c.consumer.view_is)) in
    let sits = c.depart.ensures.2 in
    let is_v = ap (λ (m : Standing _ _ _). m.0) c.producer.invariant.2.stands in
    let left = left_view c.depart.ensures.0 _ _ _ _ (ap (λ (m : Standing _ _ _). m.0) c.consumer.invariant.1.stands) refl in
    let is_w = ap (λ (m : Standing _ _ _). m.0) sits.stands ∙ left in (
      c.producer.invariant.2.of_home,
      sits.of_home ∙ same,
      ap (λ (m : Standing _ _ _). m.1) sits.stands,
      omega (arith, home.words),
      halves_joined _ _ _ _ _ _ _ _ _ _ is_v is_w one_use _ _ c.depart.ensures.1,
    )

pub load-requires : goal.load-requires
load-requires g c =
    let home = c.producer.invariant.0 in
    let one_use = ap (λ (h : SeenLeftP _ _ _). h.use_number) c.producer.view_is ∙ (c.requires.1 ∙ sym (ap (λ (h : SeenLeftC _ _ _). h.use_number) c.consumer.view_is)) in
    let sits = c.depart.ensures.2 in
    let is_v = ap (λ (m : Standing _ _ _). m.0) c.producer.invariant.2.stands in
    let left = left_view c.depart.ensures.0 _ _ _ _ (ap (λ (m : Standing _ _ _). m.0) c.consumer.invariant.1.stands) refl in
    let is_w = ap (λ (m : Standing _ _ _). m.0) sits.stands ∙ left in (
      c.join_seat.ensures.0 ∙ c.producer.invariant.2.of_home,
      omega (arith, home.words),
      joined_looks _ _ _ _ _ _ _ _ _ _ is_v is_w one_use _ _ _ _ c.join_seat.ensures.2,
    )
