use Rattle.std.proofs.Common.{ℕ, ◌<◌, ◌+◌, ◌^◌, ◌∙◌, subst, arith}
use Rattle.semi_defer.proofs.Slots.{filled, has_job}
use Rattle.semi_defer.proofs.Acting.{chooses_allowed, took_allowed}
use Rattle.semi_defer.proofs.steps.choose.Goals as goal

pub swap-found-requires : goal.swap-found-requires
swap-found-requires g c =
    let home = c.requires.home in (
      c.requires.ready.of_home,
      omega (arith, home.words),
      chooses_allowed _ _ _ _ _ c.word.ensures.value (subst (λ (n : ℕ). n < 2 ^ 32 + 3) c.word.ensures.value c.word.ensures.small) c.requires.ready.stands,
    )

pub take_out-job-requires : goal.take_out-job-requires
take_out-job-requires g c =
    let got = (c.swap-found.ensures.2 c.args.chosen c.word.ensures.value).0 c.if-found-ne-HAS_FUNCTION.false in
    (c.swap-found.ensures.0 ∙ c.requires.ready.of_home, (got.0, has_job _ _ _ got.1))

pub load-requires : goal.load-requires
load-requires g c =
    let home = c.requires.home in
    let got = (c.swap-found.ensures.2 c.args.chosen c.word.ensures.value).0 c.if-found-ne-HAS_FUNCTION.false in (
      c.take_out-job.ensures.sits.of_home,
      omega (arith, home.words),
      took_allowed got.0 _ _ c.args.chosen _ (filled _ _ _ _ _ _ c.take_out-job.ensures.sits.stands got.1),
    )
