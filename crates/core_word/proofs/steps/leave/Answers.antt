use Rattle.std.proofs.Common.{arith}
use Rattle.core_word.proofs.Leaving.{half_leaves}
use Rattle.core_word.proofs.steps.leave.Goals as goal

pub fetch_sub-requires : goal.fetch_sub-requires
fetch_sub-requires g c =
    let home = c.requires.home in (
      c.requires.leaving.0,
      omega (arith, home.words),
      half_leaves _ _ _ c.requires.leaving.1,
    )
