use Rattle.std.proofs.Common.{refl}
use Rattle.event_base.proofs.Calling.{reached_same, reached-join, makes_keep}
use Rattle.event_base.proofs.laws.calls_in_a_row.Goals as goal

pub returns : goal.returns
returns g c =
    let head = g.J.Headed.head in
    record {
      none = λ a. reached_same head a a refl;
      join = reached-join head;
      keep = λ a b reached. let kept = makes_keep head a reached.calls b reached.makes in (kept.0, kept.1);
    }
