use Rattle.std.proofs.Common.{refl}
use Rattle.std.proofs.lemmas.List.Elements.{recursion_from_All}
use Rattle.query_model.specs.Documents.{IsLine}
use Rattle.fan_model.specs.Comings.{come_in}
use Rattle.fan_model.proofs.ComingSteps.{answered_more, comes_first, comes_more, left_more_line}
use Rattle.fan_model.proofs.laws.comings_line_by_line.Goals as goal

pub returns : goal.returns
unfolding come_in
returns c =
    record {
      none = refl;
      comes = λ lines l is. comes_more lines l is;
      answered = λ lines l is. answered_more lines l is;
      left = λ lines l is. left_more_line lines l is;
      first = λ lines rest are. comes_first lines rest (recursion_from_All IsLine rest are);
    }
