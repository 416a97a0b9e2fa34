use Rattle.std.proofs.Common.{◌≡◌, Some, sym, ap, ◌∙◌}
use Rattle.std.specs.Prelude.{slice_get}
use Rattle.query_model.specs.declared.line.Line.{Line}
use Rattle.query_model.specs.declared.line.Line.TheVariants as line
use Rattle.front_walk.proofs.Cutting.{came_none}
use Rattle.front_walk.proofs.front.step.Goals as goal

pub returns-in-Some-Doc-clause-ok : goal.returns-in-Some-Doc-clause-ok
returns-in-Some-Doc-clause-ok g c =
    let doc = c.in-Some-Doc.field-0-0 in
    let is : slice_get c.args.lines.now c.args.i ≡ Some (line.Doc doc) = sym c.in-Some-Doc.ensures ∙ ap (λ (l : Line). Some l) c.in-Some-Doc.field-0-is in
    record {
      l = line.Doc doc;
      is = is;
      steps = record {
        follows = c.document.ensures.follows doc is;
        came = came_none g.H.AtTurn.does c.args.state.now.place c.args.hook.now;
      };
    }
