use Rattle.std.proofs.Common.{◌∷◌, ◌++◌, [], ap, ◌∙◌, sym, subst}
use Rattle.query_model.specs.declared.line.Line.{Line}
use Rattle.std.specs.Prelude.{List}
use Rattle.line_table.specs.Rooms.{IsRoomFor}
use Rattle.line_table.specs.declared.table.LineTable.TheInside.{Inside}
use Rattle.line_table.specs.Tables.{lines_of}
use Rattle.line_table.proofs.TableLemmas.{IsStep, few-numbers, step-lines, step-table}
use Rattle.line_table.proofs.table.LineTable.with.Goals as goal

pub number-requires-clause-few : goal.number-requires-clause-few
number-requires-clause-few c =
    few-numbers c.self.inside c.args.line c.self.invariant (subst (λ (ls : List Line). IsRoomFor ls c.args.line) (sym c.self.view_is) c.requires.room)

pub invariant_of-result : goal.invariant_of-result
invariant_of-result c =
    let b : Inside = record { dictionary = c.number.new.dictionary; lines = c.push.new.items } in
    let room : IsRoomFor (lines_of c.self.inside) c.args.line = subst (λ (ls : List Line). IsRoomFor ls c.args.line) (sym c.self.view_is) c.requires.room in
    let step : IsStep c.self.inside b c.args.line c.in_ok-line.line = record {
      stay = c.numbers_stay.ensures.more;
      few = c.numbers_stay.ensures.few;
      knows = c.in_ok-line.ensures.knows;
      numbered = c.in_ok-line.ensures.numbered;
      pushed = c.in_ok-push.ensures;
    } in
    step-table c.self.inside b c.args.line c.in_ok-line.line c.self.invariant room step

pub returns : goal.returns
returns c =
    let b : Inside = record { dictionary = c.number.new.dictionary; lines = c.push.new.items } in
    let step : IsStep c.self.inside b c.args.line c.in_ok-line.line = record {
      stay = c.numbers_stay.ensures.more;
      few = c.numbers_stay.ensures.few;
      knows = c.in_ok-line.ensures.knows;
      numbered = c.in_ok-line.ensures.numbered;
      pushed = c.in_ok-push.ensures;
    } in
    step-lines c.self.inside b c.args.line c.in_ok-line.line c.self.invariant step ∙ ap (λ (ls : List Line). ls ++ c.args.line ∷ []) c.self.view_is
