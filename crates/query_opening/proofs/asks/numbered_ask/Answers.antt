use Rattle.std.proofs.Common.{ap}
use Rattle.query_model.specs.declared.line.Query.{Query}
use Rattle.query_opening.proofs.Begun.{Laws, line_is, ask_is, ask_at, there}
use Rattle.query_opening.proofs.asks.numbered_ask.Goals as goal

pub query_at-query-requires : goal.query_at-query-requires
query_at-query-requires g c =
    let asked = g.N.RunName.asked in
    let laws : Laws asked.lines = record {
      at = c.comings_in_order.ensures.at asked.lines;
      asked = c.comings_in_order.ensures.asked asked.lines;
      left = c.comings_in_order.ensures.left asked.lines;
      first = c.documents_before_are_the_first.ensures.first asked.lines;
      within = c.documents_before_are_the_first.ensures.within asked.lines;
    } in (
      c.requires.begun.query.query,
      there asked.lines c.args.lines.now c.args.line c.requires.begun.query.query c.requires.lines c.alike_lines_ask_the_same.ensures.at
          (line_is asked c.args.place c.args.number c.args.line c.args.documents c.requires.begun laws),
    )

pub new-requires : goal.new-requires
new-requires g c =
    let asked = g.N.RunName.asked in
    let laws : Laws asked.lines = record {
      at = c.comings_in_order.ensures.at asked.lines;
      asked = c.comings_in_order.ensures.asked asked.lines;
      left = c.comings_in_order.ensures.left asked.lines;
      first = c.documents_before_are_the_first.ensures.first asked.lines;
      within = c.documents_before_are_the_first.ensures.within asked.lines;
    } in
    let found = c.query_at-query.ensures c.requires.begun.query.query (there asked.lines c.args.lines.now c.args.line c.requires.begun.query.query c.requires.lines c.alike_lines_ask_the_same.ensures.at
    (line_is asked c.args.place c.args.number c.args.line c.args.documents c.requires.begun laws)) in
    ask_is asked c.args.place c.args.number c.args.line c.args.documents _ c.requires.begun laws (ap (λ (q : Query). q.ask) found)

pub returns : goal.returns
returns g c =
    let asked = g.N.RunName.asked in
    let laws : Laws asked.lines = record {
      at = c.comings_in_order.ensures.at asked.lines;
      asked = c.comings_in_order.ensures.asked asked.lines;
      left = c.comings_in_order.ensures.left asked.lines;
      first = c.documents_before_are_the_first.ensures.first asked.lines;
      within = c.documents_before_are_the_first.ensures.within asked.lines;
    } in
    let found = c.query_at-query.ensures c.requires.begun.query.query (there asked.lines c.args.lines.now c.args.line c.requires.begun.query.query c.requires.lines c.alike_lines_ask_the_same.ensures.at
    (line_is asked c.args.place c.args.number c.args.line c.args.documents c.requires.begun laws)) in
    ask_at asked c.args.place c.args.number c.args.line c.args.documents _ c.requires.begun laws (ap (λ (q : Query). q.ask) found) c.new.result c.new.ensures
