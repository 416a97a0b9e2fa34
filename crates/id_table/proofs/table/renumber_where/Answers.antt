use Rattle.std.proofs.Common.{None, sym, ◌∙◌}
use Rattle.std.proofs.lemmas.List.{get_or_read}
use Rattle.id_table.proofs.Replaced.{written_there}
use Rattle.id_table.proofs.table.renumber_where.Goals as goal

pub returns-clause-set : goal.returns-clause-set
returns-clause-set g c = λ _ cell is.
    let read = get_or_read c.args.cells.now.items c.args.at c.index_mut.result.now c.requires.within c.index_mut.ensures.value None in
    written_there c.args.cells.now.items c.args.at c.args.number c.in-Some.cell cell (sym read ∙ c.in-Some.is) is
