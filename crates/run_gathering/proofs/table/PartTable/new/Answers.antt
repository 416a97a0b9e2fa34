use Rattle.run_gathering.proofs.Rows.{none_awaited}
use Rattle.run_gathering.proofs.table.PartTable.new.Goals as goal

pub returns-clause-nothing : goal.returns-clause-nothing
returns-clause-nothing g c = none_awaited c.args.shards c.making.queries.items c.making.invariant.0
