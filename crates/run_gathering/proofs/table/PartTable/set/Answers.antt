use Rattle.run_gathering.proofs.Rows.{set_row}
use Rattle.run_gathering.proofs.table.PartTable.set.Goals as goal

pub returns-clause-set : goal.returns-clause-set
returns-clause-set g c = set_row c.args.self.now c.self.inside.queries.items c.self.inside.bases c.self.inside.shards c.place_of-place.result c.args.number c.replace.new.dest c.args.awaited c.self.view_is c.place_of-place.ensures c.replace.ensures.after
