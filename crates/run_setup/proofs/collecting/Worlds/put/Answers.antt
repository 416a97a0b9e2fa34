use Rattle.std.proofs.Common.{◌+◌}
use Rattle.run_setup.proofs.RowLemmas.{ends-row}
use Rattle.run_setup.proofs.collecting.Worlds.put.Goals as goal

pub put_ends-requires : goal.put_ends-requires
put_ends-requires g c =
    let r = c.requires.back in
    (r.0.queues, 1, r.0.workers + 1, 0, r.1, r.2, ends-row 1 r.1 r.0.queues c.args.ends.posters.items r.3.posters)

pub returns-clause-columns : goal.returns-clause-columns
returns-clause-columns g c = λ ids number back ends.
    c.put_ends.ensures ids.queues 1 (ids.workers + 1) 0 number back (ends-row 1 number ids.queues c.args.ends.posters.items ends.posters)
