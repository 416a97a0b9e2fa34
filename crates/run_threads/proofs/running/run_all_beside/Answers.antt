use Rattle.std.proofs.Common.{◌≡◌, refl, sym, subst}
use Rattle.std.proofs.lemmas.Option.{same_Some}
use Rattle.run_threads.specs.Beside.{HasRunAll}
use Rattle.run_threads.specs.Slots.{HasWorked}
use Rattle.run_threads.specs.declared.running.PoolSide.{PoolSide}
use Rattle.run_threads.proofs.running.run_all_beside.Goals as goal

pub print_beside-requires-clause-front : goal.print_beside-requires-clause-front
print_beside-requires-clause-front g c κs within =
    record { side = record { pool = c.args.pool; workers = c.args.workers }; holds = refl; workers = c.requires.workers; may = c.requires.front }

pub returns-clause-front : goal.returns-clause-front
returns-clause-front g c =
    let side : PoolSide g.row.J.Denot g.row.W.Denot = record { pool = c.args.pool; workers = c.args.workers } in
    let did = c.print_beside.ensures.front in
    let same : did.side ≡ side = same_Some did.side side (sym did.held_it) in
    subst (λ (s : PoolSide g.row.J.Denot g.row.W.Denot). HasRunAll g.F.PoolFront.begun g.F.PoolFront.ended (HasWorked g.J.Job.runs) c.args.front.now s.pool s.workers.items c.print_beside.new.front) same did.ran
