use Rattle.std.proofs.Common.{◌∷◌, [], length, length-append, ap, arith, rules}
use Rattle.run_notes.proofs.Leading.{back_more, fewer_more, run_more, run_none}
use Rattle.run_notes.proofs.ending.run_back.Goals as goal

pub tasks-init : goal.tasks-init
tasks-init g c = record {
  run = run_none g.J.Headed.head g.J.Job.runs c.args.returned.now c.new-records.result c.args.world.now c.new-records.ensures;
  so_far = search rules;
  fewer = search rules;
  all = search rules;
}

pub tasks-preserved : goal.tasks-preserved
tasks-preserved g c =
    let i = c.tasks.invariant in
    let e = c.in-Some.ensures in
    let r = c.in-Some.record in
    record {
      run = run_more g.J.Headed.head g.J.Job.runs c.args.returned.now c.tasks.returned c.run_next.new.self c.tasks.records c.keep.new.records
          c.args.world.now c.tasks.world c.run_next.new.world e.0 r i.run e.1 e.2 e.3 c.keep.ensures.either;
      so_far = λ kept.
          let k = c.keep.ensures.kept kept in
          back_more g.J.Headed.head g.J.Job.runs c.args.returned.now c.tasks.returned c.run_next.new.self c.tasks.records c.keep.new.records
          c.args.world.now c.tasks.world c.run_next.new.world e.0 r (i.so_far k.0) e.1 e.2 e.3 k.1;
      fewer = fewer_more c.tasks.missed c.keep.new.missed c.tasks.records c.keep.new.records r (length c.tasks.returned) (length c.run_next.new.self) (length c.args.returned.now) i.fewer i.all
          (ap length e.1) c.keep.ensures.lost c.keep.ensures.either;
      all = λ kept.
          let k = c.keep.ensures.kept kept in
          omega (arith, i.all k.0, ap length k.1, length-append c.tasks.records (r ∷ []), ap length e.1);
    }
