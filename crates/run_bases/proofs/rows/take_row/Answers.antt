use Rattle.std.proofs.Common.{◌<◌, length, length-append, ap, arith, get_or, [], ◌∷◌}
use Rattle.std.proofs.lemmas.List.{length-set}
use Rattle.run_bases.proofs.Rowing.{pick, taken_all, taken_more, taken_none}
use Rattle.run_bases.proofs.rows.take_row.Goals as goal

pub loop-place-init : goal.loop-place-init
loop-place-init g c = record {
  room = c.requires.room;
  many = ap length c.requires.row;
  so_far = λ queues first senders left low are. taken_none g.J.Headed.head queues first senders left low c.args.columns.now c.args.row.now.items are c.requires.row;
}

pub take_one-requires : goal.take_one-requires
take_one-requires g c =
    let r = c.requires.left in
    let t = c.loop-place.invariant.so_far r.0 r.1 r.2 r.3 r.4 r.5 in
    let below : c.loop-place.place < length r.0 = omega (arith, c.loop-place-test.true, t.as_many) in
    let q = pick r.0 c.loop-place.place below in
    record { left = (get_or r.0 c.loop-place.place q, _, r.2, r.3, r.4, t.rest c.loop-place.place c.index-columns-place.result q (omega arith) below) }

pub loop-place-preserved : goal.loop-place-preserved
loop-place-preserved g c =
    let i = c.loop-place.invariant in
    record {
      room = omega (arith, length-set c.loop-place.columns c.loop-place.place c.take_one.new.column, i.room, c.push_reserved.ensures.capacity);
      many = omega (arith, ap length c.push_reserved.ensures.items, length-append c.loop-place.row.items (c.take_one.result ∷ []), i.many);
      so_far = λ queues first senders left low are.
          let t = i.so_far queues first senders left low are in
          let below : c.loop-place.place < length queues = omega (arith, c.loop-place-test.true, t.as_many) in
          taken_more g.J.Headed.head queues first senders left low c.loop-place.place c.loop-place.columns c.loop-place.row.items c.push_reserved.new.self.items c.take_one.new.column c.take_one.result
          t below c.push_reserved.ensures.items
          (λ q. c.take_one.ensures.poster _ _ _ _ _ (t.rest c.loop-place.place c.index-columns-place.result q (omega arith) below))
          (λ q. c.take_one.ensures.column _ _ _ _ _ (t.rest c.loop-place.place c.index-columns-place.result q (omega arith) below));
    }

pub returns-clause-row : goal.returns-clause-row
returns-clause-row g c = λ queues first senders left low are.
    let t = c.loop-place.invariant.so_far queues first senders left low are in
    (taken_all g.J.Headed.head queues first senders left low c.loop-place.place c.loop-place.columns c.loop-place.row.items t (omega (arith, c.loop-place-test.false, t.as_many)) (omega (arith, c.loop-place.auto.place-end, are.as_many))).0

pub returns-clause-columns : goal.returns-clause-columns
returns-clause-columns g c = λ queues first senders left low are.
    let t = c.loop-place.invariant.so_far queues first senders left low are in
    (taken_all g.J.Headed.head queues first senders left low c.loop-place.place c.loop-place.columns c.loop-place.row.items t (omega (arith, c.loop-place-test.false, t.as_many)) (omega (arith, c.loop-place.auto.place-end, are.as_many))).1
