use Rattle.std.proofs.Common.{◌≡◌, ◌<◌, length, length-append, sym, ap, subst, arith, get_or, [], ◌∷◌}
use Rattle.std.proofs.lemmas.List.{length-set}
use Rattle.run_bases.specs.Columns.{IsEndOf, exec_at}
use Rattle.run_bases.proofs.Rowing.{end_at, pick, put_all, put_more, put_none}
use Rattle.run_bases.proofs.rows.put_row.Goals as goal

pub loop-end-init : goal.loop-end-init
loop-end-init g c =
    let r = c.requires.back in
    record {
      within = omega (arith, r.5.as_many, r.6.as_many);
      so_far = λ queues first senders left low are ends. put_none g.J.Headed.head queues first senders left low c.args.columns.now c.args.row.items are ends;
    }

pub put_one-requires : goal.put_one-requires
put_one-requires g c =
    let r = c.requires.back in
    let t = c.loop-end.invariant.so_far r.0 r.1 r.2 r.3 r.4 r.5 r.6 in
    let less : c.len-place.result < length c.loop-end.row.items = omega (arith, c.len-place.ensures, ap length c.in-Some.ensures.items, length-append c.pop.new.self.items (c.in-Some.end ∷ [])) in
    let below : c.len-place.result < length r.0 = omega (arith, less, t.within) in
    let q = pick r.0 c.len-place.result below in
    record { back = (get_or r.0 c.len-place.result q, _, r.2, r.3, r.4, t.rest c.len-place.result c.index-columns-place.result q less) }

pub loop-end-preserved : goal.loop-end-preserved
loop-end-preserved g c =
    let place = c.len-place.result in
    let is = c.in-Some.ensures.items in
    let place_is : place ≡ length c.pop.new.self.items = omega (arith, c.len-place.ensures, c.pop.new.self.ok.0) in
    let less : place < length c.loop-end.row.items = omega (arith, c.len-place.ensures, ap length is, length-append c.pop.new.self.items (c.in-Some.end ∷ [])) in
    record {
      within = omega (arith, c.loop-end.invariant.within, length-set c.loop-end.columns place c.put_one.new.column, ap length is, length-append c.pop.new.self.items (c.in-Some.end ∷ []));
      so_far = λ queues first senders left low are ends.
          let t = c.loop-end.invariant.so_far queues first senders left low are ends in
          put_more g.J.Headed.head queues first senders left low place c.loop-end.columns c.loop-end.row.items c.pop.new.self.items c.in-Some.end c.put_one.new.column t is place_is
          (λ q. c.put_one.ensures _ _ _ _ _ (t.rest place c.index-columns-place.result q less)
          (subst (λ n. IsEndOf g.J.Headed.head (get_or queues n q) low (exec_at first n) c.in-Some.end) (sym place_is)
          (end_at g.J.Headed.head queues first senders left low c.loop-end.columns c.loop-end.row.items c.pop.new.self.items c.in-Some.end q t is)));
    }

pub returns : goal.returns
returns g c = λ queues first senders left low are ends.
    let t = c.loop-end.invariant.so_far queues first senders left low are ends in
    put_all g.J.Headed.head queues first senders left low c.loop-end.columns c.loop-end.row.items t (omega (arith, c.in_default.ensures.cases))
