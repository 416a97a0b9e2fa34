use Rattle.std.proofs.Common.{◌≡◌, ◌+◌, ◌<◌, ℕ, suc, List, [], ◌∷◌, ◌++◌, length, length-append, get_or, map, sym, ap, ◌∙◌, subst, arith}
use Rattle.std.proofs.lemmas.List.{get_or-map, length-set, map-append}
use Rattle.notify_queue.specs.Ends.{QueueId, Sending}
use Rattle.fan_parts.specs.Seen.{PosterSeen}
use Rattle.run_bases.specs.declared.rows.Column.{Column}
use Rattle.run_bases.specs.Columns.{IsColumn, exec_at}
use Rattle.run_bases.proofs.Rowing.{pick, taken_all, taken_more, taken_none}
use Rattle.run_setup.proofs.Each.{EachFrom, each_none, each_push}
use Rattle.run_setup.proofs.RowLemmas.{row-told, told-new}
use Rattle.run_setup.proofs.dealing.deal_row.Goals as goal

abbrev sender_of : {J : Type 0} → PosterSeen J → Sending J
sender_of p = p.sender

abbrev HasExec : {J : Type 0} → ℕ → PosterSeen J → Type 0
HasExec k p = p.exec ≡ exec_at 1 k

pub loop-place-init : goal.loop-place-init
loop-place-init g c = record {
  room = c.requires.room;
  few = c.requires.few;
  many = ap length c.requires.row;
  execs = each_none HasExec 0 c.args.row.now.items (ap length c.requires.row);
  so_far = λ queues senders left low are. taken_none g.J.Headed.head queues 1 senders left low c.args.columns.now.items (map sender_of c.args.row.now.items) are (ap (map sender_of) c.requires.row);
}

pub take_one-poster-requires : goal.take_one-poster-requires
take_one-poster-requires g c =
    let r = c.requires.left in
    let t = c.loop-place.invariant.so_far r.0 r.1 r.2 r.3 r.4 in
    let below : c.loop-place.place < length r.0 = omega (arith, c.loop-place-test.true, c.len-place-end.ensures, c.args.columns.now.ok.0, r.4.as_many) in
    let q = pick r.0 c.loop-place.place below in
    record {
      left = (
        get_or r.0 c.loop-place.place q,
        _,
        r.1,
        r.2,
        r.3,
        subst (λ (x : Column g.row.J.Denot). IsColumn g.J.Headed.head (get_or r.0 c.loop-place.place q) (exec_at 1 c.loop-place.place) r.1 (suc r.2) r.3 x)
            (sym c.index_mut.ensures.value) (t.rest c.loop-place.place c.index_mut.result.now q (omega arith) below),
      );
    }

pub new-requires : goal.new-requires
new-requires g c =
    let r = c.requires.left in
    let t = c.loop-place.invariant.so_far r.0 r.1 r.2 r.3 r.4 in
    let below : c.loop-place.place < length r.0 = omega (arith, c.loop-place-test.true, c.len-place-end.ensures, c.args.columns.now.ok.0, r.4.as_many) in
    let q = pick r.0 c.loop-place.place below in
    ap (λ (s : Sending g.row.J.Denot). s.sent) (c.take_one-poster.ensures.poster (get_or r.0 c.loop-place.place q) (exec_at 1 c.loop-place.place) r.1 r.2 r.3
    (subst (λ (x : Column g.row.J.Denot). IsColumn g.J.Headed.head (get_or r.0 c.loop-place.place q) (exec_at 1 c.loop-place.place) r.1 (suc r.2) r.3 x)
    (sym c.index_mut.ensures.value) (t.rest c.loop-place.place c.index_mut.result.now q (omega arith) below)))

pub loop-place-preserved : goal.loop-place-preserved
loop-place-preserved g c =
    let i = c.loop-place.invariant in
    let place = c.loop-place.place in
    let row = c.loop-place.row.items in
    let poster = c.new.result in
    record {
      room = omega (arith, length-set c.loop-place.columns.items place c.take_one-poster.new.column, i.room, c.push_reserved.ensures.capacity);
      few = omega (arith, length-set c.loop-place.columns.items place c.take_one-poster.new.column, i.few);
      many = omega (arith, ap length c.push_reserved.ensures.items, length-append row (poster ∷ []), i.many);
      execs = subst (λ (l : List (PosterSeen g.row.J.Denot)). EachFrom HasExec 0 l) (sym c.push_reserved.ensures.items)
          (each_push HasExec row poster i.execs (subst (λ (n : ℕ). poster.exec ≡ exec_at 1 n) (sym i.many) (ap (λ (p : PosterSeen g.row.J.Denot). p.exec) c.new.ensures)));
      so_far = λ queues senders left low are.
          let t = i.so_far queues senders left low are in
          let below : place < length queues = omega (arith, c.loop-place-test.true, c.len-place-end.ensures, c.args.columns.now.ok.0, are.as_many) in
          let here : (q : QueueId) → IsColumn g.J.Headed.head (get_or queues place q) (exec_at 1 place) senders (suc left) low c.index_mut.result.now = λ q. subst
          (λ (x : Column g.row.J.Denot). IsColumn g.J.Headed.head (get_or queues place q) (exec_at 1 place) senders (suc left) low x)
          (sym c.index_mut.ensures.value) (t.rest place c.index_mut.result.now q (omega arith) below) in
          taken_more g.J.Headed.head queues 1 senders left low place c.loop-place.columns.items (map sender_of row) (map sender_of c.push_reserved.new.self.items) c.take_one-poster.new.column c.take_one-poster.result t below
          (ap (map sender_of) c.push_reserved.ensures.items ∙ (map-append sender_of row (poster ∷ []) ∙ ap (λ (p : PosterSeen g.row.J.Denot). map sender_of row ++ p.sender ∷ []) c.new.ensures))
          (λ q. c.take_one-poster.ensures.poster (get_or queues place q) (exec_at 1 place) senders left low (here q))
          (λ q. c.take_one-poster.ensures.column (get_or queues place q) (exec_at 1 place) senders left low (here q));
    }

pub returns-clause-row : goal.returns-clause-row
returns-clause-row g c = λ queues senders left low are.
    let i = c.loop-place.invariant in
    let row = c.loop-place.row.items in
    let t = i.so_far queues senders left low are in
    let long : length row ≡ length queues = omega (arith, i.many, c.loop-place-test.false, c.loop-place.auto.place-end, c.len-place-end.ensures, c.args.columns.now.ok.0, are.as_many) in
    row-told 1 left queues row long
    (λ k d q below. told-new (get_or row k d) (get_or queues k q) left (1 + k)
    (sym (get_or-map sender_of row k d d.sender (omega (arith, below, long))) ∙ t.row_is k d.sender q (omega (arith, below, long, i.many)))
    (i.execs.each k k d (omega (arith, below, long)) (omega arith)))

pub returns-clause-columns : goal.returns-clause-columns
returns-clause-columns g c = λ queues senders left low are.
    let i = c.loop-place.invariant in
    let t = i.so_far queues senders left low are in
    (taken_all g.J.Headed.head queues 1 senders left low c.loop-place.place c.loop-place.columns.items (map sender_of c.loop-place.row.items) t
    (omega (arith, c.loop-place-test.false, c.len-place-end.ensures, c.args.columns.now.ok.0, are.as_many))
    (omega (arith, c.loop-place.auto.place-end, c.len-place-end.ensures, c.args.columns.now.ok.0, are.as_many))).1
