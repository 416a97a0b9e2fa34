use Rattle.std.proofs.Common.{◌≡◌, ◌<◌, [], ◌∷◌, ◌++◌, length, set, ap, sym, subst, ◌∙◌, arith}
use Rattle.std.specs.List.{All}
use Rattle.std.proofs.lemmas.List.{set-get_or}
use Rattle.std.proofs.lemmas.Option.{get_or_from_slice_get, slice_get_within}
use Rattle.pool_model.specs.declared.task.Entry.{Entry}
use Rattle.task_queue.specs.Seen.{AdderSeen}
use Rattle.prio_pool.specs.Adders.{entry_of}
use Rattle.pool_runs.proofs.Results.{on_ok, if_err}
use Rattle.prio_pool.proofs.adders.push_at.Goals as goal

pub index_mut-requires : goal.index_mut-requires
index_mut-requires g c = omega (arith, slice_get_within c.args.adders.now.items c.args.number c.requires.may.adder c.requires.may.at)

pub push-requires : goal.push-requires
push-requires g c =
    let m = c.requires.may in
    let a : AdderSeen = c.index_mut.result.now in
    let is : a ≡ m.adder = c.index_mut.ensures.value ∙ get_or_from_slice_get c.args.adders.now.items c.args.number m.adder a m.at in
    record {
      queue = ap (λ (x : AdderSeen). x.queue) is ∙ m.of_queue;
      number = m.own ∙ ap (λ (x : AdderSeen). x.number) (sym is);
      ascends = subst (λ (x : AdderSeen). All (λ (e : Entry). e.ticket.index < c.args.task.ticket.index) x.pushed) (sym is) m.above;
      room = subst (λ (x : AdderSeen). length x.pushed < 4294967296) (sym is) m.room;
    }

pub returns-clause-ok : goal.returns-clause-ok
returns-clause-ok g c =
    let m = c.requires.may in
    let a : AdderSeen = c.index_mut.result.now in
    let n = c.args.number in
    let e : Entry = entry_of g.J.Headed.head c.args.task in
    let is : a ≡ m.adder = c.index_mut.ensures.value ∙ get_or_from_slice_get c.args.adders.now.items n m.adder a m.at in
    on_ok c.push.result
    (λ p. record {
      adder = m.adder;
      at = m.at;
      new_is = ap (set c.args.adders.now.items n) (p ∙ ap (λ (x : AdderSeen). record { queue = x.queue; passes = x.passes; number = x.number; pushed = x.pushed ++ e ∷ [] }) is);
    })
    c.push.ensures.ok

pub returns-clause-refused : goal.returns-clause-refused
returns-clause-refused g c =
    let xs = c.args.adders.now.items in
    let n = c.args.number in
    let a : AdderSeen = c.index_mut.result.now in
    if_err c.push.result
    (λ back both. (both.0, ap (set xs n) (both.1 ∙ c.index_mut.ensures.value) ∙ set-get_or xs n a))
    c.push.ensures.refused
