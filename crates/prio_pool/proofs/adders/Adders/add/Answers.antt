use Rattle.std.proofs.Common.{◌≡◌, ℕ, ◌+◌, ◌<◌, [], ◌∷◌, ◌++◌, length, map, set, ap, sym, refl, subst, ◌∙◌, arith}
use Rattle.std.specs.Prelude.{slice_index_or}
use Rattle.std.proofs.lemmas.List.{length-map}
use Rattle.pool_model.specs.declared.task.Entry.{Entry}
use Rattle.pool_model.specs.declared.task.Ticket.{Ticket}
use Rattle.pool_model.specs.Passes.{adds_of}
use Rattle.pool_model.specs.Seen.{PassSeen, at_queue}
use Rattle.task_queue.specs.Seen.{AdderSeen}
use Rattle.prio_pool.specs.Adders.{AreAdds, adders_seen, entry_of}
use Rattle.prio_pool.proofs.Adding.{may_push, now_is, adds_count}
use Rattle.prio_pool.proofs.adders.Adders.add.Given as given
use Rattle.prio_pool.proofs.adders.Adders.add.Goals as goal

module _ (g : given.Over) where
  own : (p : PassSeen) (now : PassSeen) (count : ℕ) (ticket : Ticket) → p ≡ now → AreAdds count p → ticket ≡ record { adder = now.number; index = length (adds_of now) } → ticket ≡ record { adder = p.number; index = count }
  own p now count ticket same are is =
      is ∙ (ap (λ (x : PassSeen). record { adder = x.number; index = length (adds_of x) }) (sym same) ∙ ap (λ (n : ℕ). record { adder = p.number; index = n }) (sym (adds_count count p are)))

pub push_at-requires : goal.push_at-requires
push_at-requires g c =
    let a = c.self.inside in
    let p : PassSeen = adders_seen a in
    let is : p ≡ c.args.self.now = c.self.view_is in
    let count_is = adds_count a.count p c.self.invariant.adds in record {
      may = may_push a.adders.items p a.passes a.count c.args.number c.args.queue.now c.args.task.ticket refl refl c.self.invariant.each c.self.invariant.adds
          (subst (λ (n : ℕ). c.args.number < n) (length-map a.adders.items (λ (x : AdderSeen). x.queue)) (subst (λ (x : PassSeen). c.args.number < length x.pool.queues) (sym is) c.requires.within))
          (subst (λ (x : PassSeen). slice_index_or x.pool.queues c.args.number c.args.queue.now ≡ c.args.queue.now) (sym is) c.requires.queue)
          (own g p c.args.self.now a.count c.args.task.ticket is c.self.invariant.adds c.requires.ticket)
          (subst (λ (n : ℕ). n < 4294967295) (sym count_is) (subst (λ (x : PassSeen). length (adds_of x) < 4294967295) (sym is) c.requires.room));
    }

pub invariant_of-self : goal.invariant_of-self
invariant_of-self g c =
    let a = c.self.inside in
    let p : PassSeen = adders_seen a in
    let e : Entry = entry_of g.J.Headed.head c.args.task in
    let k = c.args.number in
    let n = now_is p a.count a.passes k e a.adders.items c.push_at.new.adders.items refl c.self.invariant.each c.in-Ok.ensures.ok c.self.invariant.adds
    (own g p c.args.self.now a.count c.args.task.ticket c.self.view_is c.self.invariant.adds c.requires.ticket) in
    let seen : record p { pushed = set p.pushed k (at_queue p.pushed k ++ e ∷ []) } ≡ record { pool = record { queues = map (λ (x : AdderSeen). x.queue) c.push_at.new.adders.items; passes = a.passes; mark = a.mark.value.mark }; number = a.number; pushed = map (λ (x : AdderSeen). x.pushed) c.push_at.new.adders.items } =
    (λ i. record { pool = record { queues = sym n.queues i; passes = a.passes; mark = a.mark.value.mark }; number = a.number; pushed = sym n.pushed i }) in
    record {
      each = n.each;
      adds = subst (AreAdds (a.count + 1)) seen n.more.are;
      few = let room = subst (λ (m : ℕ). m < 4294967295) (sym (adds_count a.count p c.self.invariant.adds)) (subst (λ (x : PassSeen). length (adds_of x) < 4294967295) (sym c.self.view_is) c.requires.room) in omega (arith, room);
      no_gathered = c.self.invariant.no_gathered;
      no_rests = c.self.invariant.no_rests;
      gathered_room = omega (arith, n.as_many, c.self.invariant.gathered_room);
      rests_room = omega (arith, n.as_many, c.self.invariant.rests_room);
    }

pub returns-in-Ok-clause-ok : goal.returns-in-Ok-clause-ok
returns-in-Ok-clause-ok g c =
    let a = c.self.inside in
    let p : PassSeen = adders_seen a in
    let e : Entry = entry_of g.J.Headed.head c.args.task in
    let k = c.args.number in
    let n = now_is p a.count a.passes k e a.adders.items c.push_at.new.adders.items refl c.self.invariant.each c.in-Ok.ensures.ok c.self.invariant.adds
    (own g p c.args.self.now a.count c.args.task.ticket c.self.view_is c.self.invariant.adds c.requires.ticket) in
    let seen : record p { pushed = set p.pushed k (at_queue p.pushed k ++ e ∷ []) } ≡ record { pool = record { queues = map (λ (x : AdderSeen). x.queue) c.push_at.new.adders.items; passes = a.passes; mark = a.mark.value.mark }; number = a.number; pushed = map (λ (x : AdderSeen). x.pushed) c.push_at.new.adders.items } =
    (λ i. record { pool = record { queues = sym n.queues i; passes = a.passes; mark = a.mark.value.mark }; number = a.number; pushed = sym n.pushed i }) in
    sym seen ∙ ap (λ (q : PassSeen). record q { pushed = set q.pushed k (at_queue q.pushed k ++ e ∷ []) }) c.self.view_is

pub returns-in-Ok-clause-added : goal.returns-in-Ok-clause-added
returns-in-Ok-clause-added g c =
    let a = c.self.inside in
    let p : PassSeen = adders_seen a in
    let e : Entry = entry_of g.J.Headed.head c.args.task in
    let k = c.args.number in
    let n = now_is p a.count a.passes k e a.adders.items c.push_at.new.adders.items refl c.self.invariant.each c.in-Ok.ensures.ok c.self.invariant.adds
    (own g p c.args.self.now a.count c.args.task.ticket c.self.view_is c.self.invariant.adds c.requires.ticket) in
    let seen : record p { pushed = set p.pushed k (at_queue p.pushed k ++ e ∷ []) } ≡ record { pool = record { queues = map (λ (x : AdderSeen). x.queue) c.push_at.new.adders.items; passes = a.passes; mark = a.mark.value.mark }; number = a.number; pushed = map (λ (x : AdderSeen). x.pushed) c.push_at.new.adders.items } =
    (λ i. record { pool = record { queues = sym n.queues i; passes = a.passes; mark = a.mark.value.mark }; number = a.number; pushed = sym n.pushed i }) in
    ap adds_of (sym seen) ∙ (n.more.adds ∙ ap (λ (q : PassSeen). adds_of q ++ record { queue = k; head = e.head } ∷ []) c.self.view_is)
