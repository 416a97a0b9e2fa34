use Rattle.std.proofs.Common.{◌≡◌, ℕ, suc, List, [], ◌∷◌, length, length-append, sym, ap, ◌∙◌, subst, arith}
use Rattle.std.specs.Prelude.{Some, None}
use Rattle.std.specs.Vec.Iter.{into_iter_items}
use Rattle.pool_model.specs.Seen.{WorkerSeen}
use Rattle.prio_pool.specs.Made.{new_workers}
use Rattle.run_tasks.specs.Seen.{TaskSeen, WorldSeen}
use Rattle.run_threads.specs.declared.worker.WorkerSlot.{WorkerSlot}
use Rattle.run_setup.specs.Opening.{IsDealing}
use Rattle.run_setup.specs.Slots.{IsNewWorld, IsWorker}
use Rattle.run_setup.proofs.DealLemmas.{IsPassAt, each-worker, workers-length}
use Rattle.run_setup.proofs.Each.{EachFrom, each_first, each_none, each_push, each_rest}
use Rattle.run_setup.proofs.dealing.Dealing.all_workers.Goals as goal

pub loop-pass-init : goal.loop-pass-init
loop-pass-init g c =
    let items = into_iter_items c.into_iter-left.result in
    let same : items ≡ c.args.passes.items = c.into_iter-left.ensures.rest in
    let none : length c.args.room.items ≡ 0 = ap length c.requires.empty in
    record {
      room = omega (arith, ap length same, none, c.requires.room);
      many = omega (arith, ap length same, none);
      passes = λ pool is. subst (λ (n : ℕ). EachFrom (IsPassAt pool) n items) (sym none)
          (subst (λ (l : List WorkerSeen). EachFrom (IsPassAt pool) 0 l) (sym (same ∙ is)) (each-worker pool (length c.args.passes.items)));
      rest = λ ids many dealing. subst (λ (n : ℕ). IsDealing g.N.RunName.asked ids (suc n) c.args.self.now) (omega (arith, ap length same, many)) dealing;
      workers = λ pool ids many is dealing. each_none (IsWorker ids pool) 0 c.args.room.items none;
    }

pub loop-pass-preserved : goal.loop-pass-preserved
loop-pass-preserved g c =
    let i = c.loop-pass.invariant in
    let made = c.loop-pass.workers.items in
    let rest = into_iter_items c.next.new.self in
    let next : into_iter_items c.loop-pass.left ≡ c.in-Some.pass ∷ rest = c.in-Some.ensures.cases.0 in
    let pushed = c.push_reserved.ensures.items in
    let worker : WorkerSlot TaskSeen (WorldSeen g.row.N.Denot) = record { pass = Some c.in-Some.pass; end = None; world = c.next_world-world.result } in
    let long : length c.push_reserved.new.self.items ≡ suc (length made) = omega (arith, ap length pushed, length-append made (worker ∷ [])) in
    record {
      room = omega (arith, i.room, long, ap length next, c.push_reserved.ensures.capacity);
      many = omega (arith, i.many, long, ap length next);
      passes = λ pool is. subst (λ (n : ℕ). EachFrom (IsPassAt pool) n rest) (sym long)
          (each_rest (IsPassAt pool) (length made) c.in-Some.pass rest (subst (λ (l : List WorkerSeen). EachFrom (IsPassAt pool) (length made) l) next (i.passes pool is)));
      rest = λ ids many dealing.
          let now = subst (λ (l : List WorkerSeen). IsDealing g.N.RunName.asked ids (suc (length l)) c.loop-pass.self) next (i.rest ids many dealing) in
          c.next_world-world.ensures.rest ids (suc (length rest)) now;
      workers = λ pool ids many is dealing.
          let now = subst (λ (l : List WorkerSeen). IsDealing g.N.RunName.asked ids (suc (length l)) c.loop-pass.self) next (i.rest ids many dealing) in
          let pass = each_first (IsPassAt pool) (length made) c.in-Some.pass rest (subst (λ (l : List WorkerSeen). EachFrom (IsPassAt pool) (length made) l) next (i.passes pool is)) in
          let world = subst (λ (n : ℕ). IsNewWorld ids n c.next_world-world.result) (omega (arith, i.many, many, ap length next)) (c.next_world-world.ensures.world ids (suc (length rest)) now) in
          subst (λ (l : List (WorkerSlot TaskSeen (WorldSeen g.row.N.Denot))). EachFrom (IsWorker ids pool) 0 l) (sym pushed)
          (each_push (IsWorker ids pool) made worker (i.workers pool ids many is dealing) record { pass = ap Some pass; is_new = world });
    }

pub returns-clause-workers : goal.returns-clause-workers
returns-clause-workers g c = λ pool ids is dealing.
    let i = c.loop-pass.invariant in
    let many : length c.args.passes.items ≡ ids.workers = ap length is ∙ workers-length pool 0 ids.workers in
    let none : length (into_iter_items c.loop-pass.left) ≡ 0 = omega (arith, c.in_default.ensures.cases.0, c.loop-pass.left.rest.ok.0) in
    let all = i.workers pool ids many (is ∙ ap (new_workers pool 0) (sym many)) dealing in
    record { as_many = omega (arith, i.many, many, none); each = λ k d below. all.each k k d (omega (arith, below, i.many, many, none)) (omega arith) }

pub returns-clause-rest : goal.returns-clause-rest
returns-clause-rest g c = λ ids many dealing.
    let none : length (into_iter_items c.loop-pass.left) ≡ 0 = omega (arith, c.in_default.ensures.cases.0, c.loop-pass.left.rest.ok.0) in
    subst (λ (n : ℕ). IsDealing g.N.RunName.asked ids (suc n) c.loop-pass.self) none (c.loop-pass.invariant.rest ids many dealing)
