use Rattle.std.proofs.Common.{◌≡◌, List, [], ◌∷◌, ◌++◌, length, length-append, sym, ap, subst, arith, rules}
use Rattle.std.specs.Prelude.{All}
use Rattle.std.specs.Vec.Iter.{into_iter_items}
use Rattle.std.proofs.lemmas.List.Elements.{All-head, All-tail}
use Rattle.pool_model.specs.Seen.{EndSeen}
use Rattle.run_tasks.specs.declared.world.TaskEnds.{TaskEnds}
use Rattle.run_tasks.specs.Seen.{TaskSeen, WorldSeen}
use Rattle.run_threads.specs.declared.worker.WorkerSlot.{WorkerSlot}
use Rattle.run_threads.specs.Slots.{IsWorked}
use Rattle.run_setup.proofs.EndLemmas.{EndsSoFar, ends-all, ends-more, ends-none}
use Rattle.run_setup.proofs.workers.worker_ends.Goals as goal

pub loop-slot-init : goal.loop-slot-init
loop-slot-init g c =
    let items = into_iter_items c.into_iter-left.result in
    let same : items ≡ c.args.slots.items = c.into_iter-left.ensures.rest in
    record {
      worked = subst (λ (l : List (WorkerSlot TaskSeen (WorldSeen g.row.N.Denot))). All IsWorked l) (sym same) (c.requires.slots.each);
      so_far = λ old ran. subst (λ (l : List (WorkerSlot TaskSeen (WorldSeen g.row.N.Denot))). EndsSoFar old c.args.room.ends.items c.args.room.worlds.items l) (sym same)
          (ends-none old c.args.slots.items c.args.room.ends.items c.args.room.worlds.items ran c.requires.empty.0 c.requires.empty.1);
      for_ends = omega (arith, ap length same, ap length c.requires.empty.0, c.requires.room.0);
      for_worlds = omega (arith, ap length same, ap length c.requires.empty.1, c.requires.room.1);
    }

pub end_worker-end-requires : goal.end_worker-end-requires
end_worker-end-requires g c = (
  search rules,
  All-head IsWorked c.in-Some.slot (into_iter_items c.next.new.self)
      (subst (λ (l : List (WorkerSlot TaskSeen (WorldSeen g.row.N.Denot))). All IsWorked l) c.in-Some.ensures.cases.0 c.loop-slot.invariant.worked),
)

pub loop-slot-preserved : goal.loop-slot-preserved
loop-slot-preserved g c =
    let i = c.loop-slot.invariant in
    let ends = c.loop-slot.ends.items in
    let worlds = c.loop-slot.worlds.items in
    let rest = into_iter_items c.next.new.self in
    let stage = c.end_worker-end.result in
    let next : into_iter_items c.loop-slot.left ≡ c.in-Some.slot ∷ rest = c.in-Some.ensures.cases.0 in
    record {
      worked = All-tail IsWorked c.in-Some.slot rest (subst (λ (l : List (WorkerSlot TaskSeen (WorldSeen g.row.N.Denot))). All IsWorked l) next i.worked);
      so_far = λ old ran.
          let so = subst (λ (l : List (WorkerSlot TaskSeen (WorldSeen g.row.N.Denot))). EndsSoFar old ends worlds l) next (i.so_far old ran) in
          let more = ends-more old ends worlds c.in-Some.slot rest stage.end stage.ends so c.end_worker-end.ensures.stage in
          subst (λ (l : List (TaskEnds g.row.N.Denot)). EndsSoFar old c.push_reserved.new.self.items l rest) (sym c.push_reserved-in-Some.ensures.items)
          (subst (λ (l : List EndSeen). EndsSoFar old l (worlds ++ stage.ends ∷ []) rest) (sym c.push_reserved.ensures.items) more);
      for_ends = omega (arith, i.for_ends, ap length next, ap length c.push_reserved.ensures.items, length-append ends (stage.end ∷ []), c.push_reserved.ensures.capacity);
      for_worlds = omega (arith, i.for_worlds, ap length next, ap length c.push_reserved-in-Some.ensures.items, length-append worlds (stage.ends ∷ []), c.push_reserved-in-Some.ensures.capacity);
    }

pub returns : goal.returns
returns g c = λ old ran.
    let left = c.loop-slot.left in
    ends-all old c.loop-slot.ends.items c.loop-slot.worlds.items (into_iter_items left) (c.loop-slot.invariant.so_far old ran) (omega (arith, c.in_default.ensures.cases.0, left.rest.ok.0))
