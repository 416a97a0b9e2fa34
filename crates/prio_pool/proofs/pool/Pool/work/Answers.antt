use Rattle.std.proofs.Common.{rules, ◌≡◌, ℕ, ◌<◌, List, [], ◌∷◌, ◌++◌, length, Some, refl, sym, ap, subst, ◌∙◌}
use Rattle.std.proofs.lemmas.List.{map-append}
use Rattle.job_trait.specs.Runs.{Ran, Leads}
use Rattle.pool_model.specs.declared.task.Ending.TheVariants.{Joins, Stops}
use Rattle.pool_model.specs.Records.{Record, ran_of}
use Rattle.pool_model.specs.Seen.{PoolId, PoolSeen, WorkerSeen}
use Rattle.pool_model.specs.Steps.{Turn, ran, idle, stopped, steps_in, steps_of}
use Rattle.task_queue.specs.Marks.{MarkSeen}
use Rattle.prio_pool.specs.Takers.{TakersSeen, RanTaken}
use Rattle.prio_pool.specs.Turned.{WorkedSoFar}
use Rattle.job_trait.proofs.Histories.{leads_empty, leads_more}
use Rattle.prio_pool.proofs.Recording.{so_far_none, so_far_more, worked_all, ran_nothing, ran_what_it_took}
use Rattle.prio_pool.proofs.Turning.{has_found}
use Rattle.prio_pool.proofs.pool.Pool.work.Goals as goal

pub loop-preserved-in-Ran : goal.loop-preserved-in-Ran
loop-preserved-in-Ran g c =
    let i = c.loop.invariant in
    let t = c.in-Ran.ensures in
    let d = t.turned in
    let old : TakersSeen = c.loop.takers in
    let new : TakersSeen = c.turn.new.takers in
    let n = length c.pass.inside.takers.pool.queues in
    let as_many : length old.pool.queues ≡ n = ap (λ (p : PoolId). length p.queues) i.pool in
    let list = ap ran_of d.list ∙ map-append (λ (r : Record). (r.job, r.mark)) c.loop.records (d.entry ∷ []) in
    let turn : Turn = ran d.found d.queue d.task in
    record {
      pool = t.same.0 ∙ i.pool;
      number = t.same.1 ∙ i.number;
      records = t.records;
      ran = subst (λ (l : List Ran). Leads g.J.Job.runs c.args.world.now l c.turn.new.world) (sym list) (leads_more g.J.Job.runs c.args.world.now c.loop.world c.turn.new.world (ran_of c.loop.records) d.entry.job d.entry.mark i.ran d.led);
      worked = so_far_more n (steps_in old.looks) (steps_in new.looks) turn i.worked
          (subst (λ (m : ℕ). d.queue < m) as_many d.within, d.not_stopped refl)
          (subst (λ (m : ℕ). steps_in new.looks ≡ steps_in old.looks ++ steps_of m turn) as_many d.turn);
    }

pub loop-preserved : goal.loop-preserved
loop-preserved g c =
    let i = c.loop.invariant in
    let t = c.in-Idle.ensures in
    let d = t.turned in
    let old : TakersSeen = c.loop.takers in
    let new : TakersSeen = c.turn.new.takers in
    let n = length c.pass.inside.takers.pool.queues in
    let as_many : length old.pool.queues ≡ n = ap (λ (p : PoolId). length p.queues) i.pool in
    let turn : Turn = idle c.in-Idle.ending in
    record {
      pool = t.same.0 ∙ i.pool;
      number = t.same.1 ∙ i.number;
      records = t.records;
      ran = subst (λ (l : List Record). Leads g.J.Job.runs c.args.world.now (ran_of l) c.turn.new.world) (sym d.list) (subst (Leads g.J.Job.runs c.args.world.now (ran_of c.loop.records)) (sym d.world) i.ran);
      worked = so_far_more n (steps_in old.looks) (steps_in new.looks) turn i.worked c.in-None-ending.is
          (subst (λ (m : ℕ). steps_in new.looks ≡ steps_in old.looks ++ steps_of m turn) as_many d.turn);
    }

pub returns-in-Some-Joins-clause-worked : goal.returns-in-Some-Joins-clause-worked
returns-in-Some-Joins-clause-worked g c =
    let i = c.loop.invariant in
    let d = c.in-Idle.ensures.turned in
    let old : TakersSeen = c.loop.takers in
    let new : TakersSeen = c.turn.new.takers in
    let own : c.pass.inside.takers.pool ≡ c.args.self.now.id = ap (λ (w : WorkerSeen). w.pool) c.pass.view_is ∙ c.requires in
    let m = length c.args.self.now.id.queues in
    let as_many : length old.pool.queues ≡ m = ap (λ (p : PoolId). length p.queues) (i.pool ∙ own) in
    let worked = subst (λ (k : ℕ). WorkedSoFar k (steps_in old.looks)) (ap (λ (p : PoolId). length p.queues) own) i.worked in
    let turn : Turn = idle c.in-Idle.ending in
    let ends : c.in-Idle.ending ≡ Some Joins = search rules in
    worked_all m new.found (steps_in old.looks) (steps_in new.looks) turn worked (d.found_is ∙ ends, ends)
    (subst (λ (k : ℕ). steps_in new.looks ≡ steps_in old.looks ++ steps_of k turn) as_many d.turn)

pub invariant_of-result : goal.invariant_of-result
invariant_of-result g c = c.in-Idle.ensures.records

pub returns-in-Some-Joins-clause-pool : goal.returns-in-Some-Joins-clause-pool
returns-in-Some-Joins-clause-pool g c =
    let i = c.loop.invariant in
    let t = c.in-Idle.ensures in
    (t.same.0 ∙ (i.pool ∙ ap (λ (w : WorkerSeen). w.pool) c.pass.view_is), t.same.1 ∙ (i.number ∙ ap (λ (w : WorkerSeen). w.number) c.pass.view_is))

pub returns-in-Some-Joins-clause-ran : goal.returns-in-Some-Joins-clause-ran
returns-in-Some-Joins-clause-ran g c =
    let d = c.in-Idle.ensures.turned in
    subst (λ (l : List Record). Leads g.J.Job.runs c.args.world.now (ran_of l) c.turn.new.world) (sym d.list) (subst (Leads g.J.Job.runs c.args.world.now (ran_of c.loop.records)) (sym d.world) c.loop.invariant.ran)

pub invariant_of-result-in-Stopped : goal.invariant_of-result-in-Stopped
invariant_of-result-in-Stopped g c = c.in-Stopped.ensures.records

pub returns-in-Stopped-clause-pool : goal.returns-in-Stopped-clause-pool
returns-in-Stopped-clause-pool g c =
    let i = c.loop.invariant in
    let t = c.in-Stopped.ensures in
    (t.same.0 ∙ (i.pool ∙ ap (λ (w : WorkerSeen). w.pool) c.pass.view_is), t.same.1 ∙ (i.number ∙ ap (λ (w : WorkerSeen). w.number) c.pass.view_is))

pub returns-in-Stopped-clause-ran : goal.returns-in-Stopped-clause-ran
returns-in-Stopped-clause-ran g c =
    let d = c.in-Stopped.ensures.turned in
    subst (λ (l : List Record). Leads g.J.Job.runs c.args.world.now (ran_of l) c.turn.new.world) (sym d.list) (subst (Leads g.J.Job.runs c.args.world.now (ran_of c.loop.records)) (sym d.world) c.loop.invariant.ran)

pub returns-in-Stopped-clause-worked : goal.returns-in-Stopped-clause-worked
returns-in-Stopped-clause-worked g c =
    let i = c.loop.invariant in
    let d = c.in-Stopped.ensures.turned in
    let old : TakersSeen = c.loop.takers in
    let new : TakersSeen = c.turn.new.takers in
    let own : c.pass.inside.takers.pool ≡ c.args.self.now.id = ap (λ (w : WorkerSeen). w.pool) c.pass.view_is ∙ c.requires in
    let m = length c.args.self.now.id.queues in
    let as_many : length old.pool.queues ≡ m = ap (λ (p : PoolId). length p.queues) (i.pool ∙ own) in
    let worked = subst (λ (k : ℕ). WorkedSoFar k (steps_in old.looks)) (ap (λ (p : PoolId). length p.queues) own) i.worked in
    worked_all m new.found (steps_in old.looks) (steps_in new.looks) stopped worked d.found_is
    (subst (λ (k : ℕ). steps_in new.looks ≡ steps_in old.looks ++ steps_of k stopped) as_many d.turn)

pub turn-requires-clause-queues : goal.turn-requires-clause-queues
turn-requires-clause-queues g c κs lives =
    let own : c.pass.inside.takers.pool ≡ c.args.self.now.id = ap (λ (w : WorkerSeen). w.pool) c.pass.view_is ∙ c.requires in
    ap (λ (p : PoolId). p.queues) (c.loop.invariant.pool ∙ (own ∙ sym (ap (λ (s : PoolSeen). s.id) c.self.view_is)))

pub turn-requires-clause-mark : goal.turn-requires-clause-mark
turn-requires-clause-mark g c κs lives =
    let own : c.pass.inside.takers.pool ≡ c.args.self.now.id = ap (λ (w : WorkerSeen). w.pool) c.pass.view_is ∙ c.requires in
    ap (λ (p : PoolId). p.mark) (c.loop.invariant.pool ∙ (own ∙ sym (ap (λ (s : PoolSeen). s.id) c.self.view_is))) ∙ sym (ap (λ (m : MarkSeen). m.mark) c.mark.ensures)

pub turn-requires-clause-few : goal.turn-requires-clause-few
turn-requires-clause-few g c κs lives = c.self.invariant.1

pub turn-requires-clause-records : goal.turn-requires-clause-records
turn-requires-clause-records g c κs lives = c.loop.invariant.records

pub loop-init : goal.loop-init
loop-init g c =
    let t : TakersSeen = c.pass.inside.takers in
    let none = sym c.new-records.ensures in
    record {
      pool = refl;
      number = refl;
      records = subst (RanTaken t) none (ran_nothing t c.pass.invariant.0);
      ran = subst (λ (l : List Record). Leads g.J.Job.runs c.args.world.now (ran_of l) c.args.world.now) none (leads_empty g.J.Job.runs c.args.world.now);
      worked = so_far_none (length t.pool.queues) (steps_in t.looks) (ap steps_in c.pass.invariant.0.looks);
    }

pub returns-in-Some-Joins-clause-ran_taken : goal.returns-in-Some-Joins-clause-ran_taken
returns-in-Some-Joins-clause-ran_taken g c = ran_what_it_took c.turn.new.takers c.turn.new.records c.in-Idle.ensures.taken c.in-Idle.ensures.records

pub returns-in-Some-Joins-clause-found : goal.returns-in-Some-Joins-clause-found
returns-in-Some-Joins-clause-found g c = has_found c.turn.new.takers.found c.in-Some-Joins.field-0 (c.in-Idle.ensures.turned.found_is ∙ c.in-Some-Joins.is)

pub returns-in-Stopped-clause-ran_taken : goal.returns-in-Stopped-clause-ran_taken
returns-in-Stopped-clause-ran_taken g c = ran_what_it_took c.turn.new.takers c.turn.new.records c.in-Stopped.ensures.taken c.in-Stopped.ensures.records

pub returns-in-Stopped-clause-found : goal.returns-in-Stopped-clause-found
returns-in-Stopped-clause-found g c = has_found c.turn.new.takers.found Stops c.in-Stopped.ensures.turned.found_is
