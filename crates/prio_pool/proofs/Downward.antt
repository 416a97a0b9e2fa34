-- A walk over the queues from the highest down.
use Rattle.std.proofs.Common.{◌≡◌, ℕ, suc, ◌-◌, ◌≤◌, List, [], ◌∷◌, ◌++◌, length, refl, sym, ap, ◌∙◌, append_assoc, append-nil, arith}
use Rattle.std.specs.declared.alloc.Global.{Global}
use Rattle.crossbeam_queue.specs.SegTies.{SegId}
use Rattle.job_trait.specs.declared.job.Head.{Head}
use Rattle.pool_model.specs.declared.task.Entry.{Entry}
use Rattle.pool_model.specs.Steps.{Step, LookSeen, of_queue, found_empty, took, steps_in, empty_from_the_top}
use Rattle.pool_runs.specs.declared.placed.Placed.{Placed}
use Rattle.prio_pool.specs.Adders.{entry_of}
use Rattle.prio_pool.specs.Takers.{TakersSeen, DidSteps, TookNext, FoundNone, and_cleared, and_popped}
use Rattle.prio_pool.proofs.Recording.{steps_more}
use Rattle.task_queue.specs.declared.rule.Queued.{Queued}

pub none_yet : (t : TakersSeen) (n k : ℕ) → k ≡ n → DidSteps t t (empty_from_the_top n (n - k))
none_yet t n k is =
    let none : n - k ≡ 0 = omega (arith, is) in
    record {
      pool = refl;
      number = refl;
      looked_same = refl;
      found = refl;
      steps_are = sym (ap (λ (m : ℕ). steps_in t.looks ++ empty_from_the_top n m) none ∙ append-nil (steps_in t.looks));
    }

-- the steps with one look more
looked_on : (old mid : TakersSeen) (l : LookSeen) (steps : List Step) → steps_in mid.looks ≡ steps_in old.looks ++ steps → steps_in (mid.looks ++ l ∷ []) ≡ steps_in old.looks ++ (steps ++ l.step ∷ [])
looked_on old mid l steps are = steps_more mid.looks l ∙ (ap (λ (s : List Step). s ++ l.step ∷ []) are ∙ append_assoc (steps_in old.looks) steps (l.step ∷ []))

-- this queue was found empty too
pub one_empty : (old mid new : TakersSeen) (n k j : ℕ) (q : SegId Global) → k ≡ suc j → k ≤ n → DidSteps old mid (empty_from_the_top n (n - k)) → new ≡ and_cleared mid j q → DidSteps old new (empty_from_the_top n (n - j))
one_empty old mid new n k j q is within did made =
    let more : n - j ≡ suc (n - k) = omega (arith, is, within) in
    let here : j ≡ n - suc (n - k) = omega (arith, is, within) in
    let all : List Step = empty_from_the_top n (n - k) in
    record {
      pool = ap (λ (t : TakersSeen). t.pool) made ∙ did.pool;
      number = ap (λ (t : TakersSeen). t.number) made ∙ did.number;
      looked_same = ap (λ (t : TakersSeen). t.looked_so_often) made ∙ did.looked_same;
      found = ap (λ (t : TakersSeen). t.found) made ∙ did.found;
      steps_are = ap (λ (t : TakersSeen). steps_in t.looks) made
          ∙ (looked_on old mid record { place = of_queue q; step = found_empty j } all did.steps_are
          ∙ (ap (λ (m : ℕ). steps_in old.looks ++ (all ++ found_empty m ∷ [])) here ∙ sym (ap (λ (m : ℕ). steps_in old.looks ++ empty_from_the_top n m) more)));
    }

-- the task was popped from this one
pub took_it : {J : Type 0} (head : J → Head) (old mid new : TakersSeen) (n k j : ℕ) (q : SegId Global) (task : Queued (Placed J)) → k ≡ suc j → k ≤ n → n ≡ length old.pool.queues
    → DidSteps old mid (empty_from_the_top n (n - k)) → new ≡ and_popped mid j q (entry_of head task) → TookNext head old j task new
took_it head old mid new n k j q task is within as_many did made =
    let e : Entry = entry_of head task in
    record {
      did = record {
        pool = ap (λ (t : TakersSeen). t.pool) made ∙ did.pool;
        number = ap (λ (t : TakersSeen). t.number) made ∙ did.number;
        looked_same = ap (λ (t : TakersSeen). t.looked_so_often) made ∙ did.looked_same;
        found = ap (λ (t : TakersSeen). t.found) made ∙ did.found;
        steps_are = ap (λ (t : TakersSeen). steps_in t.looks) made
            ∙ (looked_on old mid record { place = of_queue q; step = took j e } (empty_from_the_top n (n - k)) did.steps_are
            ∙ (λ i. steps_in old.looks ++ (empty_from_the_top (as_many i) (as_many i - is i) ++ took j e ∷ [])));
      };
      within = omega (arith, is, within, as_many);
    }

-- each was found empty
pub none_left : (old new : TakersSeen) (n k : ℕ) → k ≡ 0 → n ≡ length old.pool.queues → DidSteps old new (empty_from_the_top n (n - k)) → new.popped ≡ old.popped → FoundNone old new
none_left old new n k is as_many did popped =
    let all : n - k ≡ n = omega (arith, is) in
    record {
      did = record {
        pool = did.pool;
        number = did.number;
        looked_same = did.looked_same;
        found = did.found;
        steps_are = did.steps_are ∙ (ap (λ (m : ℕ). steps_in old.looks ++ empty_from_the_top n m) all ∙ ap (λ (m : ℕ). steps_in old.looks ++ empty_from_the_top m m) as_many);
      };
      popped = popped;
    }
