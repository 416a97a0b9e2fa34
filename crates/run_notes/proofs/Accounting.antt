-- From the pool's account, over tasks, to that over runs.
use Rattle.std.proofs.Common.{◌≡◌, ℕ, ◌+◌, List, [], ◌∷◌, ◌++◌, map, refl, sym, ap, ◌∙◌, arith, append_assoc, All}
use Rattle.std.specs.List.{sum_by}
use Rattle.std.proofs.lemmas.List.Sums.{sum_by-append, sum_by-cons}
use Rattle.std.proofs.lemmas.List.Elements.{All-nil, All-cons, All-head, All-tail}
use Rattle.fan_base.specs.declared.number.Mark.{Mark}
use Rattle.fan_base.specs.declared.number.Mark.TheVariants as mark
use Rattle.job_trait.specs.Marks.{IsDone, IsMarkOf}
use Rattle.pool_model.specs.Orders.{IsSameInAnyOrder}
use Rattle.pool_model.specs.Passes.{adds_of, tasks_of}
use Rattle.pool_model.specs.Records.{Record, AreRunsOf, IsRunOf}
use Rattle.pool_model.specs.Seen.{EndSeen, PassSeen}
use Rattle.pool_model.specs.Endings.{records_of}
use Rattle.pool_model.specs.Tasks.{Add, Task, add_of, numbered}
use Rattle.fan_model.specs.Report.{IsEachOnce}
use Rattle.fan_model.specs.Tasks.{Run}
use Rattle.run_notes.specs.Told.{run_of, run_of_add}
use Rattle.run_notes.specs.Accounts.{AllDone, runs_added}

-- the record is of a run that was done
abbrev pub WasDone : Record → Type 0
WasDone r = IsDone r.mark

done_mark : (n : ℕ) (m : Mark) → IsMarkOf n m → IsDone m → m ≡ mark.Done n
done_mark n (mark.Done x) is done = ap mark.Done is
done_mark n mark.Memory is done = absurd done

abbrev run_of_task : Task → Run
run_of_task t = run_of_add (add_of t)

done_run : (t : Task) (r : Record) → IsRunOf t r → WasDone r → run_of r ≡ run_of_task t
done_run t r is done i = record { queue = is.queue i; exec = is.exec i; id = is.job i; mark = done_mark t.head.number r.mark is.mark done i }

done_runs : (ts : List Task) (rs : List Record) → AreRunsOf ts rs → All WasDone rs → map run_of rs ≡ map run_of_task ts
done_runs [] [] are all = refl
done_runs [] (r ∷ rs) are all = absurd are
done_runs (t ∷ ts) [] are all = absurd are
done_runs (t ∷ ts) (r ∷ rs) are all =
    ap (λ (x : Run). x ∷ map run_of rs) (done_run t r are.0 (All-head WasDone r rs all)) ∙ ap (λ (l : List Run). run_of_task t ∷ l) (done_runs ts rs are.1 (All-tail WasDone r rs all))

sum_map : {X Y : Type 0} (f : X → Y) (w : Y → ℕ) (xs : List X) → sum_by w (map f xs) ≡ sum_by (λ x. w (f x)) xs
sum_map f w [] = refl
sum_map f w (x ∷ xs) = sum_by-cons w (f x) (map f xs) ∙ (ap (λ (n : ℕ). w (f x) + n) (sum_map f w xs) ∙ sym (sum_by-cons (λ y. w (f y)) x xs))

numbered_sum : (w : Run → ℕ) (adder first : ℕ) (adds : List Add) → sum_by (λ t. w (run_of_task t)) (numbered adder first adds) ≡ sum_by w (map run_of_add adds)
numbered_sum w adder first [] = refl
numbered_sum w adder first (a ∷ adds) =
    let t : Task = record { ticket = record { adder = adder; index = first }; queue = a.queue; head = a.head } in
    sum_by-cons (λ (x : Task). w (run_of_task x)) t (numbered adder (first + 1) adds)
    ∙ (ap (λ (n : ℕ). w (run_of_add a) + n) (numbered_sum w adder (first + 1) adds) ∙ sym (sum_by-cons w (run_of_add a) (map run_of_add adds)))

passes_sum : (w : Run → ℕ) (passes : List PassSeen) → sum_by (λ t. w (run_of_task t)) (tasks_of passes) ≡ sum_by w (runs_added passes)
passes_sum w [] = refl
passes_sum w (p ∷ passes) =
    sum_by-append (λ (x : Task). w (run_of_task x)) (numbered p.number 0 (adds_of p)) (tasks_of passes)
    ∙ (ap (λ (n : ℕ). n + sum_by (λ (x : Task). w (run_of_task x)) (tasks_of passes)) (numbered_sum w p.number 0 (adds_of p))
    ∙ (ap (λ (n : ℕ). sum_by w (map run_of_add (adds_of p)) + n) (passes_sum w passes)
    ∙ sym (sum_by-append w (map run_of_add (adds_of p)) (runs_added passes))))

-- tasks that are, in any order, those that the passes added, each of which ran and was done
pub each_once : (passes : List PassSeen) (tasks : List Task) (records : List Record) → IsSameInAnyOrder tasks (tasks_of passes) → AreRunsOf tasks records → All WasDone records
    → IsEachOnce (runs_added passes) (map run_of records)
each_once passes tasks records same runs done = record {
  weigh = λ w. ap (sum_by w) (done_runs tasks records runs done) ∙ (sum_map run_of_task w tasks ∙ (same.sums (λ t. w (run_of_task t)) ∙ passes_sum w passes));
}

-- all of two lists' records
pub done_append : (rs ss : List Record) → All WasDone rs → All WasDone ss → All WasDone (rs ++ ss)
done_append [] ss a b = b
done_append (r ∷ rs) ss a b = All-cons WasDone r (rs ++ ss) (All-head WasDone r rs a) (done_append rs ss (All-tail WasDone r rs a) b)

-- the records of all these ends
pub done_of_ends : (ends : List EndSeen) → AllDone ends → All WasDone (records_of ends)
done_of_ends [] all = All-nil WasDone
done_of_ends (e ∷ ends) all =
    done_append e.records (records_of ends) (All-head (λ (x : EndSeen). All WasDone x.records) e ends all) (done_of_ends ends (All-tail (λ (x : EndSeen). All WasDone x.records) e ends all))

pub records_of_append : (xs ys : List EndSeen) → records_of (xs ++ ys) ≡ records_of xs ++ records_of ys
records_of_append [] ys = refl
records_of_append (x ∷ xs) ys = ap (λ (l : List Record). x.records ++ l) (records_of_append xs ys) ∙ grind (arith, append_assoc)
