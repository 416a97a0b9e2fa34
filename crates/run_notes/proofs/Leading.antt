-- Runs that led from world to world, and the records of them.
use Rattle.std.proofs.Common.{◌≡◌, ℕ, suc, ◌+◌, ◌<◌, ◌⊎◌, inl, inr, Bool, true, false, length, length-append, List, [], ◌∷◌, ◌++◌, map, refl, sym, ap, ◌∙◌, subst, append-nil, arith, All}
use Rattle.std.proofs.lemmas.List.{map-append}
use Rattle.std.proofs.lemmas.List.Elements.{All-nil, All-cons}
use Rattle.std.proofs.lemmas.List.Sums.{sum_by-append}
use Rattle.fan_base.specs.declared.number.JobId.{JobId}
use Rattle.fan_base.specs.declared.number.Mark.{Mark}
use Rattle.job_trait.specs.declared.job.Head.{Head}
use Rattle.job_trait.specs.Marks.{IsDone}
use Rattle.job_trait.specs.Runs.{AreMarksOf, IsKnownBackwards, Leads, Ran, Through}
use Rattle.job_trait.proofs.Histories.{leads_more, are_marks-append}
use Rattle.pool_model.specs.Records.{AreRunsOf, IsRunOf, Record, ran_of}
use Rattle.pool_model.specs.Seen.{Returned, task_of}
use Rattle.pool_model.specs.Tasks.{Task}
use Rattle.pool_model.proofs.Accounts.{runs-append}
use Rattle.pool_model.proofs.Lists.{one_over}
use Rattle.run_notes.specs.Accounts.{AllRanBack, AreRunsOfSome, HaveRunSoFar, RanBack, RanBackSoFar, SomeLed}
use Rattle.run_notes.proofs.Accounting.{WasDone}

module _ {W : Type 0} (runs : JobId → W → Mark → W → Type 0) where
  -- a fact that each run tells backwards, and by which it was done
  pub known : (Fact : W → Type 0) → IsKnownBackwards runs Fact (λ _ mark. IsDone mark) → (w v : W) (rs : List Record) → Through runs w (ran_of rs) v → Fact v → Fact w × All WasDone rs
  known Fact k w v [] same f = (subst Fact (sym same) f, All-nil WasDone)
  known Fact k w v (r ∷ rs) t f =
      let rest = known Fact k t.0 v rs t.2 f in
      let one = k r.job w r.mark t.0 t.1 rest.0 in
      (one.0, All-cons WasDone r rs one.1 rest.1)

  pub known_list : (Fact : W → Type 0) → IsKnownBackwards runs Fact (λ _ mark. IsDone mark) → (w v : W) (list : List Ran) → Through runs w list v → Fact v → Fact w
  known_list Fact k w v [] same f = subst Fact (sym same) f
  known_list Fact k w v (r ∷ rs) t f = (k r.0 w r.1 t.0 t.1 (known_list Fact k t.0 v rs t.2 f)).0

  pub known_some : (Fact : W → Type 0) → IsKnownBackwards runs Fact (λ _ mark. IsDone mark) → (w v : W) → SomeLed runs w v → Fact v → Fact w
  known_some Fact k w v led f = known_list Fact k w v led.0 led.1.through f

-- one task more, whose record was kept or not
some_more : (tasks : List Task) (records after : List Record) (t : Task) (r : Record) → AreRunsOfSome tasks records → IsRunOf t r → (after ≡ records ++ r ∷ []) ⊎ (after ≡ records) → AreRunsOfSome (tasks ++ t ∷ []) after
some_more tasks records after t r some is (inl put) = record {
  ran = some.ran ++ t ∷ [];
  others = some.others;
  runs = subst (AreRunsOf (some.ran ++ t ∷ [])) (sym put) (runs-append some.ran (t ∷ []) records (r ∷ []) some.runs (is, tt));
  all = record { sums = λ w. omega (arith, some.all.sums w, sum_by-append w some.ran some.others, sum_by-append w (some.ran ++ t ∷ []) some.others, sum_by-append w some.ran (t ∷ []), sum_by-append w tasks (t ∷ [])) };
}
some_more tasks records after t r some is (inr lost) = record {
  ran = some.ran;
  others = some.others ++ t ∷ [];
  runs = subst (AreRunsOf some.ran) (sym lost) some.runs;
  all = record { sums = λ w. omega (arith, some.all.sums w, sum_by-append w some.ran some.others, sum_by-append w some.ran (some.others ++ t ∷ []), sum_by-append w some.others (t ∷ []), sum_by-append w tasks (t ∷ [])) };
}

module _ {J W : Type 0} (head : J → Head) (runs : JobId → W → Mark → W → Type 0) where
  pub back_none : (tasks : List (Returned J)) (w : W) → RanBackSoFar head runs tasks tasks [] w w
  back_none tasks w = record { done = []; list = refl; back = record { ran = tt; led = record { through = refl } } }

  pub back_more : (tasks left more : List (Returned J)) (records after : List Record) (w m v : W) (b : Returned J) (r : Record) → RanBackSoFar head runs tasks left records w m
      → left ≡ b ∷ more → IsRunOf (task_of head b) r → runs r.job m r.mark v → after ≡ records ++ r ∷ [] → RanBackSoFar head runs tasks more after w v
  back_more tasks left more records after w m v b r so_far next is ran put =
      let tasks_are : map (task_of head) (so_far.done ++ b ∷ []) ≡ map (task_of head) so_far.done ++ task_of head b ∷ [] = map-append (task_of head) so_far.done (b ∷ []) in
      let pairs : ran_of (records ++ r ∷ []) ≡ ran_of records ++ (r.job, r.mark) ∷ [] = map-append (λ (x : Record). (x.job, x.mark)) records (r ∷ []) in
      record {
        done = so_far.done ++ b ∷ [];
        list = one_over so_far.done left more tasks b so_far.list next;
        back = record {
          ran = subst (AreRunsOf (map (task_of head) (so_far.done ++ b ∷ []))) (sym put)
              (subst (λ (l : List Task). AreRunsOf l (records ++ r ∷ [])) (sym tasks_are) (runs-append (map (task_of head) so_far.done) (task_of head b ∷ []) records (r ∷ []) so_far.back.ran (is, tt)));
          led = subst (λ (l : List Record). Leads runs w (ran_of l) v) (sym put)
              (subst (λ (l : List Ran). Leads runs w l v) (sym pairs) (leads_more runs w m v (ran_of records) r.job r.mark so_far.back.led ran));
        };
      }

  pub back_all : (tasks left : List (Returned J)) (records : List Record) (w v : W) → RanBackSoFar head runs tasks left records w v → left ≡ [] → RanBack head runs tasks records w v
  back_all tasks left records w v so_far none =
      let same : so_far.done ≡ tasks = sym (append-nil so_far.done) ∙ (ap (λ (l : List (Returned J)). so_far.done ++ l) (sym none) ∙ so_far.list) in
      subst (λ (l : List (Returned J)). RanBack head runs l records w v) same so_far.back

  pub run_none : (tasks : List (Returned J)) (records : List Record) (w : W) → records ≡ [] → HaveRunSoFar head runs tasks tasks records w w
  run_none tasks records w none = record {
    done = [];
    list = refl;
    back = record { list = []; marks = tt; leads = record { through = refl } };
    kept = record { ran = []; others = []; runs = subst (AreRunsOf []) (sym none) tt; all = record { sums = λ weight. refl } };
  }

  pub run_more : (tasks left more : List (Returned J)) (records after : List Record) (w m v : W) (b : Returned J) (r : Record) → HaveRunSoFar head runs tasks left records w m
      → left ≡ b ∷ more → IsRunOf (task_of head b) r → runs r.job m r.mark v → (after ≡ records ++ r ∷ []) ⊎ (after ≡ records) → HaveRunSoFar head runs tasks more after w v
  run_more tasks left more records after w m v b r so_far next is ran either =
      let heads : map (λ (x : Returned J). head x.job) (so_far.done ++ b ∷ []) ≡ map (λ (x : Returned J). head x.job) so_far.done ++ head b.job ∷ [] = map-append (λ (x : Returned J). head x.job) so_far.done (b ∷ []) in
      record {
        done = so_far.done ++ b ∷ [];
        list = one_over so_far.done left more tasks b so_far.list next;
        back = record {
          list = so_far.back.list ++ (r.job, r.mark) ∷ [];
          marks = subst (λ (hs : List Head). AreMarksOf hs (so_far.back.list ++ (r.job, r.mark) ∷ [])) (sym heads)
              (are_marks-append (map (λ (x : Returned J). head x.job) so_far.done) (head b.job ∷ []) so_far.back.list ((r.job, r.mark) ∷ []) so_far.back.marks (is.job, is.mark, tt));
          leads = leads_more runs w m v so_far.back.list r.job r.mark so_far.back.leads ran;
        };
        kept = subst (λ (l : List Task). AreRunsOfSome l after) (sym (map-append (task_of head) so_far.done (b ∷ []))) (some_more (map (task_of head) so_far.done) records after (task_of head b) r so_far.kept is either);
      }

  all_done : (tasks left : List (Returned J)) (records : List Record) (w v : W) (so_far : HaveRunSoFar head runs tasks left records w v) → left ≡ [] → so_far.done ≡ tasks
  all_done tasks left records w v so_far none = sym (append-nil so_far.done) ∙ (ap (λ (l : List (Returned J)). so_far.done ++ l) (sym none) ∙ so_far.list)

  pub run_all : (tasks left : List (Returned J)) (records : List Record) (w v : W) → HaveRunSoFar head runs tasks left records w v → left ≡ [] → AllRanBack head runs tasks w v
  run_all tasks left records w v so_far none = subst (λ (l : List (Returned J)). AllRanBack head runs l w v) (all_done tasks left records w v so_far none) so_far.back

  pub kept_all : (tasks left : List (Returned J)) (records : List Record) (w v : W) → HaveRunSoFar head runs tasks left records w v → left ≡ [] → AreRunsOfSome (map (task_of head) tasks) records
  kept_all tasks left records w v so_far none = subst (λ (l : List (Returned J)). AreRunsOfSome (map (task_of head) l) records) (all_done tasks left records w v so_far none) so_far.kept

-- one record more, or none more for want of memory: so many of all are missing
pub fewer_more : (was is : Bool) (records after : List Record) (r : Record) (left rest all : ℕ) → (was ≡ true → length records + left < all) → (was ≡ false → length records + left ≡ all) → left ≡ suc rest
    → (is ≡ true → was ≡ false → after ≡ records) → (after ≡ records ++ r ∷ []) ⊎ (after ≡ records) → is ≡ true → length after + rest < all
fewer_more true is records after r left rest all fewer whole next lost (inl put) missed = omega (arith, fewer refl, next, ap length put, length-append records (r ∷ []))
fewer_more true is records after r left rest all fewer whole next lost (inr same) missed = omega (arith, fewer refl, next, ap length same)
fewer_more false is records after r left rest all fewer whole next lost either missed = omega (arith, whole refl, next, ap length (lost missed refl))
