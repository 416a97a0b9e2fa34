-- One task more.
use Rattle.std.proofs.Common.{◌≡◌, ℕ, ◌+◌, ◌<◌, ◌++◌, false, List, [], ◌∷◌, Result, Ok, Err, length, map, refl, sym, ap, subst, ◌∙◌, append_assoc, arith}
use Rattle.std.specs.Result.{OnErr}
use Rattle.std.proofs.lemmas.List.{length-append, map-append}
use Rattle.std.proofs.lemmas.List.FromFn.{length-map-range_with_len, map-range_with_len_more}
use Rattle.fan_base.specs.declared.number.ExecId.{ExecId}
use Rattle.fan_model.specs.Report.{Asking}
use Rattle.fan_model.specs.Tasks.{Run}
use Rattle.fan_parts.specs.Seen.{AskSeen}
use Rattle.pool_model.specs.Passes.{adds_of}
use Rattle.pool_model.specs.Seen.{PassSeen}
use Rattle.pool_model.specs.Tasks.{Add}
use Rattle.prio_pool.specs.Adders.{add_on}
use Rattle.prio_pool.specs.Running.{DirectSeen}
use Rattle.run_notes.specs.Told.{TellOf, run_of_direct, unmarked}
use Rattle.run_tasks.specs.Seen.{WorldSeen}
use Rattle.run_tasks.specs.Worlds.{Follows, MadeFor}
use Rattle.query_tasks.specs.Starting.{HasAdded, HasAddedSome, HasRunSome, HasToldSome, adds_for, head_on_pool, run_at, runs_for}

-- a map of what a map gives
pub map_map : {A B C : Type 0} (f : A → B) (g : B → C) (h : A → C) → ((a : A) → g (f a) ≡ h a) → (xs : List A) → map g (map f xs) ≡ map h xs
map_map f g h is [] = refl
map_map f g h is (x ∷ xs) = ap (λ y. y ∷ map g (map f xs)) (is x) ∙ ap (λ ys. h x ∷ ys) (map_map f g h is xs)

-- how many adds a pass has that has added the tasks of so many shards
pub count_added : (asked : Asking) (ask : AskSeen) (queue shards : ℕ) (old new : PassSeen)
    → HasAdded old (adds_for asked ask queue shards) new → length (adds_of new) ≡ length (adds_of old) + shards
count_added asked ask queue shards old new has =
    ap (λ (l : List Add). length l) has.adds
    ∙ length-append (adds_of old) (adds_for asked ask queue shards)
    ∙ ap (λ k. length (adds_of old) + k) (length-map-range_with_len (λ shard. add_on queue (head_on_pool asked ask shard)) 0 shards)

more_adds : (asked : Asking) (ask : AskSeen) (queue shard : ℕ)
    → adds_for asked ask queue (shard + 1) ≡ adds_for asked ask queue shard ++ add_on queue (head_on_pool asked ask shard) ∷ []
more_adds asked ask queue shard = map-range_with_len_more (λ shard. add_on queue (head_on_pool asked ask shard)) 0 shard shard (omega (arith))

-- the task of the next shard was added too
pub one_more_added : (asked : Asking) (ask : AskSeen) (queue shard : ℕ) (old between new : PassSeen)
    → HasAdded old (adds_for asked ask queue shard) between
    → HasAdded between (add_on queue (head_on_pool asked ask shard) ∷ []) new → HasAdded old (adds_for asked ask queue (shard + 1)) new
one_more_added asked ask queue shard old between new first second = record {
  pool = second.pool ∙ first.pool;
  number = second.number ∙ first.number;
  adds = second.adds
      ∙ ap (λ (l : List Add). l ++ add_on queue (head_on_pool asked ask shard) ∷ []) first.adds
      ∙ append_assoc (adds_of old) (adds_for asked ask queue shard) (add_on queue (head_on_pool asked ask shard) ∷ [])
      ∙ ap (λ (l : List Add). adds_of old ++ l) (sym (more_adds asked ask queue shard));
}

-- the task of the next shard ran too
pub one_more_ran : {N : Type 0} (asked : Asking) (ask : AskSeen) (queue : ℕ) (exec : ExecId) (shard : ℕ)
    → (w v : WorldSeen N) (old between new : List DirectSeen) (r : DirectSeen)
    → (w.refused ≡ false → map run_of_direct between ≡ map run_of_direct old ++ runs_for asked ask queue exec shard)
    → Follows w v → (v.refused ≡ false → run_of_direct r ≡ run_at asked ask queue exec shard) → new ≡ between ++ r ∷ []
    → v.refused ≡ false → map run_of_direct new ≡ map run_of_direct old ++ runs_for asked ask queue exec (shard + 1)
one_more_ran asked ask queue exec shard w v old between new r so_far follows ran is down =
    ap (λ (l : List DirectSeen). map run_of_direct l) is
    ∙ map-append run_of_direct between (r ∷ [])
    ∙ ap (λ (l : List Run). l ++ run_of_direct r ∷ []) (so_far (follows.refused down))
    ∙ ap (λ (x : Run). (map run_of_direct old ++ runs_for asked ask queue exec shard) ++ x ∷ []) (ran down)
    ∙ append_assoc (map run_of_direct old) (runs_for asked ask queue exec shard) (run_at asked ask queue exec shard ∷ [])
    ∙ ap (λ (l : List Run). map run_of_direct old ++ l) (sym (map-range_with_len_more (run_at asked ask queue exec) 0 shard shard (omega (arith))))

-- the record of the next task tells of it, whatever its mark
pub one_more_told : (asked : Asking) (ask : AskSeen) (queue : ℕ) (exec : ExecId) (shard : ℕ) (before : List Run) (between new : List DirectSeen) (r : DirectSeen)
    → TellOf between (before ++ runs_for asked ask queue exec shard) → unmarked (run_of_direct r) ≡ unmarked (run_at asked ask queue exec shard)
    → new ≡ between ++ r ∷ [] → TellOf new (before ++ runs_for asked ask queue exec (shard + 1))
one_more_told asked ask queue exec shard before between new r so_far told is =
    let of : DirectSeen → Run = λ d. unmarked (run_of_direct d) in
    let one : Run = run_at asked ask queue exec shard in
    let runs : List Run = runs_for asked ask queue exec shard in
    ap (λ (l : List DirectSeen). map of l) is
    ∙ map-append of between (r ∷ [])
    ∙ ap (λ (l : List Run). l ++ of r ∷ []) so_far
    ∙ ap (λ (x : Run). map unmarked (before ++ runs) ++ x ∷ []) told
    ∙ sym (map-append unmarked (before ++ runs) (one ∷ []))
    ∙ ap (λ (l : List Run). map unmarked l)
    (append_assoc before runs (one ∷ []) ∙ ap (λ (l : List Run). before ++ l) (sym (map-range_with_len_more (run_at asked ask queue exec) 0 shard shard (omega (arith)))))

-- a core for the one task that was added
pub made_added : {N : Type 0} (v : WorldSeen N) (old new : PassSeen) (x : Add) → HasAdded old (x ∷ []) new → MadeFor (length (adds_of old) + 1) v → MadeFor (length (adds_of new)) v
made_added v old new x has made = subst (λ (k : ℕ). MadeFor k v) (sym (ap (λ (l : List Add). length l) has.adds ∙ length-append (adds_of old) (x ∷ []))) made

-- a core for the one task that ran
pub made_ran : {N : Type 0} (n : ℕ) (v : WorldSeen N) (old new : List DirectSeen) (r : DirectSeen) → new ≡ old ++ r ∷ [] → MadeFor ((n + length old) + 1) v → MadeFor (n + length new) v
made_ran n v old new r is made =
    let more : length new ≡ length old + 1 = ap (λ (l : List DirectSeen). length l) is ∙ length-append old (r ∷ []) in
    subst (λ (k : ℕ). MadeFor k v) (omega (arith, more)) made

-- the next task wasn't added
pub added_some : (old : PassSeen) (adds : ℕ → List Add) (shards count : ℕ) (between new : PassSeen)
    → count < shards → HasAdded old (adds count) between → new ≡ between → HasAddedSome old adds shards new
added_some old adds shards count between new within has same = record {
  count = count;
  within = within;
  added = subst (λ (p : PassSeen). HasAdded old (adds count) p) (sym same) has;
}

-- the record of the next task wasn't kept
pub ran_some : {N : Type 0} (w v : WorldSeen N) (old : List DirectSeen) (runs : ℕ → List Run) (shards count : ℕ) (between new : List DirectSeen)
    → count < shards → (w.refused ≡ false → map run_of_direct between ≡ map run_of_direct old ++ runs count) → Follows w v → new ≡ between
    → v.refused ≡ false → HasRunSome old runs shards new
ran_some w v old runs shards count between new within so_far follows same down = record {
  count = count;
  within = within;
  ran = ap (λ (l : List DirectSeen). map run_of_direct l) same ∙ so_far (follows.refused down);
}

-- the record of the next task wasn't kept, and those before it tell of the first shards
pub told_some : (old : List DirectSeen) (runs : ℕ → List Run) (shards count : ℕ) (between new : List DirectSeen)
    → count < shards → ((before : List Run) → TellOf old before → TellOf between (before ++ runs count)) → new ≡ between → HasToldSome old runs shards new
told_some old runs shards count between new within so_far same = record {
  count = count;
  within = within;
  told = λ before tell. subst (λ (l : List DirectSeen). TellOf l (before ++ runs count)) (sym same) (so_far before tell);
}

-- what holds in any case holds where there is an error
pub on_err : {T E P : Type 0} (r : Result T E) → P → OnErr r P
on_err (Ok x) p = tt
on_err (Err e) p = p
