-- The front and the workers, from their start to their end.
use Rattle.std.proofs.Common.{◌≡◌, ◌⊎◌, inl, inr, ℕ, ◌+◌, List, [], ◌∷◌, ◌++◌, Bool, false, true, length, map, take, refl, sym, ap, ◌∙◌, subst, All, arith}
use Rattle.std.specs.Prelude.{Option, get_or}
use Rattle.std.proofs.Math.Seq.{take-append_seam}
use Rattle.std.proofs.lemmas.List.{length-map}
use Rattle.std.proofs.lemmas.List.Elements.{All-append, All-cons, All-nil}
use Rattle.std.proofs.lemmas.List.Sums.{sum_by-append}
use Rattle.core_word.specs.Count.{Counts}
use Rattle.run_gathering.specs.Gathering.{no_counts}
use Rattle.fan_model.specs.Answered.{answered_in, is_stopped}
use Rattle.fan_model.specs.Report.{Asking, IsPoolReport}
use Rattle.fan_model.specs.Tasks.{Run, early_runs}
use Rattle.job_trait.specs.Marks.{IsDone}
use Rattle.pool_model.specs.Orders.{IsSameInAnyOrder}
use Rattle.pool_model.specs.Passes.{AreAllEnds, adds_of, adds_total, tasks_of}
use Rattle.pool_model.specs.Records.{Record}
use Rattle.pool_model.specs.Seen.{EndSeen, PoolSeen, task_of}
use Rattle.pool_model.specs.Tasks.{Task}
use Rattle.prio_pool.specs.Made.{new_end, new_pass}
use Rattle.query_tasks.specs.Ends.{seen_of}
use Rattle.query_tasks.specs.Starting.{HasHelped}
use Rattle.run_ending.specs.Ends.{AreAccepted, IsJoinAccount as IsToldJoin, IsStopAccount as IsToldAccount, ticketed}
use Rattle.run_notes.specs.Accounts.{AllDone}
use Rattle.run_notes.specs.Told.{run_of_add, told_of as told_by}
use Rattle.run_phases.specs.declared.first.FrontStart.{FrontStart}
use Rattle.run_phases.specs.declared.first.FrontMid.{FrontMid}
use Rattle.run_phases.specs.declared.second.FrontLeft.{FrontLeft}
use Rattle.run_phases.specs.Phases.{IsDoneBy, IsJoinAccount, IsStopAccount}
use Rattle.run_phases.proofs.Adders.{runs_of_one, tasks_of_one}
use Rattle.run_phases.proofs.Runs.{adds_counted, adds_of_one}
use Rattle.run_setup.specs.Closing.{AreWorldEnds, IsPrinterEnd}
use Rattle.run_setup.specs.Ids.{RunIds}
use Rattle.run_tasks.specs.declared.world.TaskEnds.{TaskEnds}
use Rattle.run_tasks.specs.Leaving.{MakesMore}
use Rattle.run_tasks.specs.Heads.{task_head}
use Rattle.run_tasks.specs.Seen.{WorldSeen}
use Rattle.run_tasks.specs.Worlds.{AreEndsFor, MadeFor, StaysPass, told_of}
use Rattle.fan_parts.specs.declared.jobs.PrintJob.{PrintJob}
use Rattle.fan_parts.specs.Seen.{PosterSeen}
use Rattle.run_tasks.specs.Seen.{TaskSeen}
use Rattle.run_threads.specs.declared.worker.WorkerSlot.{WorkerSlot}
use Rattle.fanout.specs.declared.front.SideRoom.{SideRoom}
use Rattle.fanout.specs.declared.front.SideEnd.{SideEnd}
use Rattle.fanout.specs.First.{IsFirstEnd, IsFirstStart}
use Rattle.fanout.specs.Fronts.{IsSideEnd, IsSideStart, NoneRefused}

-- behind the first ones those and others, which are the second ones in any order
both_of : {X : Type 0} (first second xs others all : List X) → IsSameInAnyOrder (xs ++ others) second → IsSameInAnyOrder (first ++ second) all → IsSameInAnyOrder (first ++ xs ++ others) all
both_of first second xs others all same whole = record {
  sums = λ w. omega (arith, sum_by-append w (first ++ xs) others, sum_by-append w first xs, sum_by-append w xs others, same.sums w, sum_by-append w first second, whole.sums w);
}

module _ {N : Type 0} where
  pub helper_is : (asked : Asking) (ids : RunIds) (start : FrontStart N) (pool : PoolSeen) (slots : List (WorkerSlot TaskSeen (WorldSeen N))) (room : SideRoom N) → IsSideStart asked ids start pool slots room → start.helper ≡ new_end pool.id ids.workers
  helper_is asked ids start pool slots room s = ap (λ (l : List EndSeen). get_or l 0 start.helper) s.pool_is.helps_are

  pub first_start : (asked : Asking) (ids : RunIds) (start : FrontStart N) (pool : PoolSeen) (slots : List (WorkerSlot TaskSeen (WorldSeen N))) (room : SideRoom N) → IsSideStart asked ids start pool slots room → adds_of (new_pass pool.id 0) ≡ [] → IsFirstStart asked pool start
  first_start asked ids start pool slots room s unused = record {
    front = s.front;
    exec = s.pool_is.exec_is;
    queues = s.pool_is.queues;
    owner = s.pool_is.owner_is;
    keep = ap (λ k. k.count) s.pool_is.keep_is;
    adders = record { pass = new_pass pool.id 0; is = s.pool_is.passes_are; of_pool = refl; number = refl; unused = unused };
    one = s.pool_is.adders_are;
    helper = ap (λ (e : EndSeen). e.pool) (helper_is asked ids start pool slots room s);
  }

  pub workers_ends : (asked : Asking) (ids : RunIds) (start : FrontStart N) (pool : PoolSeen) (slots : List (WorkerSlot TaskSeen (WorldSeen N))) (room : SideRoom N) (ends : List EndSeen) → IsSideStart asked ids start pool slots room → AreAllEnds pool.id ids.workers ends → AreAllEnds pool.id pool.workers ends
  workers_ends asked ids start pool slots room ends s all = subst (λ (n : ℕ). AreAllEnds pool.id n ends) (sym s.pool_is.workers_are) all

  pub helper_end : (asked : Asking) (ids : RunIds) (stop : Option ℕ) (start : FrontStart N) (pool : PoolSeen) (slots : List (WorkerSlot TaskSeen (WorldSeen N))) (room : SideRoom N) (mid : FrontMid N) → IsSideStart asked ids start pool slots room → IsFirstEnd asked stop pool start mid
      → AreAllEnds pool.id pool.helpers (mid.helper ∷ [])
  helper_end asked ids stop start pool slots room mid s e = record {
    of_pool = All-cons (λ (x : EndSeen). x.pool ≡ pool.id) mid.helper [] (e.helped.pool ∙ ap (λ (x : EndSeen). x.pool) (helper_is asked ids start pool slots room s)) (All-nil (λ (x : EndSeen). x.pool ≡ pool.id));
    count_is = sym s.pool_is.helpers_are;
  }

  -- all that the helper ran was done
  helped_done : (w : WorldSeen N) (old : EndSeen) (v : WorldSeen N) (new : EndSeen) → HasHelped w old v new → old.records ≡ [] → v.refused ≡ false → All (λ (r : Record). IsDone r.mark) new.records
  helped_done w old v new h none fine = subst (λ (l : List Record). All (λ (r : Record). IsDone r.mark) l) (sym (h.records ∙ ap (λ (l : List Record). l ++ h.more) none)) (h.done fine)

  -- what the one adder added is what was accepted, and its tasks have the tickets of one adder
  accepted_by : (asked : Asking) (stop : Option ℕ) (pool : PoolSeen) (start : FrontStart N) (mid : FrontMid N) (accepted : ℕ) (e : IsFirstEnd asked stop pool start mid) → accepted ≡ adds_total (seen_of mid.ending).passes
      → AreAccepted asked accepted (adds_of e.one.pass)
  accepted_by asked stop pool start mid accepted e is =
      let early : List Run = early_runs asked.lines asked.shards asked.stop_at in
      let added : List Run = map run_of_add (adds_of e.one.pass) in
      let count : accepted ≡ length (adds_of e.one.pass) = is ∙ sym (adds_of_one (seen_of mid.ending).passes e.one.pass e.one.is) in
      let whole : added ++ e.some.left ≡ early = ap (λ (runs : List Run). runs ++ e.some.left) (sym (runs_of_one (seen_of mid.ending).passes e.one.pass added e.one.is refl) ∙ e.some.are) ∙ e.some.whole in
      record {
        count = count;
        first = sym (ap (λ (n : ℕ). take n early) (count ∙ sym (length-map (adds_of e.one.pass) run_of_add)) ∙ (ap (λ (runs : List Run). take (length added) runs) (sym whole) ∙ take-append_seam added e.some.left));
      }

  tasks_are : (asked : Asking) (stop : Option ℕ) (pool : PoolSeen) (start : FrontStart N) (mid : FrontMid N) (e : IsFirstEnd asked stop pool start mid) → tasks_of (seen_of mid.ending).passes ≡ ticketed (adds_of e.one.pass)
  tasks_are asked stop pool start mid e = tasks_of_one (seen_of mid.ending).passes e.one.pass e.one.is e.one.number

  -- no late task is told, or all early ones were accepted
  early_or_none : (asked : Asking) (stop : Option ℕ) (pool : PoolSeen) (start : FrontStart N) (mid : FrontMid N) (left : FrontLeft N) → IsFirstEnd asked stop pool start mid → IsStopAccount asked mid left → (refused : Bool) → mid.refused ≡ refused
      → (left.note.direct ≡ []) ⊎ (left.note.accepted ≡ length (early_runs asked.lines asked.shards asked.stop_at))
  early_or_none asked stop pool start mid left e a true is = inl (a.none_if_refused is)
  early_or_none asked stop pool start mid left e a false is = inr (a.accepted ∙ (adds_counted (seen_of mid.ending).passes ∙ ap (λ (runs : List Run). length runs) (e.added is)))

  -- what is told of a pool that was stopped
  stop_told : (asked : Asking) (stop : Option ℕ) (pool : PoolSeen) (start : FrontStart N) (mid : FrontMid N) (left : FrontLeft N) → IsFirstEnd asked stop pool start mid → IsStopAccount asked mid left → IsToldAccount asked left.note
  stop_told asked stop pool start mid left e a = record {
    added = adds_of e.one.pass;
    accepted = accepted_by asked stop pool start mid left.note.accepted e a.accepted;
    ran = a.all.tasks;
    back = a.kept.ran;
    others = a.kept.others;
    records = a.all.runs;
    returned = a.kept.runs;
    all = subst (λ (tasks : List Task). IsSameInAnyOrder (a.all.tasks ++ a.kept.ran ++ a.kept.others) tasks) (tasks_are asked stop pool start mid e)
        (both_of a.all.tasks (map (task_of (task_head asked)) a.back) a.kept.ran a.kept.others (tasks_of (seen_of mid.ending).passes) a.kept.all a.all.all);
    few = a.few;
    direct = record {
      runs = a.direct.runs;
      tell = a.direct.tell;
      left = a.direct.are.left;
      whole = ap (λ (l : List Run). l ++ a.direct.are.left) a.direct.are.are ∙ a.direct.are.whole;
    };
    late_behind_all = early_or_none asked stop pool start mid left e a mid.refused refl;
  }

  -- what is told of a pool that was joined
  join_told : (asked : Asking) (stop : Option ℕ) (pool : PoolSeen) (start : FrontStart N) (mid : FrontMid N) (left : FrontLeft N) → IsFirstEnd asked stop pool start mid → IsJoinAccount mid left → IsToldJoin asked left.note
  join_told asked stop pool start mid left e a = record {
    added = adds_of e.one.pass;
    accepted = accepted_by asked stop pool start mid left.note.accepted e a.accepted;
    ran = a.all.tasks;
    records = a.all.runs;
    all = subst (λ (tasks : List Task). IsSameInAnyOrder a.all.tasks tasks) (tasks_are asked stop pool start mid e) a.all.all;
    none = a.none;
    direct = a.direct;
  }

  -- no core was begun on a new world
  made_none : (w : WorldSeen N) → w.tally ≡ no_counts → MadeFor 0 w
  made_none w none = record {
    made = λ down.
        let made : w.tally.made ≡ 0 = ap (λ (t : Counts). t.made) none in
        let forwarded : w.tally.forwarded ≡ 0 = ap (λ (t : Counts). t.forwarded) none in
        omega (arith, made, forwarded);
  }

  pub side_end : (asked : Asking) (ids : RunIds) (stop : Option ℕ) (start : FrontStart N) (pool : PoolSeen) (slots : List (WorkerSlot TaskSeen (WorldSeen N))) (room : SideRoom N) (mid : FrontMid N) (ends : List EndSeen) (worlds : List (TaskEnds N)) (end : SideEnd N) → IsSideStart asked ids start pool slots room → IsFirstEnd asked stop pool start mid
      → end.worlds.items ≡ worlds → AreWorldEnds ids worlds → (NoneRefused worlds → AllDone ends)
      → end.left.note.ran.stopped ≡ is_stopped asked.stop_at (answered_in asked.lines) → (end.left.note.ran.stopped ≡ true → IsStopAccount asked mid end.left) → (end.left.note.ran.stopped ≡ false → IsJoinAccount mid end.left)
      → (end.left.refused ≡ false → end.left.ends.tasks.refused ≡ false → AllDone (ends ++ mid.helper ∷ []) → IsPoolReport asked (told_by end.left.note))
      → (end.left.ends.tasks.refused ≡ false → mid.front.world.refused ≡ false)
      → (end.left.ends.tasks.refused ≡ false → end.left.ends.tasks.tally.handed ≡ mid.front.world.tally.handed)
      → (MadeFor (adds_total (seen_of mid.ending).passes) mid.front.world → end.left.refused ≡ false → end.left.ends.tasks.refused ≡ false → MakesMore (end.left.note.accepted + length end.left.note.direct) end.left.ends.tasks.tally)
      → AreEndsFor (map told_of mid.front.world.posters) end.left.ends.tasks.posters.items → StaysPass mid.front.world.pass end.left.ends.tasks.pass → IsDoneBy mid.front.printer end.left.ends.printer
      → IsPrinterEnd asked ids 0 end.left.ends.printer
      → IsSideEnd asked ids end
  side_end asked ids stop start pool slots room mid ends worlds end s e is all done stops account ran report refused handed made posters pass printer poster = record {
    worlds = subst (λ (l : List (TaskEnds N)). AreWorldEnds ids l) (sym is) all;
    tasks = record {
      posters = subst (λ (l : List _). AreEndsFor l end.left.ends.tasks.posters.items) (e.helped.follows.posters ∙ s.world.posters) posters;
      pass = record {
        cells = pass.cells ∙ (e.helped.follows.pass.cells ∙ s.world.pass.cells);
        passes = pass.passes ∙ (e.helped.follows.pass.passes ∙ s.world.pass.passes);
      };
      handed = λ calm. handed calm ∙ (e.helped.follows.handed (refused calm) ∙ ap (λ t. t.handed) s.world.tally);
    };
    poster = poster;
    made = made (e.made (made_none start.front.world s.world.tally));
    stopped = record { stops = stops; account = λ on. stop_told asked stop pool start mid end.left e (account on); joined = λ off. join_told asked stop pool start mid end.left e (ran off) };
    report = λ fine tasks none. report fine tasks (All-append (λ (x : EndSeen). All (λ (r : Record). IsDone r.mark) x.records) ends (mid.helper ∷ []) (done (subst NoneRefused is none))
        (All-cons (λ (x : EndSeen). All (λ (r : Record). IsDone r.mark) x.records) mid.helper [] (helped_done start.front.world start.helper mid.front.world mid.helper e.helped (ap (λ (x : EndSeen). x.records) (helper_is asked ids start pool slots room s)) (refused tasks))
        (All-nil (λ (x : EndSeen). All (λ (r : Record). IsDone r.mark) x.records))));
  }

  -- the end of the front's poster
  pub poster_queue : (asked : Asking) (ids : RunIds) (stop : Option ℕ) (start : FrontStart N) (pool : PoolSeen) (slots : List (WorkerSlot TaskSeen (WorldSeen N))) (room : SideRoom N) (mid : FrontMid N) (left : FrontLeft N) → IsSideStart asked ids start pool slots room → IsFirstEnd asked stop pool start mid → IsDoneBy mid.front.printer left.ends.printer
      → (left.ends.printer.queue ≡ ids.printer) × (left.ends.printer.number ≡ 0)
  poster_queue asked ids stop start pool slots room mid left s e d = (d.queue ∙ (ap (λ t. t.queue) e.printer ∙ ap (λ (p : PosterSeen (PrintJob N)). p.sender.queue) s.poster), d.number ∙ (ap (λ t. t.number) e.printer ∙ ap (λ (p : PosterSeen (PrintJob N)). p.sender.number) s.poster))
