-- The runs of a pool that has ended, and of what came behind its stop.
use Rattle.std.proofs.Common.{◌≡◌, ℕ, ◌+◌, ◌≤◌, List, [], ◌∷◌, ◌++◌, Bool, false, length, map, drop, append-nil, refl, sym, ap, ◌∙◌, subst, length-append, arith, true≢false, true}
use Rattle.std.specs.Prelude.{Option, Some, None}
use Rattle.std.specs.List.{sum_by}
use Rattle.std.proofs.lemmas.List.{length-map}
use Rattle.std.proofs.lemmas.List.Sums.{sum_by-cons}
use Rattle.query_model.specs.Order.{Asked}
use Rattle.fan_model.specs.Answered.{answered_in, early_of, is_stopped, late_of}
use Rattle.fan_model.specs.Comings.{comings_of}
use Rattle.fan_model.specs.Report.{Asking, IsEachOnce, IsPoolReport}
use Rattle.fan_model.specs.Tasks.{Run, early_runs, front_exec, late_runs, pool_exec, task_runs}
use Rattle.pool_model.specs.Passes.{adds_of, adds_total}
use Rattle.pool_model.specs.Seen.{PassSeen}
use Rattle.prio_pool.specs.Running.{DirectSeen}
use Rattle.run_notes.specs.Accounts.{AccountsFor, runs_added}
use Rattle.run_notes.specs.declared.ending.PoolNotes.{PoolNotes}
use Rattle.run_notes.specs.Told.{run_of, run_of_add, run_of_direct, told_of, unmarked}
use Rattle.run_plan.specs.declared.turn.Turn.{Turn}
use Rattle.run_plan.specs.Turns.{begun_in}
use Rattle.run_front.specs.Fronts.{AreSomeOf, TellSomeOf}
use Rattle.run_notes.specs.Accounts.{HaveAllRun}
use Rattle.query_tasks.specs.Ends.{seen_of}
use Rattle.run_phases.specs.declared.first.FrontMid.{FrontMid}
use Rattle.run_phases.specs.declared.second.FrontLeft.{FrontLeft}
use Rattle.run_phases.specs.Phases.{IsStopAccount, StopsAt}
use Rattle.run_phases.proofs.Adders.{runs_of_one}
use Rattle.run_tasks.specs.declared.world.TaskEnds.{TaskEnds}
use Rattle.run_tasks.specs.Heads.{task_head}
use Rattle.run_tasks.specs.Leaving.{MakesMore}
use Rattle.run_tasks.specs.Seen.{WorldSeen}
use Rattle.run_tasks.specs.Worlds.{MadeFor, TaskRan}

pub early_are : (asked : Asking) (queries : List Asked) → queries ≡ early_of asked.stop_at (answered_in asked.lines) → task_runs asked.lines asked.shards pool_exec queries ≡ early_runs asked.lines asked.shards asked.stop_at
unfolding early_runs
early_are asked queries is = ap (λ (qs : List Asked). task_runs asked.lines asked.shards pool_exec qs) is

late_are : (asked : Asking) (queries : List Asked) → queries ≡ late_of asked.stop_at (answered_in asked.lines) → task_runs asked.lines asked.shards (front_exec asked.bases) queries ≡ late_runs asked.lines asked.shards asked.bases asked.stop_at
unfolding late_runs
late_are asked queries is = ap (λ (qs : List Asked). task_runs asked.lines asked.shards (front_exec asked.bases) qs) is

pub late_some : (asked : Asking) (turns : List Turn) (stop : Option ℕ) (place : ℕ) (old new : List DirectSeen) → StopsAt asked turns stop → stop ≡ Some place → old ≡ []
    → map run_of_direct new ≡ map run_of_direct old ++ task_runs asked.lines asked.shards (front_exec asked.bases) (begun_in (drop place (comings_of asked.lines)))
    → map run_of_direct new ≡ late_runs asked.lines asked.shards asked.bases asked.stop_at
late_some asked turns stop place old new stops is none put =
    let at : StopsAt asked turns (Some place) = subst (λ (s : Option ℕ). StopsAt asked turns s) is stops in
    put ∙ (ap (λ (l : List DirectSeen). map run_of_direct l ++ task_runs asked.lines asked.shards (front_exec asked.bases) (begun_in (drop place (comings_of asked.lines)))) none ∙ late_are asked _ at.0.late)

pub late_none : (asked : Asking) (turns : List Turn) (stop : Option ℕ) (direct : List DirectSeen) → StopsAt asked turns stop → stop ≡ None → direct ≡ []
    → map run_of_direct direct ≡ late_runs asked.lines asked.shards asked.bases asked.stop_at
late_none asked turns stop direct stops is none =
    let at : StopsAt asked turns None = subst (λ (s : Option ℕ). StopsAt asked turns s) is stops in
    ap (λ (l : List DirectSeen). map run_of_direct l) none ∙ late_are asked [] (sym at.late)

pub adds_counted : (passes : List PassSeen) → adds_total passes ≡ length (runs_added passes)
adds_counted [] = refl
adds_counted (p ∷ ps) = omega (arith, sum_by-cons (λ (q : PassSeen). length (adds_of q)) p ps, adds_counted ps, length-map (adds_of p) run_of_add, length-append (map run_of_add (adds_of p)) (runs_added ps))

pub report_is : (asked : Asking) (passes : List PassSeen) (notes : PoolNotes) (direct : List DirectSeen) (stops : Bool) → AccountsFor passes notes → runs_added passes ≡ early_runs asked.lines asked.shards asked.stop_at
    → map run_of_direct direct ≡ late_runs asked.lines asked.shards asked.bases asked.stop_at → notes.ran.stopped ≡ stops → stops ≡ is_stopped asked.stop_at (answered_in asked.lines)
    → (stops ≡ false → notes.returned ≡ []) → IsPoolReport asked (told_of (record { accepted = notes.accepted; ran = notes.ran; returned = notes.returned; direct = direct }))
report_is asked passes notes direct stops accounts early late stopped is joined = record {
  accepted = accounts.accepted ∙ (adds_counted passes ∙ ap length early);
  early = subst (λ (runs : List Run). IsEachOnce runs (map run_of notes.ran.records ++ map run_of notes.returned)) early accounts.early;
  late = record { weigh = λ weight. ap (sum_by weight) late };
  stopped = stopped ∙ is;
  joined = λ none. ap (map run_of) (joined (sym stopped ∙ none));
}

pub is_unstopped : (asked : Asking) (turns : List Turn) (stop : Option ℕ) → StopsAt asked turns stop → stop ≡ None → is_stopped asked.stop_at (answered_in asked.lines) ≡ false
is_unstopped asked turns stop stops none =
    let at : StopsAt asked turns None = subst (λ (s : Option ℕ). StopsAt asked turns s) none stops in
    at.stopped

pub is_nowhere : (asked : Asking) (turns : List Turn) (stop : Option ℕ) → StopsAt asked turns stop → is_stopped asked.stop_at (answered_in asked.lines) ≡ false → stop ≡ None
is_nowhere asked turns None stops unstopped = refl
is_nowhere asked turns (Some place) stops unstopped = absurd (true≢false (sym stops.0.stopped ∙ unstopped))

-- all of them are some of them, and so are none
pub some_all : (all runs : List Run) → runs ≡ all → AreSomeOf [] all runs
some_all all runs are = record { done = runs; left = []; are = refl; whole = append-nil runs ∙ are }

pub some_none : (all runs : List Run) → runs ≡ [] → AreSomeOf [] all runs
some_none all runs none = record { done = []; left = all; are = none; whole = refl }

pub none_ran : (asked : Asking) (direct : List DirectSeen) → direct ≡ [] → AreSomeOf [] (late_runs asked.lines asked.shards asked.bases asked.stop_at) (map run_of_direct direct)
none_ran asked direct none = some_none _ _ (ap (map run_of_direct) none)

pub early_some : (asked : Asking) (queries : List Asked) (runs : List Run) → queries ≡ early_of asked.stop_at (answered_in asked.lines) → AreSomeOf [] (task_runs asked.lines asked.shards pool_exec queries) runs
    → AreSomeOf [] (early_runs asked.lines asked.shards asked.stop_at) runs
early_some asked queries runs is some = subst (λ (l : List Run). AreSomeOf [] l runs) (early_are asked queries is) some

-- where the late turns end before the last one, some of the late runs came
pub late_front : (asked : Asking) (turns : List Turn) (stop : Option ℕ) (place : ℕ) (old new : List DirectSeen) → StopsAt asked turns stop → stop ≡ Some place → old ≡ []
    → AreSomeOf (map run_of_direct old) (task_runs asked.lines asked.shards (front_exec asked.bases) (begun_in (drop place (comings_of asked.lines)))) (map run_of_direct new)
    → AreSomeOf [] (late_runs asked.lines asked.shards asked.bases asked.stop_at) (map run_of_direct new)
late_front asked turns stop place old new stops is none some =
    let at : StopsAt asked turns (Some place) = subst (λ (s : Option ℕ). StopsAt asked turns s) is stops in
    let late = late_are asked _ at.0.late in
    record {
      done = some.done;
      left = some.left;
      are = some.are ∙ ap (λ (l : List DirectSeen). map run_of_direct l ++ some.done) none;
      whole = some.whole ∙ late;
    }

-- none ran, so the records tell of none
pub none_told : (all : List Run) (direct : List DirectSeen) → direct ≡ [] → TellSomeOf [] all direct
none_told all direct none = record {
  runs = [];
  tell = ap (λ (l : List DirectSeen). map (λ (r : DirectSeen). unmarked (run_of_direct r)) l) none;
  are = some_none all [] refl;
}

-- what the records of late turns tell of, but for their marks, are some of the late runs
pub late_told : (asked : Asking) (turns : List Turn) (stop : Option ℕ) (place : ℕ) (old new : List DirectSeen) → StopsAt asked turns stop → stop ≡ Some place → old ≡ []
    → TellSomeOf (map run_of_direct old) (task_runs asked.lines asked.shards (front_exec asked.bases) (begun_in (drop place (comings_of asked.lines)))) new
    → TellSomeOf [] (late_runs asked.lines asked.shards asked.bases asked.stop_at) new
late_told asked turns stop place old new stops is none some =
    let at : StopsAt asked turns (Some place) = subst (λ (s : Option ℕ). StopsAt asked turns s) is stops in
    record {
      runs = some.runs;
      tell = some.tell;
      are = record {
        done = some.are.done;
        left = some.are.left;
        are = some.are.are ∙ ap (λ (l : List DirectSeen). map run_of_direct l ++ some.are.done) none;
        whole = some.are.whole ∙ late_are asked _ at.0.late;
      };
    }

pub stop_account : {N : Type 0} (asked : Asking) (mid : FrontMid N) (left : FrontLeft N) → left.note.accepted ≡ adds_total (seen_of mid.ending).passes
    → length left.note.ran.records + length left.note.returned ≤ left.note.accepted → (behind : WorldSeen N)
    → HaveAllRun (task_head asked) TaskRan (seen_of mid.ending).passes left.note.ran.records left.note.returned mid.front.world behind
    → TellSomeOf [] (late_runs asked.lines asked.shards asked.bases asked.stop_at) left.note.direct → (mid.refused ≡ true → left.note.direct ≡ []) → IsStopAccount asked mid left
stop_account asked mid left accepted few behind have direct none = record { accepted = accepted; few = few; back = have.returned; all = have.all; kept = have.kept; direct = direct; none_if_refused = none }

-- what the one adder added is what was added
pub adds_of_one : (passes : List PassSeen) (adder : PassSeen) → passes ≡ adder ∷ [] → length (adds_of adder) ≡ adds_total passes
adds_of_one passes adder is = sym (adds_counted passes ∙ (ap (λ (l : List Run). length l) (runs_of_one passes adder _ is refl) ∙ length-map (adds_of adder) run_of_add))

pub made_by_one : {N : Type 0} (w v : WorldSeen N) (old new : PassSeen) (passes : List PassSeen) → (MadeFor (length (adds_of old)) w → MadeFor (length (adds_of new)) v) → adds_of old ≡ [] → passes ≡ new ∷ []
    → MadeFor 0 w → MadeFor (adds_total passes) v
made_by_one w v old new passes makes unused is none =
    subst (λ (n : ℕ). MadeFor n v) (adds_of_one passes new is) (makes (subst (λ (l : List _). MadeFor (length l) w) (sym unused) none))

-- none ran, and no core more was begun
pub made_before : {N : Type 0} (n : ℕ) (w : WorldSeen N) (direct : List DirectSeen) → direct ≡ [] → MadeFor n w → MadeFor (n + length direct) w
made_before n w direct none made =
    let zero : length direct ≡ 0 = ap (λ (l : List DirectSeen). length l) none in
    subst (λ (k : ℕ). MadeFor k w) (omega (arith, zero)) made

-- what is left of a world has its tally, and as many tasks are told as accepted as were added
pub made_told : {N : Type 0} (total accepted late : ℕ) (w : WorldSeen N) (ends : TaskEnds N) → ends.tally ≡ w.tally → accepted ≡ total → MakesMore (total + late) w.tally → MakesMore (accepted + late) ends.tally
made_told total accepted late w ends same is makes =
    let made : ends.tally.made ≡ w.tally.made = ap (λ t. t.made) same in
    let forwarded : ends.tally.forwarded ≡ w.tally.forwarded = ap (λ t. t.forwarded) same in
    omega (arith, made, forwarded, is, makes)
