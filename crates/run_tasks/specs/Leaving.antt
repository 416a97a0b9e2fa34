-- What leaving a core of a cell does to a pass of the cells and to a tally.
use Rattle.std.specs.Prelude.{◌≡◌, ◌⊎◌, ℕ, zero, suc, ◌≤◌, [], ◌∷◌, ◌++◌}
use Rattle.core_cells.specs.Seen.{SeenPass, WereFree}
use Rattle.core_state.specs.declared.schedule.Demand.{Demand}
use Rattle.core_state.specs.declared.schedule.Demand.TheVariants.{Callback}
use Rattle.core_state.specs.declared.schedule.Request.{Request}
use Rattle.core_word.specs.Count.{Counts, added, raised}
use Rattle.core_word.specs.Seen.{HomeId, SeenKey}

-- a core was freed, and its home is ready for another use
abbrev pub with_reopened : Counts → Counts
with_reopened counts = record counts { freed = raised counts.freed; reopened = raised counts.reopened }

-- the pass put the key of the next use of this home; or it stayed, and as many cells were free as there are
abbrev pub PutsBack : SeenKey → SeenPass → SeenPass → Type 0
PutsBack key old new = (new ≡ record old { put = old.put ++ key ∷ [] }) ⊎ ((new ≡ old) × WereFree old.cells.size old)

-- The other half of the core hadn't left, and nothing changed; or it had, and the cell was given back.
abbrev pub LeavesCell : HomeId → ℕ → SeenPass → Counts → SeenPass → Counts → Type 0
LeavesCell home use_number old count new counts =
    ((new ≡ old) × (counts ≡ count)) ⊎ (PutsBack (record { home = home; use_number = suc use_number }) old new × (counts ≡ with_reopened count))

-- Of some home and use: pass and tally stayed, or its core was freed and reopened, and its key put back, or dropped where as many cells were free as there are.
abbrev pub LeavesSome : SeenPass → Counts → SeenPass → Counts → Type 0
LeavesSome old count new counts = (home : HomeId) × (use_number : ℕ) × LeavesCell home use_number old count new counts

-- a callback was set
abbrev pub HasDemanded : {C : Type 0} → Demand C → Type 0
HasDemanded {C} demand = (request : Request C) × (demand ≡ Callback request)

-- What leaving one core does to a tally: nothing, where the other half hadn't left; or a core was freed, and its home is ready for another use.
abbrev pub CountsLeave : Counts → Counts → Type 0
CountsLeave old new = (new ≡ old) ⊎ (new ≡ with_reopened old)

-- so many times a core was freed, and its home is ready for another use
abbrev pub reopened_times : ℕ → Counts → Counts
reopened_times zero counts = counts
reopened_times (suc n) counts = with_reopened (reopened_times n counts)

-- What so many tasks do to a tally: some cores were freed, one a task at most, and their homes are ready for another use. Nothing else is counted.
pub record CountsTasks (tasks : ℕ) (old new : Counts) : Type 0 where
  pub freed : ℕ
  pub few : freed ≤ tasks
  pub is : new ≡ reopened_times freed old

-- so many cores more were made than were forwarded, as far as the numbers go up to
abbrev pub MakesMore : ℕ → Counts → Type 0
MakesMore n counts = counts.made ≡ added counts.forwarded n
