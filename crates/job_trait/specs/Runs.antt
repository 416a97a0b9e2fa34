-- Jobs that ran one after another, and what they did to a world.
use Rattle.std.specs.Prelude.{◌≡◌, List, [], ◌∷◌, map, All}
use Rattle.fan_base.specs.declared.number.JobId.{JobId}
use Rattle.fan_base.specs.declared.number.Mark.{Mark}
use Rattle.fan_base.specs.declared.number.Mark.TheVariants.{Done}
use Rattle.job_trait.specs.declared.job.Head.{Head}
use Rattle.job_trait.specs.Marks.{IsMarkOf, IsDone}

-- a job's id, and the mark that a run of it had
abbrev pub Ran : Type 0
Ran = JobId × Mark

module _ {W : Type 0} (runs : JobId → W → Mark → W → Type 0) where
  -- through a world between each two of them
  abbrev pub Through : W → List Ran → W → Type 0
  Through w [] v = w ≡ v
  Through w (r ∷ rs) v = (m : W) × runs r.0 w r.1 m × Through m rs v

  -- jobs with these ids, which had these marks, lead in this order from the world w to the world v
  pub record Leads (w : W) (list : List Ran) (v : W) : Type 0 where
    pub through : Through w list v

-- each job ran once, in this order, and had a mark of its own
abbrev pub AreMarksOf : List Head → List Ran → Type 0
AreMarksOf [] [] = Unit {0}
AreMarksOf [] (r ∷ rs) = ⊥
AreMarksOf (h ∷ hs) [] = ⊥
AreMarksOf (h ∷ hs) (r ∷ rs) = (r.0 ≡ h.id) × IsMarkOf h.number r.1 × AreMarksOf hs rs

-- these jobs, each run once and in this order, lead from the world w to the world v
pub record RunsAll {W : Type 0} (runs : JobId → W → Mark → W → Type 0) (heads : List Head) (w v : W) : Type 0 where
  pub list : List Ran
  pub marks : AreMarksOf heads list
  pub leads : Leads runs w list v

-- the job ran, and was done with its own number
abbrev pub done_of : Head → Ran
done_of h = (h.id, Done h.number)

module _ {W : Type 0} (runs : JobId → W → Mark → W → Type 0) (Fact : W → Type 0) where
  -- A run after which the fact holds began where it held too, and had a mark with the other fact. So it is with a flag that a run may raise
  -- and never takes down: where it is down after a run, it was down before, and the run didn't raise it.
  abbrev pub IsKnownBackwards : (JobId → Mark → Type 0) → Type 0
  IsKnownBackwards Other = (id : JobId) (w : W) (mark : Mark) (v : W) → runs id w mark v → Fact v → Fact w × Other id mark

  -- the fact held of the world at the beginning, and each mark on the way has the other fact
  pub record HeldThroughout (Other : JobId → Mark → Type 0) (w : W) (list : List Ran) : Type 0 where
    pub first : Fact w
    pub marks : All (λ r. Other r.0 r.1) list

  -- where each run tells the two facts backwards, so does a list of runs
  abbrev pub TellsBackwards : (JobId → Mark → Type 0) → Type 0
  TellsBackwards Other = IsKnownBackwards Other → (w v : W) (list : List Ran) → Leads runs w list v → Fact v → HeldThroughout Other w list

  -- where each run tells backwards that it was done, each of these jobs was done with its own number
  abbrev pub TellsAllDone : Type 0
  TellsAllDone = IsKnownBackwards (λ _ mark. IsDone mark) → (w v : W) (heads : List Head) → RunsAll runs heads w v → Fact v → Leads runs w (map done_of heads) v
