-- What contracts see of cells and of their passes.
use Rattle.std.specs.Prelude.{◌≡◌, ℕ, suc, ◌+◌, ◌<◌, List, [], ◌∷◌, length, sum_by, All}
use Rattle.core_word.specs.Seen.{HomeId, SeenHome, SeenKey, SeenConsumer, SeenHusk}
use Rattle.std.specs.Prelude.{Option}
use Rattle.crossbeam_queue.specs.declared.array_queue.Doing.{Doing}
use Rattle.crossbeam_queue.specs.declared.array_queue.Slotted.{Slotted}
use Rattle.crossbeam_queue.specs.Passes.{Pass, view}

-- which cells they are: no other cells share it
abbrev pub CellsId : Type 0
CellsId = HomeId

-- cells: which they are, and how many
pub record SeenCells : Type 0 where
  pub id : CellsId
  pub size : ℕ

-- A pass: its cells, the first keys of their homes, how many passes they have, and the keys that it took out of their free queue and that it put into it, oldest first.
pub record SeenPass : Type 0 where
  pub cells : SeenCells
  pub homes : List SeenKey
  pub passes : ℕ
  pub took : List SeenKey
  pub put : List SeenKey

-- a pass that has taken and put nothing
abbrev pub new_pass : SeenCells → List SeenKey → ℕ → SeenPass
new_pass cells homes passes = record { cells = cells; homes = homes; passes = passes; took = []; put = [] }

-- all passes of these cells
abbrev pub AreAll : SeenCells → List SeenPass → Type 0
AreAll cells passes = (0 < length passes) × All (λ (pass : SeenPass). (pass.cells ≡ cells) × (pass.passes ≡ length passes)) passes

-- the first key of a home
abbrev pub first_key : SeenHome → SeenKey
first_key home = record { home = home.home; use_number = 0 }

-- the key of the use of a half
abbrev pub key_of_half : SeenConsumer → SeenKey
key_of_half half = record { home = half.home; use_number = half.use_number }

-- the key of the use after that of a husk
abbrev pub next_key : {T C P : Type 0} → SeenHusk T C P → SeenKey
next_key husk = record { home = husk.home; use_number = suc husk.use_number }

-- The keys that are free, and those that the passes took, are the first keys of the homes and those that the passes put, each as often: however keys are weighed, they weigh the same.
abbrev pub took_by : (SeenKey → ℕ) → List SeenPass → ℕ
took_by weight passes = sum_by (λ (pass : SeenPass). sum_by weight pass.took) passes

abbrev pub put_by : (SeenKey → ℕ) → List SeenPass → ℕ
put_by weight passes = sum_by (λ (pass : SeenPass). sum_by weight pass.put) passes

abbrev pub AreFree : List SeenKey → List SeenKey → List SeenPass → Type 0
AreFree keys homes passes = (weight : SeenKey → ℕ) → sum_by weight keys + took_by weight passes ≡ sum_by weight homes + put_by weight passes

-- So many keys are free, by these homes and what these passes took and put.
abbrev pub FreeByAll : ℕ → List SeenKey → List SeenPass → Type 0
FreeByAll n homes passes = (keys : List SeenKey) × (length keys ≡ n) × AreFree keys homes passes

-- So many keys were free at a moment of a call, as far as its pass knows: where it is the only pass of its cells, by what it took and put.
abbrev pub WereFree : ℕ → SeenPass → Type 0
WereFree n pass = pass.passes ≡ 1 → FreeByAll n pass.homes (pass ∷ [])

-- all passes know these homes
abbrev pub KnowHomes : List SeenKey → List SeenPass → Type 0
KnowHomes homes passes = All (λ (pass : SeenPass). pass.homes ≡ homes) passes

module _ {T V : Type 0} where
  -- what a pass knows
  abbrev pub known : Pass T V → V
  known pass = view pass

  -- a pass that has no slot of its queue
  abbrev pub IsIdlePass : Pass T V → Type 0
  IsIdlePass pass = pass.me.1 ≡ []

module _ {T V Q A : Type 0} where
  -- which queue it is
  abbrev pub queue_id : Slotted (Option T) (Doing T V) Q A → CellsId
  queue_id queue = queue.table.shared.table_id
