-- The rule of the free queue: what it holds, by what all passes took and put.
use Rattle.std.specs.Prelude.{◌≡◌, ◌≢◌, ℕ, suc, ◌+◌, ◌≤◌, List, [], ◌∷◌, ◌++◌, sum_by}
use mathlib.Core.Option.{some}
use lib.ListN.{get_elem?}
use Rattle.core_word.specs.Seen.{SeenKey}
use Rattle.core_cells.specs.declared.view.View.{View}

-- the view of the opening pass
abbrev pub opening : View
opening = record { made = 1; held = 1; passes = 0; homes = []; took = []; put = [] }

-- the view of a pass that was taken in, or was made to be counted alone
abbrev pub spent : View
spent = record { made = 0; held = 0; passes = 0; homes = []; took = []; put = [] }

-- the opening pass puts the first key of a home
abbrev pub fills : View → SeenKey → View → Type 0
fills v key w = w ≡ record { made = v.made; held = v.held; passes = v.passes; homes = v.homes ++ key ∷ []; took = v.took; put = v.put ++ key ∷ [] }

-- It counts a pass that there is to be.
abbrev pub left_by_count : View → View
left_by_count v = record { made = v.made; held = v.held; passes = suc v.passes; homes = v.homes; took = v.took; put = v.put }

abbrev pub right_by_count : View → View
right_by_count v = spent

-- It makes one, which knows how many there are to be, and the homes.
abbrev pub left_by_fork : View → View
left_by_fork v = record { made = suc v.made; held = v.held; passes = v.passes; homes = v.homes; took = v.took; put = v.put }

abbrev pub right_by_fork : View → View
right_by_fork v = record { made = 0; held = 1; passes = v.passes; homes = v.homes; took = []; put = [] }

-- a pass takes another in
abbrev pub with_pass : View → View → View
with_pass v w = record { made = v.made; held = v.held + w.held; passes = v.passes; homes = v.homes; took = v.took ++ w.took; put = v.put ++ w.put }

-- a pass takes a key, and puts one
abbrev pub takes : View → SeenKey → View → Type 0
takes v key w = w ≡ record { made = v.made; held = v.held; passes = v.passes; homes = v.homes; took = v.took ++ key ∷ []; put = v.put }

abbrev pub puts : View → SeenKey → View → Type 0
puts v key w = w ≡ record { made = v.made; held = v.held; passes = v.passes; homes = v.homes; took = v.took; put = v.put ++ key ∷ [] }

-- The keys in the queue and those that were taken are those that were put, each as often: however keys are weighed, they weigh the same.
abbrev pub AreAccounted : List SeenKey → List SeenKey → List SeenKey → Type 0
AreAccounted items took put = (weight : SeenKey → ℕ) → sum_by weight items + sum_by weight took ≡ sum_by weight put

-- What a pass learns of the keys in the queue: with those that it and others took, they are those that it and others put.
pub record Accounts (v : View) (items : List SeenKey) : Type 0 where
  pub took : List SeenKey
  pub put : List SeenKey
  pub accounted : AreAccounted items (v.took ++ took) (v.put ++ put)
  -- before the opening pass has made another, there are no others
  pub none : v.made ≡ v.held → (took ≡ []) × (put ≡ [])
  -- A pass that stands for all passes stands beside the opening one alone, which put the homes.
  pub all : v.made ≡ 0 → v.held ≡ v.passes → (took ≡ []) × (put ≡ v.homes)

-- The opening pass has made all passes, and put the first keys of the homes. Each other pass stands for one or more, or was taken in. All know how many
-- there are to be, and the homes. What all passes took and put accounts for the keys in the queue.
pub record FreeHolds (items : List SeenKey) (views : List View) : Type 0 where
  pub maker : ℕ
  pub first : View
  pub at : get_elem? views maker ≡ some first
  pub made : first.made ≢ 0
  pub stands : first.held ≡ 1
  pub few : first.made ≤ suc first.passes
  pub homes : (first.took ≡ []) × (first.put ≡ first.homes)
  pub makes : (k : ℕ) (v : View) → k ≢ maker → get_elem? views k ≡ some v → v.made ≡ 0
  pub told : (k : ℕ) (v : View) → get_elem? views k ≡ some v → v.held ≢ 0 → (v.passes ≡ first.passes) × (v.homes ≡ first.homes)
  pub idle : (k : ℕ) (v : View) → get_elem? views k ≡ some v → v.held ≡ 0 → (v.took ≡ []) × (v.put ≡ [])
  pub counted : sum_by (λ (v : View). v.held) views ≡ sum_by (λ (v : View). v.made) views
  pub kept : (weight : SeenKey → ℕ) → sum_by weight items + sum_by (λ (v : View). sum_by weight v.took) views ≡ sum_by (λ (v : View). sum_by weight v.put) views
