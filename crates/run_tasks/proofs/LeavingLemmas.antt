-- What a leave of a core does to a pass and to a tally.
use Rattle.std.proofs.Common.{◌≡◌, inl, inr, ℕ, suc, sym, subst}
use Rattle.core_cells.specs.Seen.{SeenCells, SeenPass, WereFree, next_key}
use Rattle.core_word.specs.Answers.{MatchLeft}
use Rattle.core_word.specs.Count.{Counts}
use Rattle.core_word.specs.declared.left.Left.{Left}
use Rattle.core_word.specs.declared.left.Left.TheVariants as left
use Rattle.core_word.specs.Seen.{HomeId, SeenKey}
use Rattle.run_tasks.specs.Leaving.{LeavesCell, PutsBack, with_reopened}

-- a key that finds no room, by what the cells' own call says of it
pub full_back : (key : SeenKey) (cells : SeenCells) (old new : SeenPass) → old.cells ≡ cells → new ≡ old → WereFree cells.size old → PutsBack key old new
full_back key cells old new of same full = inr (same, subst (λ (c : SeenCells). WereFree c.size old) (sym of) full)

-- the leave of a half of this use, and what was done with its answer
pub leaves-by : {T C P : Type 0} (answer : Left T C P) (home : HomeId) (use_number : ℕ) (old new : SeenPass) (count counts : Counts)
    → MatchLeft answer (λ receipt. receipt.home ≡ home) (λ leftover husk. husk.home ≡ home)
    → MatchLeft answer (λ receipt. receipt.use_number ≡ use_number) (λ leftover husk. husk.use_number ≡ use_number)
    → MatchLeft answer (λ receipt. (new ≡ old) × (counts ≡ count)) (λ leftover husk. PutsBack (next_key husk) old new × (counts ≡ with_reopened count))
    → LeavesCell home use_number old count new counts
leaves-by (left.First receipt) home use_number old new count counts at of kept = inl kept
leaves-by (left.Last leftover husk) home use_number old new count counts at of put =
    inr (subst (λ (key : SeenKey). PutsBack key old new) (λ i. record { home = at i; use_number = suc (of i) }) put.0, put.1)
