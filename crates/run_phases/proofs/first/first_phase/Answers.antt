use Rattle.std.proofs.Common.{ℕ, List, [], refl, sym, ◌∙◌, subst, true≢false}
use Rattle.fan_model.specs.Tasks.{Run, early_runs}
use Rattle.run_front.specs.Fronts.{AreSomeOf}
use Rattle.run_front.specs.Posted.{HasPosted}
use Rattle.run_phases.proofs.Adders.{first_unused, runs_of_one, set_first, still_one}
use Rattle.run_phases.proofs.Runs.{early_are, early_some, made_by_one, some_all}
use Rattle.run_phases.proofs.first.first_phase.Goals.{in-Ok, in-Err}
use Rattle.run_phases.proofs.first.first_phase.Goals as goal

pub returns-clause-added : goal.returns-clause-added
returns-clause-added g c = elim c.match-added.branch [
  | in-Ok w ↦ λ _. runs_of_one _ _ _ (c.begin_end-ending.ensures.begun.passes_are ∙ set_first _ _ _ c.requires.adders.is) (w.in-Ok.ensures.added ∙ early_are g.N.RunName.asked _ c.early_end-end.ensures.early)
  | in-Err w ↦ λ e. absurd (true≢false (sym w.refused-is ∙ e))
]

pub returns-clause-some : goal.returns-clause-some
returns-clause-some g c = elim c.match-added.branch [
  | in-Ok w ↦ some_all _ _ (runs_of_one _ _ _ (c.begin_end-ending.ensures.begun.passes_are ∙ set_first _ _ _ c.requires.adders.is) (w.in-Ok.ensures.added ∙ early_are g.N.RunName.asked _ c.early_end-end.ensures.early))
  | in-Err w ↦ subst (λ (l : List Run). AreSomeOf [] (early_runs g.N.RunName.asked.lines g.N.RunName.asked.shards g.N.RunName.asked.stop_at) l)
      (sym (runs_of_one _ _ _ (c.begin_end-ending.ensures.begun.passes_are ∙ set_first _ _ _ c.requires.adders.is) refl))
      (early_some g.N.RunName.asked _ _ c.early_end-end.ensures.early w.in-Err.ensures.some)
]

pub returns-clause-adders : goal.returns-clause-adders
returns-clause-adders g c =
    still_one _ _ _ c.index_mut.result.now _ c.requires.adders.is c.index_mut.ensures.value c.requires.adders.number c.early_turns-added.ensures.adder.1 c.begin_end-ending.ensures.begun.passes_are

pub returns-clause-made : goal.returns-clause-made
returns-clause-made g c has =
    let unused = first_unused _ _ _ c.requires.adders.is c.index_mut.ensures.value c.requires.adders.unused in
    made_by_one _ _ c.index_mut.result.now _ _ c.early_turns-added.ensures.made unused (c.begin_end-ending.ensures.begun.passes_are ∙ set_first _ _ _ c.requires.adders.is) has

pub returns-clause-posted : goal.returns-clause-posted
returns-clause-posted g c = λ first so_far. elim c.match-added.branch [
  | in-Ok w ↦ λ _. subst (λ (place : ℕ). HasPosted g.N.RunName.asked place first c.early_turns-added.new.front.printer) c.early_end-end.ensures.at (w.in-Ok.ensures.posted first so_far)
  | in-Err w ↦ λ e. absurd (true≢false (sym w.refused-is ∙ e))
]
