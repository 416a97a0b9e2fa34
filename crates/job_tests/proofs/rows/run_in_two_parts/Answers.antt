use Rattle.std.proofs.Common.{List, ◌++◌, map, take, drop, sym, ap, ◌∙◌, subst}
use Rattle.std.proofs.lemmas.List.{take-append-drop}
use mathlib.Core.List.{map-append}
use Rattle.job_trait.specs.declared.job.Head.{Head}
use Rattle.job_trait.specs.Runs.{RunsAll}
use Rattle.job_tests.proofs.rows.run_in_two_parts.Goals as goal

pub returns-clause-ran : goal.returns-clause-ran
returns-clause-ran g c =
    let head = g.J.Headed.head in
    let all = c.args.executor.now.jobs in
    let k = c.run.result in
    let first = map head (take k all) in
    let both = c.all_jobs_of_two_lists.ensures.append _ _ _ first (map head c.run.new.self.jobs) c.run.ensures.ran c.drain.ensures.ran in
    let rest = ap (λ e. first ++ map head e.jobs) c.run.ensures.left in
    let whole = sym (map-append head (take k all) (drop k all)) ∙ ap (map head) (take-append-drop k all) in
    subst (λ (l : List Head). RunsAll g.J.Job.runs l c.args.world.now c.drain.new.world) (rest ∙ whole) both
