use Rattle.std.proofs.Common.{◌≡◌, [], ◌∷◌, map, take, drop, length, suc, ◌+◌, ◌≤◌, arith, sym, ap, ◌∙◌, subst}
use mathlib.Core.List.{map-append}
use Rattle.std.proofs.lemmas.List.{length-drop}
use Rattle.job_trait.specs.Runs.{RunsAll}
use Rattle.job_trait.proofs.Histories.{runs_more}
use Rattle.job_trait.proofs.Oldest.{oldest}
use Rattle.job_trait.proofs.manual.ManualExecutor.run.Goals as goal

pub loop-count-preserved : goal.loop-count-preserved
loop-count-preserved g c =
    let i = c.loop-count.invariant in
    let k = c.loop-count.count in
    let all = c.args.self.now.jobs in
    let job = c.in-Some.job in
    let head = g.J.Headed.head in
    let now = oldest all k job c.take_back.new.self.jobs (sym i.left ∙ c.in-Some.ensures.oldest) in
    let next : suc k ≡ k + 1 = omega arith in
    let heads = ap (map head) now.2 ∙ map-append head (take k all) (job ∷ []) in
    let ran = runs_more g.J.Job.runs _ _ _ _ (head job) c.run-mark.result i.ran c.run-mark.ensures.mark c.run-mark.ensures.meaning in
    record {
      left = subst (λ n. c.take_back.new.self.jobs ≡ drop n all) next (sym now.0);
      within = subst (λ n. n ≤ length all) next now.1;
      below = omega (arith, c.loop-count-test.true);
      exec = c.in-Some.ensures.none ∙ i.exec;
      ran = subst (λ n. RunsAll g.J.Job.runs (map head (take n all)) c.args.world.now c.run-mark.new.world) next (subst (λ l. RunsAll g.J.Job.runs l c.args.world.now c.run-mark.new.world) (sym heads) ran);
    }

pub returns-in_default-clause-count : goal.returns-in_default-clause-count
returns-in_default-clause-count g c =
    let i = c.loop-count.invariant in
    let none = ap length (sym i.left ∙ c.in_default.ensures.oldest) in
    let rest = length-drop c.loop-count.count c.args.self.now.jobs in
    let within = i.within in
    let below = i.below in
    omega arith
