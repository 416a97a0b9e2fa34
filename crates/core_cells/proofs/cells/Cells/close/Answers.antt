use Rattle.std.proofs.Common.{◌≡◌, ◌≤◌, ap, ◌∙◌, subst, arith, length, Some}
use Rattle.std.proofs.lemmas.List.Elements.{All-pop}
use Rattle.crossbeam_queue.specs.Passes.{view}
use Rattle.core_cells.specs.declared.view.View.{View}
use Rattle.core_cells.specs.Seen.{SeenCells, SeenPass}
use Rattle.core_cells.proofs.Free.{learns, all_free, took_last, put_last}
use Rattle.core_cells.proofs.cells.Cells.close.Goals as goal

pub len_as-requires-clause-rule : goal.len_as-requires-clause-rule
len_as-requires-clause-rule g c =
    let held = c.take_in.ensures.whole.2 in
    learns _ _ (λ z. absurd (omega (arith, z, held)))

pub returns : goal.returns
returns g c = record {
  most = subst (λ n. c.len_as.result ≤ n) (ap (λ (cells : SeenCells). cells.size) c.self.view_is) c.len_as.ensures.rule.0;
  free = λ homes know.
      let items = c.in-Some.ensures.items in
      let last = c.into_pass-whole.ensures.view in
      let held = c.take_in.ensures.whole.2 in
      let here = (All-pop (λ (pass : SeenPass). (pass.cells ≡ c.args.self) × (pass.passes ≡ length c.args.passes.items)) c.args.passes.items c.pop.new.self.items (Some c.in-Some.last) items c.requires.all.1).1 in
      let passes = c.take_in.ensures.knows.0 ∙ (ap (λ (v : View). v.passes) last ∙ here.1) in
      let same = c.take_in.ensures.knows.1 ∙ (ap (λ (v : View). v.homes) last ∙ (All-pop (λ (pass : SeenPass). pass.homes ≡ homes) c.args.passes.items c.pop.new.self.items (Some c.in-Some.last) items know).1) in
      all_free _ (view c.take_in.new.whole) homes c.args.passes.items c.len_as.ensures.rule.1 c.take_in.ensures.whole.1 (omega (arith, held, passes, c.in-Some.ensures.cases)) same
      (λ weight. c.take_in.ensures.took weight ∙ took_last weight (view c.into_pass-whole.result) c.args.passes.items c.pop.new.self.items c.in-Some.last items (ap (λ (v : View). v.took) last))
      (λ weight. c.take_in.ensures.put weight ∙ put_last weight (view c.into_pass-whole.result) c.args.passes.items c.pop.new.self.items c.in-Some.last items (ap (λ (v : View). v.put) last));
}
