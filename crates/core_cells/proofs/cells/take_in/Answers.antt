use Rattle.std.proofs.Common.{◌≡◌, ap, ◌∙◌, arith, Some}
use Rattle.std.proofs.lemmas.List.Elements.{All-pop}
use Rattle.crossbeam_queue.specs.Passes.{view}
use Rattle.core_cells.specs.declared.view.View.{View}
use Rattle.core_cells.specs.Seen.{SeenPass, queue_id}
use Rattle.core_cells.proofs.Free.{takes_pass_in, took_in, put_in}
use Rattle.core_cells.proofs.cells.take_in.Goals as goal

pub absorb-requires-clause-rule : goal.absorb-requires-clause-rule
absorb-requires-clause-rule g c =
    let i = c.loop-pass.invariant in
    takes_pass_in _ _ _ _ i.1 (λ z. absurd (omega (arith, z, i.2, i.3))) (ap (λ (v : View). v.made) c.into_pass.ensures.view)

pub loop-pass-preserved : goal.loop-pass-preserved
loop-pass-preserved g c =
    let i = c.loop-pass.invariant in
    let items = c.in-Some.ensures.items in
    let known = c.absorb.ensures.rule in
    let pass = c.into_pass.ensures.view in
    let held = ap (λ (v : View). v.held) known in
    let one = ap (λ (v : View). v.held) pass in
    let id = c.absorb.ensures.queue.0 in (
      (id ∙ i.0.0, c.absorb.ensures.queue.2 ∙ i.0.1),
      ap (λ (v : View). v.made) known ∙ i.1,
      omega (arith, held, one, i.2, c.in-Some.ensures.cases),
      omega (arith, i.3, c.in-Some.ensures.cases),
      ap (λ (v : View). v.passes) known ∙ i.4,
      ap (λ (v : View). v.homes) known ∙ i.5,
      (All-pop (λ (pass : SeenPass). pass.cells.id ≡ queue_id c.args.free.now) c.loop-pass.passes.items c.pop.new.self.items (Some c.in-Some.pass) items i.6).0,
      λ weight. took_in weight (view c.loop-pass.whole) (view c.into_pass.result) (view c.absorb.new.pass) c.loop-pass.passes.items c.pop.new.self.items c.in-Some.pass _ items known (ap (λ (v : View). v.took) pass) (i.7 weight),
      λ weight. put_in weight (view c.loop-pass.whole) (view c.into_pass.result) (view c.absorb.new.pass) c.loop-pass.passes.items c.pop.new.self.items c.in-Some.pass _ items known (ap (λ (v : View). v.put) pass) (i.8 weight),
    )
