use Rattle.std.proofs.Common.{◌≡◌, ◌++◌, ◌||◌, Bool, suc, List, [], ◌∷◌, length, length-append, map, refl, sym, ap, ◌∙◌, subst, append-nil, append_assoc, arith}
use Rattle.std.proofs.lemmas.List.{nil_from_length}
use Rattle.std.proofs.Math.Bool.{or-false, or_assoc}
use Rattle.std.specs.List.{list_any}
use Rattle.std.specs.Vec.Iter.{into_iter_items}
use Rattle.core_cells.specs.Seen.{SeenPass}
use Rattle.core_word.specs.Count.{Counts}
use Rattle.run_tasks.specs.declared.world.TaskEnds.{TaskEnds}
use Rattle.run_setup.specs.Closing.{AreColumnsBack, AreTaskEnds, AreWorldEnds, merged_with}
use Rattle.run_setup.proofs.CollectLemmas.{WorldsSoFar, worlds-more, worlds-none}
use Rattle.run_setup.proofs.Each.{down_first}
use Rattle.run_setup.proofs.collecting.Worlds.put_all.Goals as goal

abbrev pass_of : {N : Type 0} → TaskEnds N → SeenPass
pass_of w = w.pass

abbrev refused_of : {N : Type 0} → TaskEnds N → Bool
refused_of w = w.refused

abbrev counts_of : {N : Type 0} → TaskEnds N → Counts
counts_of w = w.tally

pub loop-world-init : goal.loop-world-init
loop-world-init g c =
    let items = into_iter_items c.into_iter-left.result in
    let same : items ≡ c.args.worlds.items = c.into_iter-left.ensures.rest in
    let self = c.args.self.now in
    record {
      passes = ap (λ (l : List (TaskEnds g.row.N.Denot)). self.passes.items ++ map pass_of l) same;
      room = omega (arith, ap length same, c.requires.room);
      capacity = refl;
      tally = ap (λ (l : List (TaskEnds g.row.N.Denot)). merged_with self.counted.tally (map counts_of l)) same;
      refused = ap (λ (l : List (TaskEnds g.row.N.Denot)). self.counted.refused || list_any refused_of l) same;
      so_far = λ ids back are. worlds-none ids items self.columns.items (subst (λ (l : List (TaskEnds g.row.N.Denot)). AreWorldEnds ids l) (sym same) are) back;
    }

pub put-requires-clause-back : goal.put-requires-clause-back
put-requires-clause-back g c =
    let r = c.requires.back in
    let rest = into_iter_items c.next.new.self in
    let next : into_iter_items c.loop-world.left ≡ c.in-Some.world ∷ rest = c.in-Some.ensures.cases.0 in
    let so = subst (λ (l : List (TaskEnds g.row.N.Denot)). WorldsSoFar r.0 l c.loop-world.self.columns.items) next (c.loop-world.invariant.so_far r.0 r.1 r.2) in
    (r.0, suc (length rest), so.put_back, down_first (AreTaskEnds r.0) c.in-Some.world rest so.left)

pub loop-world-preserved : goal.loop-world-preserved
loop-world-preserved g c =
    let i = c.loop-world.invariant in
    let self = c.loop-world.self in
    let world = c.in-Some.world in
    let rest = into_iter_items c.next.new.self in
    let next : into_iter_items c.loop-world.left ≡ world ∷ rest = c.in-Some.ensures.cases.0 in
    record {
      passes = ap (λ (l : List SeenPass). l ++ map pass_of rest) c.put.ensures.pass
          ∙ (append_assoc self.passes.items (world.pass ∷ []) (map pass_of rest) ∙ (ap (λ (l : List (TaskEnds g.row.N.Denot)). self.passes.items ++ map pass_of l) (sym next) ∙ i.passes));
      room = omega (arith, i.room, ap length next, ap length c.put.ensures.pass, length-append self.passes.items (world.pass ∷ []), c.put.ensures.capacity);
      capacity = c.put.ensures.capacity ∙ i.capacity;
      tally = ap (λ (t : Counts). merged_with t (map counts_of rest)) c.put.ensures.tally
          ∙ (ap (λ (l : List (TaskEnds g.row.N.Denot)). merged_with self.counted.tally (map counts_of l)) (sym next) ∙ i.tally);
      refused = ap (λ (b : Bool). b || list_any refused_of rest) c.put.ensures.refused
          ∙ (or_assoc self.counted.refused world.refused (list_any refused_of rest) ∙ (ap (λ (l : List (TaskEnds g.row.N.Denot)). self.counted.refused || list_any refused_of l) (sym next) ∙ i.refused));
      so_far = λ ids back are.
          let so = subst (λ (l : List (TaskEnds g.row.N.Denot)). WorldsSoFar ids l self.columns.items) next (i.so_far ids back are) in
          worlds-more ids world rest self.columns.items c.put.new.self.columns.items so (λ before ends. c.put.ensures.columns ids (suc (length rest)) before ends);
    }

pub returns-clause-columns : goal.returns-clause-columns
returns-clause-columns g c = λ ids back are.
    let none = nil_from_length (into_iter_items c.loop-world.left) (omega (arith, c.in_default.ensures.cases.0, c.loop-world.left.rest.ok.0)) in
    subst (λ (l : List (TaskEnds g.row.N.Denot)). AreColumnsBack ids (suc (length l)) c.loop-world.self.columns.items) none (c.loop-world.invariant.so_far ids back are).put_back

pub returns-clause-passes : goal.returns-clause-passes
returns-clause-passes g c =
    let none = nil_from_length (into_iter_items c.loop-world.left) (omega (arith, c.in_default.ensures.cases.0, c.loop-world.left.rest.ok.0)) in
    let passes = c.loop-world.self.passes.items in
    sym (append-nil passes) ∙ (ap (λ (l : List (TaskEnds g.row.N.Denot)). passes ++ map pass_of l) (sym none) ∙ c.loop-world.invariant.passes)

pub returns-clause-tally : goal.returns-clause-tally
returns-clause-tally g c =
    let none = nil_from_length (into_iter_items c.loop-world.left) (omega (arith, c.in_default.ensures.cases.0, c.loop-world.left.rest.ok.0)) in
    ap (λ (l : List (TaskEnds g.row.N.Denot)). merged_with c.loop-world.self.counted.tally (map counts_of l)) (sym none) ∙ c.loop-world.invariant.tally

pub returns-clause-refused : goal.returns-clause-refused
returns-clause-refused g c =
    let none = nil_from_length (into_iter_items c.loop-world.left) (omega (arith, c.in_default.ensures.cases.0, c.loop-world.left.rest.ok.0)) in
    let refused = c.loop-world.self.counted.refused in
    sym (or-false refused) ∙ (ap (λ (l : List (TaskEnds g.row.N.Denot)). refused || list_any refused_of l) (sym none) ∙ c.loop-world.invariant.refused)
