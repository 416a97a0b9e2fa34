use Rattle.std.proofs.Common.{◌≡◌, ◌-◌, ◌<◌, List, length, refl, sym, ap, ◌∙◌, subst, le_trans, rules, arith}
use Rattle.std.proofs.lemmas.Grind.{common_steps}
use Rattle.atomic_table.specs.Table.{Me, turned}
use Rattle.collect_ops.specs.declared.view.View.{View}
use Rattle.collect_ops.specs.Rule.{Held}
use Rattle.collect_ops.proofs.Listing.{Still, still_begins, still_head, still_next, still_ends}
use Rattle.collect_ops.proofs.steps.take_list.Goals as goal

pub loop-left-init : goal.loop-left-init
loop-left-init g c =
    let none = ap length c.requires.room.0 in
    record {
      table = refl;
      view = search rules;
      slots = λ ys long are. still_begins ys _ _ _ long are c.requires.room.0;
      room = c.requires.room.1;
      len = grind (arith, common_steps, none);
    }

pub take_outcome-outcome-requires : goal.take_outcome-outcome-requires
take_outcome-outcome-requires g c =
    let is = c.requires.slots in
    let pos : 0 < c.loop-left.left = omega (arith, c.loop-left-test.true) in
    (c.loop-left.invariant.table ∙ c.requires.table, still_head _ _ _ _ _ (c.loop-left.invariant.slots is.0 is.1 is.2) pos)

pub loop-left-preserved : goal.loop-left-preserved
loop-left-preserved g c =
    let pos : 0 < c.loop-left.left = omega (arith, c.loop-left-test.true) in
    let len = c.loop-left.invariant.len in
    record {
      table = c.turn.ensures.0 ∙ (c.take_outcome-outcome.ensures.sits.of_table ∙ sym c.requires.table);
      view = ap (λ (m : Me (Held g.row.X.Denot g.row.E.Denot) (View g.row.X.Denot g.row.E.Denot)). m.0) c.turn.ensures.2 ∙ (ap (λ (m : Me (Held g.row.X.Denot g.row.E.Denot) (View g.row.X.Denot g.row.E.Denot)). m.0) c.take_outcome-outcome.ensures.sits.stands ∙ c.loop-left.invariant.view);
      slots = λ ys long are. subst (λ (l : List g.row.X.Denot). Still ys l (c.loop-left.left - 1) c.args.size c.turn.new.self.me.1) (sym c.in-Ok.ensures.items)
          (still_next _ _ _ _ _ _ _ (c.loop-left.invariant.slots ys long are) pos c.take_outcome-outcome.ensures.had (ap (λ (m : Me (Held g.row.X.Denot g.row.E.Denot) (View g.row.X.Denot g.row.E.Denot)). m.1) c.turn.ensures.2 ∙ ap (λ (m : Me (Held g.row.X.Denot g.row.E.Denot) (View g.row.X.Denot g.row.E.Denot)). turned m.1) c.take_outcome-outcome.ensures.sits.stands));
      room = le_trans c.loop-left.invariant.room c.in-Ok.ensures.capacity;
      len = let e = c.in-Ok.ensures.len in omega arith;
    }

pub unreachable-requires : goal.unreachable-requires
unreachable-requires g c =
    let full = c.in_default.ensures.full in
    let room = c.loop-left.invariant.room in
    let len = c.loop-left.invariant.len in
    let pos = c.loop-left-test.true in
    omega arith

pub returns-clause-list : goal.returns-clause-list
returns-clause-list g c ys long are =
    let none : c.loop-left.left ≡ 0 = omega (arith, c.loop-left-test.false) in
    (still_ends _ _ _ _ _ (c.loop-left.invariant.slots ys long are) none).0

pub returns-clause-sits : goal.returns-clause-sits
returns-clause-sits g c =
    let none : c.loop-left.left ≡ 0 = omega (arith, c.loop-left-test.false) in
    let is = c.requires.slots in
    let ends = still_ends _ _ _ _ _ (c.loop-left.invariant.slots is.0 is.1 is.2) none in
    record {
      of_table = c.loop-left.invariant.table ∙ c.requires.table;
      stands = λ i. (c.loop-left.invariant.view i, ends.1 i);
    }
