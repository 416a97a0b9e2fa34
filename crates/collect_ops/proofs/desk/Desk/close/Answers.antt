use Rattle.std.proofs.Common.{◌≢◌, ◌+◌, ◌≤◌, ℕ, List, [], ◌∷◌, length, sym, ap, ◌∙◌, subst, Option, Some, arith}
use lib.ListN.{get_elem?}
use Rattle.collect_ops.specs.declared.view.Item.TheVariants as item
use Rattle.collect_ops.specs.Rule.{Held}
use Rattle.std.specs.Prelude.{slice_index}
use Rattle.std.specs.Slots.{slots_items}
use Rattle.collect_ops.specs.Closing.{Closes, held_end, kept_from, uncounted}
use Rattle.collect_ops.specs.Steps.{Standing}
use Rattle.collect_ops.specs.Views.{size_in, end_in}
use Rattle.collect_ops.proofs.Closing.{end_there, kept_back, nothing_kept, there_is, two_words, same_end, end_unclaimed, no_end_counted, no_end_claimed, none_counted, all_uncounted}
use Rattle.collect_ops.proofs.desk.Desk.close.Goals as goal

pub returns-clause-untaken : goal.returns-clause-untaken
returns-clause-untaken g c untaken =
    let closed = c.closed.ensures.untouched (there_is _ (ap (λ d. d.taken) c.self.view_is ∙ untaken)) in
    let words = closed.untouched.words_are in
    let many = c.self.invariant.0 in
    let left_is = c.of.ensures.left ∙ ap (λ (l : List ℕ). slice_index l 0) words in
    let claimed_is = c.of.ensures.claimed ∙ ap (λ (l : List ℕ). slice_index l 1) words in
    let some : c.of.result.left ≢ 0 = λ e. absurd (omega arith) in
    let held = c.of.ensures.end in (
      c.of.ensures.outcomes ∙ (all_uncounted _ _ some ∙ nothing_kept _ _ _ _ closed),
      held.2 ∙ (end_unclaimed c.of.result.left c.of.result.claimed (held_end held.0) some claimed_is ∙ (same_end c.self.inside.size (slots_items c.closed.result.slots) held.0 (Some (item.End closed.ending)) held.1 closed.untouched.ending ∙ (sym closed.same ∙ ap (λ d. d.desk.end) c.self.view_is))),
    )

pub returns-clause-counted : goal.returns-clause-counted
returns-clause-counted g c none = (c.of.ensures.outcomes ∙ none_counted _ _ none, c.of.ensures.end.2 ∙ no_end_counted _ _ _ none)

pub returns-clause-claimed : goal.returns-clause-claimed
returns-clause-claimed g c claimed = c.of.ensures.end.2 ∙ no_end_claimed _ _ _ claimed

pub returns-clause-end : goal.returns-clause-end
returns-clause-end g c claimed left =
    let last = c.closed.ensures.last in
    let held = c.of.ensures.end in
    let there = end_there _ _ _ _ last (sym c.of.ensures.claimed ∙ claimed) (λ e. left (c.of.ensures.left ∙ e)) in
    held.2 ∙ (end_unclaimed c.of.result.left c.of.result.claimed (held_end held.0) left claimed ∙ (same_end c.self.inside.size (slots_items c.closed.result.slots) held.0 (Some (item.End last.ending)) held.1 there ∙ (sym last.same ∙ ap (λ d. d.desk.end) c.self.view_is)))

pub returns-clause-kept : goal.returns-clause-kept
returns-clause-kept g c left =
    let count = kept_back _ _ _ _ c.closed.ensures.last (λ e. left (c.of.ensures.left ∙ e)) in
    let left_is = c.of.ensures.left in
    let outcomes = ap length (c.of.ensures.outcomes ∙ all_uncounted _ _ left) in
    let size = sym (ap (λ d. d.desk.size) c.self.view_is) ∙ ap (λ (m : Standing g.row.X.Denot g.row.E.Denot). size_in m.0) c.self.invariant.2.sits.stands in
    omega arith

pub returns-clause-ended : goal.returns-clause-ended
returns-clause-ended g c =
    let last = c.closed.ensures.last in
    let held = c.of.ensures.end in
    let words = two_words _ _ _ _ last ∙ (λ i. sym c.of.ensures.left i ∷ sym c.of.ensures.claimed i ∷ []) in
    let end = ap (λ d. d.desk.end) c.self.view_is in
    let size = sym (ap (λ (m : Standing g.row.X.Denot g.row.E.Denot). size_in m.0) c.self.invariant.2.sits.stands) ∙ ap (λ d. d.desk.size) c.self.view_is in
    record {
      slots = slots_items c.closed.result.slots;
      closes = subst (λ (z : (ℕ × Option g.row.E.Denot) × List ℕ). Closes z.0.0 z.0.1 z.1 (slots_items c.closed.result.slots)) (λ i. ((size i, end i), words i)) last;
      outcomes = c.of.ensures.outcomes ∙ ap (λ (n : ℕ). uncounted c.of.result.left (kept_from 0 n (slots_items c.closed.result.slots))) size;
      held = held.0;
      in_last = sym (ap (λ (n : ℕ). get_elem? (slots_items c.closed.result.slots) n) size) ∙ held.1;
      end = held.2;
    }
