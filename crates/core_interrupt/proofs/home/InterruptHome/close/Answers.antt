use Rattle.std.proofs.Common.{ap, sym, ◌∙◌, subst}
use mathlib.Core.Option as maybe
use lib.ListN.{get_elem?}
use Rattle.core_interrupt.specs.State.{code_of}
use Rattle.core_interrupt.specs.Closing.{IsEnd}
use Rattle.core_interrupt.proofs.Endings.{has_state, ended_as, handler_there, object_there, at_one_place, there_is, first_handler, second_object, nothing_remains}
use Rattle.core_interrupt.proofs.home.InterruptHome.close.Goals as goal

pub from_code-state-requires : goal.from_code-state-requires
from_code-state-requires g c = has_state _ _ c.closed-closed.ensures.values.2 _ c.word.ensures

pub returns-clause-untaken : goal.returns-clause-untaken
returns-clause-untaken g c untaken =
    let untouched = c.closed-closed.ensures.untouched (there_is _ (ap (λ home. home.taken) c.self.view_is ∙ untaken)) in
    let second = ap (λ xs. get_elem? xs 1) (sym c.take-first.ensures.others.0) ∙ c.take-second.ensures.value in
    nothing_remains _ c.take-first.result c.take-second.result _
    (at_one_place _ 0 _ _ (ap (λ xs. get_elem? xs 0) untouched.1) c.take-first.ensures.value)
    (at_one_place _ 1 _ _ (ap (λ xs. get_elem? xs 1) untouched.1) second)
    (sym c.from_code-state.ensures ∙ at_one_place _ 0 _ _ (ap (λ ws. get_elem? ws 0) untouched.0) c.word.ensures)
    c.of_slots.ensures.handler c.of_slots.ensures.object c.of_slots.ensures.state

pub returns-clause-ended : goal.returns-clause-ended
returns-clause-ended g c =
    let second = ap (λ xs. get_elem? xs 1) (sym c.take-first.ensures.others.0) ∙ c.take-second.ensures.value in
    record {
      first = c.take-first.result;
      second = c.take-second.result;
      end = ended_as _ _ c.closed-closed.ensures.values.2 _ c.take-first.result c.take-second.result c.word.ensures c.take-first.ensures.value second _ (c.from_code-state.ensures ∙ ap code_of (sym c.of_slots.ensures.state));
      handler = c.of_slots.ensures.handler;
      object = c.of_slots.ensures.object;
    }

pub returns-clause-handler : goal.returns-clause-handler
returns-clause-handler g c is =
    let word = c.word.ensures ∙ ap (λ n. maybe.some n) (c.from_code-state.ensures ∙ ap code_of (sym c.of_slots.ensures.state ∙ is)) in
    let there = handler_there _ _ c.closed-closed.ensures.values.2 word in
    first_handler c.take-first.result c.take-second.result there.0 _ (at_one_place _ 0 _ _ there.1 c.take-first.ensures.value) c.of_slots.ensures.handler

pub returns-clause-object : goal.returns-clause-object
returns-clause-object g c is =
    let word = c.word.ensures ∙ ap (λ n. maybe.some n) (c.from_code-state.ensures ∙ ap code_of (sym c.of_slots.ensures.state ∙ is)) in
    let there = object_there _ _ c.closed-closed.ensures.values.2 word in
    let second = ap (λ xs. get_elem? xs 1) (sym c.take-first.ensures.others.0) ∙ c.take-second.ensures.value in
    second_object c.take-first.result c.take-second.result there.0 _ (at_one_place _ 1 _ _ there.1 second) c.of_slots.ensures.object
