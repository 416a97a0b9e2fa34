use Rattle.std.proofs.Common.{◌≡◌, ◌<◌, List, [], ◌∷◌, ℕ, refl, sym, ap, ◌∙◌, subst, false}
use Rattle.std.specs.Prelude.{slice_set}
use Rattle.std.specs.Slots.{slots_len, slots_items, IsFull}
use lib.ListN.{get_elem?}
use Rattle.core_state.specs.Table.{code_of}
use Rattle.atomic_table.specs.Table.{Final}
use Rattle.core_word.specs.Rule.{Held, StandsFor}
use Rattle.core_word.specs.Ends.{SeenEnd, state_in, attached_in}
use Rattle.core_word.proofs.Ending.{emptied, end_words, hands_out}
use Rattle.core_word.proofs.close.Unspent.of_closed.Goals as goal

pub new-end-requires : goal.new-end-requires
new-end-requires g c =
    let first = c.take-result_slot.ensures.others in
    let second = c.take-callback_slot.ensures.others in
    let third = c.take-proxy_slot.ensures.others in
    let words = third.3 ∙ (second.3 ∙ first.3) in
    let items = third.0 ∙ (second.0 ∙ first.0) in
    let all = third.1 ∙ ap (λ xs. slice_set xs 2 false) (second.1 ∙ ap (λ xs. slice_set xs 1 false) first.1) in
    let long = third.2 ∙ (second.2 ∙ (first.2 ∙ c.requires.counts.1)) in
    record {
      words = ap slots_len words ∙ c.requires.counts.0;
      slots = long;
      full = subst IsFull (sym words) c.requires.values.0;
      empty = λ k lt. rw all (emptied _ k (subst (λ n. k < n) long lt));
      final = subst (λ (z : List ℕ × List (Held _ _ _)). Final StandsFor z.0 z.1) (λ i. (ap slots_items (sym words) i, sym items i)) c.requires.values.2;
    }

pub returns-clause-words : goal.returns-clause-words
returns-clause-words g c =
    let words = c.take-proxy_slot.ensures.others.3 ∙ (c.take-callback_slot.ensures.others.3 ∙ c.take-result_slot.ensures.others.3) in
    end_words _ _ c.requires.values.2 ∙ (ap (λ ws. code_of (state_in ws) ∷ attached_in ws ∷ []) (ap slots_items (sym words)) ∙ ap (λ (e : SeenEnd _ _ _). code_of e.state ∷ e.attached ∷ []) (sym c.new-end.ensures))

pub returns-clause-items : goal.returns-clause-items
returns-clause-items g c =
    let first = c.take-result_slot.ensures.others.0 in
    let second = c.take-callback_slot.ensures.others.0 ∙ first in
    let items = c.take-proxy_slot.ensures.others.0 ∙ second in
    let slots = ap (λ (e : SeenEnd _ _ _). e.slots) c.new-end.ensures ∙ items in
    hands_out _ _ _ _ _ _ _ c.take-result_slot.ensures.value (ap (λ xs. get_elem? xs 1) (sym first) ∙ c.take-callback_slot.ensures.value) (ap (λ xs. get_elem? xs 2) (sym second) ∙ c.take-proxy_slot.ensures.value)
    (λ i. record { state = sym c.state-state.ensures i; attached = sym c.attached-attached.ensures i; slots = slots i })
    c.items_in-outcome.ensures.outcome c.items_in-outcome.ensures.callback c.items_in-outcome.ensures.proxy
