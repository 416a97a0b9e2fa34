use Rattle.std.proofs.Common.{ap, sym, ◌∙◌}
use Rattle.core_word.specs.Seen.{SeenHome}
use Rattle.core_word.proofs.Ending.{there_is, unbegun_is, is_end, hands_outcome, hands_callback, hands_proxy, spent_hands_nothing, start_hands_nothing}
use Rattle.core_word.proofs.home.Home.close.Goals as goal

pub returns-clause-untaken : goal.returns-clause-untaken
returns-clause-untaken g c untaken =
    let unbegun = c.closed.ensures.unbegun (there_is _ (ap (λ (home : SeenHome). home.taken) c.self.view_is ∙ untaken)) in
    let is = unbegun_is _ _ (sym c.of_closed.ensures.words ∙ unbegun) in
    (is.0, is.1, start_hands_nothing _ c.of_closed.ensures.items is.0)

pub returns-clause-ended : goal.returns-clause-ended
returns-clause-ended g c = is_end _ _ _ c.closed.ensures.values.2 c.of_closed.ensures.words c.of_closed.ensures.slots

pub returns-clause-spent : goal.returns-clause-spent
returns-clause-spent g c = spent_hands_nothing _ c.of_closed.ensures.items

pub returns-clause-outcome : goal.returns-clause-outcome
returns-clause-outcome g c = hands_outcome _ _ c.closed.ensures.values.2 _ c.of_closed.ensures.words c.of_closed.ensures.slots c.of_closed.ensures.items

pub returns-clause-callback : goal.returns-clause-callback
returns-clause-callback g c = hands_callback _ _ c.closed.ensures.values.2 _ c.of_closed.ensures.words c.of_closed.ensures.slots c.of_closed.ensures.items

pub returns-clause-proxy : goal.returns-clause-proxy
returns-clause-proxy g c = hands_proxy _ _ c.closed.ensures.values.2 _ c.of_closed.ensures.words c.of_closed.ensures.slots c.of_closed.ensures.items
