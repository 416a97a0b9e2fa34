use Rattle.core_state.proofs.Schedules.{folds, lawful_before, finds, stays, final_states}
use Rattle.core_state.proofs.Orders.{one_later}
use Rattle.core_state.proofs.Freeing.{last_finds_one}
use Rattle.core_state.proofs.Handing.{results, proxies, callbacks, handed_once, once, done_hands_over, empty_forwards, leaves_offer, accounted, finds_other}
use Rattle.core_state.proofs.law.schedule_law.Goals as goal

pub returns-clause-folds : goal.returns-clause-folds
returns-clause-folds g c = folds

pub returns-clause-prefixes : goal.returns-clause-prefixes
returns-clause-prefixes g c = lawful_before

pub returns-clause-results : goal.returns-clause-results
returns-clause-results g c acts r lawful = results acts lawful r

pub returns-clause-proxies : goal.returns-clause-proxies
returns-clause-proxies g c acts k lawful = proxies acts lawful k

pub returns-clause-callbacks : goal.returns-clause-callbacks
returns-clause-callbacks g c acts k lawful = callbacks acts lawful k

pub returns-clause-finds : goal.returns-clause-finds
returns-clause-finds g c = finds

pub returns-clause-ends : goal.returns-clause-ends
returns-clause-ends g c = final_states

pub returns-clause-stays : goal.returns-clause-stays
returns-clause-stays g c = stays

pub returns-clause-handed : goal.returns-clause-handed
returns-clause-handed g c = handed_once

pub returns-clause-forwarded : goal.returns-clause-forwarded
returns-clause-forwarded g c acts lawful i j k d e f = one_later acts lawful i j _ _ e f

pub returns-clause-done : goal.returns-clause-done
returns-clause-done g c = done_hands_over

pub returns-clause-emptied : goal.returns-clause-emptied
returns-clause-emptied g c = empty_forwards

pub returns-clause-once : goal.returns-clause-once
returns-clause-once g c = once

pub returns-clause-makers : goal.returns-clause-makers
returns-clause-makers g c = finds_other

pub returns-clause-freed : goal.returns-clause-freed
returns-clause-freed g c acts lawful i j e f = one_later acts lawful i j _ _ e f

pub returns-clause-last : goal.returns-clause-last
returns-clause-last g c = last_finds_one

pub returns-clause-leftover : goal.returns-clause-leftover
returns-clause-leftover g c = leaves_offer

pub returns-clause-accounted : goal.returns-clause-accounted
returns-clause-accounted g c = accounted
