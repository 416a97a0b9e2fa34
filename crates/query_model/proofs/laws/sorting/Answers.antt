use Rattle.query_model.proofs.SortingLaws.{same_items, in_order, only_list}
use Rattle.query_model.proofs.laws.sorting.Goals as goal

pub returns-clause-same : goal.returns-clause-same
returns-clause-same g c = λ goes_before items. same_items goes_before items

pub returns-clause-in_order : goal.returns-clause-in_order
returns-clause-in_order g c = λ goes_before items o. in_order goes_before o items

pub returns-clause-only : goal.returns-clause-only
returns-clause-only g c = λ goes_before items other o t p h. only_list goes_before o t items other p h
