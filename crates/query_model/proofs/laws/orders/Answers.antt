use Rattle.query_model.proofs.SortingLaws.{ids_order, ids_apart, ranks_order, ranks_apart, turns_order, turns_apart}
use Rattle.query_model.proofs.laws.orders.Goals as goal

pub returns-clause-ids : goal.returns-clause-ids
returns-clause-ids c = ids_order

pub returns-clause-ids_apart : goal.returns-clause-ids_apart
returns-clause-ids_apart c = ids_apart

pub returns-clause-ranks : goal.returns-clause-ranks
returns-clause-ranks c = ranks_order

pub returns-clause-ranks_apart : goal.returns-clause-ranks_apart
returns-clause-ranks_apart c = ranks_apart

pub returns-clause-turns : goal.returns-clause-turns
returns-clause-turns c = turns_order

pub returns-clause-turns_apart : goal.returns-clause-turns_apart
returns-clause-turns_apart c = λ a b h g. turns_apart a b h g
