use Rattle.query_model.specs.Walk.{start}
use Rattle.query_model.proofs.WalkLaws.{counts, fold_more}
use Rattle.query_model.proofs.laws.one_walk_keeps_counts.Goals as goal

pub returns-clause-now : goal.returns-clause-now
returns-clause-now c = λ lines. (counts lines).0

pub returns-clause-documents : goal.returns-clause-documents
returns-clause-documents c = λ lines. (counts lines).1

pub returns-clause-asked : goal.returns-clause-asked
returns-clause-asked c = λ lines. (counts lines).2

pub returns-clause-more : goal.returns-clause-more
returns-clause-more c = λ lines l. fold_more start lines l
