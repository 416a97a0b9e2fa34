use Rattle.query_model.proofs.AlikeLaws.{alike_asked, alike_before, alike_documents, alike_due, alike_left, alike_outcome, alike_queries, alike_query}
use Rattle.query_model.proofs.laws.alike_lines_ask_the_same.Goals as goal

pub returns-clause-at : goal.returns-clause-at
returns-clause-at c = λ lines others place query alike there. alike_query lines others alike place query there

pub returns-clause-queries : goal.returns-clause-queries
returns-clause-queries c = λ lines others alike. alike_queries lines others alike

pub returns-clause-asked : goal.returns-clause-asked
returns-clause-asked c = λ lines others alike. alike_asked lines others alike

pub returns-clause-outcome : goal.returns-clause-outcome
returns-clause-outcome c = λ lines others a alike. alike_outcome lines others alike a

pub returns-clause-due : goal.returns-clause-due
returns-clause-due c = λ lines others a alike. alike_due lines others alike a

pub returns-clause-left : goal.returns-clause-left
returns-clause-left c = λ lines others alike. alike_left lines others alike

pub returns-clause-documents : goal.returns-clause-documents
returns-clause-documents c = λ lines others alike. alike_documents lines others alike

pub returns-clause-before : goal.returns-clause-before
returns-clause-before c = λ lines others a alike. alike_before lines others alike a
