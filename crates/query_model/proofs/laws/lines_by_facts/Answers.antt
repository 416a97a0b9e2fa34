use Rattle.query_model.proofs.QueryFactLaws.{none_by_facts, doc_by_facts, tick_by_facts, cancel_by_facts, query_by_facts}
use Rattle.query_model.proofs.laws.lines_by_facts.Goals as goal

pub returns-clause-none : goal.returns-clause-none
returns-clause-none c = λ shards before piece. none_by_facts shards before piece

pub returns-clause-doc : goal.returns-clause-doc
returns-clause-doc c = λ shards before piece doc. doc_by_facts shards before piece doc

pub returns-clause-query : goal.returns-clause-query
returns-clause-query c = λ shards before piece query. query_by_facts shards before piece query

pub returns-clause-tick : goal.returns-clause-tick
returns-clause-tick c = λ shards before piece n. tick_by_facts shards before piece n

pub returns-clause-cancel : goal.returns-clause-cancel
returns-clause-cancel c = λ shards before piece n. cancel_by_facts shards before piece n
