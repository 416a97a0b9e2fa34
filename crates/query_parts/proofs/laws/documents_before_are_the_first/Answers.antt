use Rattle.query_parts.proofs.PartLemmas.{docs-first, docs-within}
use Rattle.query_parts.proofs.laws.documents_before_are_the_first.Goals as goal

pub returns-clause-first : goal.returns-clause-first
returns-clause-first c = docs-first

pub returns-clause-within : goal.returns-clause-within
returns-clause-within c = docs-within
