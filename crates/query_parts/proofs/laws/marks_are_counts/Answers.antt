use Rattle.query_parts.proofs.PartLemmas.{marked}
use Rattle.query_parts.proofs.laws.marks_are_counts.Goals as goal

pub returns : goal.returns
returns c = marked
