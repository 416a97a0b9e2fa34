use Rattle.query_model.proofs.CanonicalLaws.{can_be_read, canonical_is_read}
use Rattle.query_model.proofs.laws.inputs_that_are_read.Goals as goal

pub returns-clause-written : goal.returns-clause-written
returns-clause-written c = canonical_is_read

pub returns-clause-read : goal.returns-clause-read
returns-clause-read c = can_be_read
