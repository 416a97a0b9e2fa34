use Rattle.query_model.specs.Generated.{generated_input}
use Rattle.query_gen.proofs.Expressions.{generated_can_be_read}
use Rattle.query_gen.proofs.laws.generated_is_accepted.Goals as goal

pub returns : goal.returns
returns c = λ seed docs queries shards d q s.
    c.inputs_that_are_read.ensures.written shards (generated_input seed docs queries) (generated_can_be_read seed docs queries shards d q s)
