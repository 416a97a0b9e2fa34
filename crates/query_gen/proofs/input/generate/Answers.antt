use Rattle.query_model.specs.Generated.{generated_input}
use Rattle.query_gen.proofs.SoFar.{whole}
use Rattle.query_gen.proofs.input.generate.Goals as goal

pub returns : goal.returns
unfolding generated_input
returns c =
    whole c.queries.result c.in_ok-documents.documents c.args.seed c.new-draws.result c.documents.new.self c.queries.new.self c.args.docs c.args.queries
    c.new-draws.ensures c.in_ok-documents.ensures c.queries.ensures
