use Rattle.pool_model.proofs.Lawful.{lawful_begin}
use Rattle.pool_model.proofs.laws.histories_are_lawful_throughout.Goals as goal

pub returns : goal.returns
returns c = lawful_begin
