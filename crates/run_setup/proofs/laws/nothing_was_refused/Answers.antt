use Rattle.run_setup.proofs.SlotLemmas.{calm-front, calm-worlds}
use Rattle.run_setup.proofs.laws.nothing_was_refused.Goals as goal

pub returns-clause-worlds : goal.returns-clause-worlds
returns-clause-worlds g c = calm-worlds

pub returns-clause-front : goal.returns-clause-front
returns-clause-front g c = calm-front
