use Rattle.fan_model.proofs.TaskLaws.{answers_in_order}
use Rattle.fan_model.proofs.laws.answers_in_order.Goals as goal

pub returns : goal.returns
returns c = λ lines. answers_in_order lines
