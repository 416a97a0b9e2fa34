use Rattle.fan_model.proofs.TaskLaws.{early_or_late}
use Rattle.fan_model.proofs.laws.early_or_late.Goals as goal

pub returns : goal.returns
returns c = λ stop_at queries. early_or_late stop_at queries
