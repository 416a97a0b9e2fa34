use Rattle.fan_model.proofs.PlaceLaws.{owed_all, owed_next, owed_last}
use Rattle.fan_model.proofs.laws.printing.Goals as goal

pub returns-clause-all : goal.returns-clause-all
returns-clause-all c = λ input. owed_all input

pub returns-clause-next : goal.returns-clause-next
returns-clause-next c = λ lines place number reply is. owed_next lines place number reply is

pub returns-clause-last : goal.returns-clause-last
returns-clause-last c = λ lines. owed_last lines
