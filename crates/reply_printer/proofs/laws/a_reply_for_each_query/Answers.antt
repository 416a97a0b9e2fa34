use Rattle.fan_model.proofs.HowMany.{replies_many}
use Rattle.reply_printer.proofs.laws.a_reply_for_each_query.Goals as goal

pub returns : goal.returns
returns c = λ lines. replies_many lines
