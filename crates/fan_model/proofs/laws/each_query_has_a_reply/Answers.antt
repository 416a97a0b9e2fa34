use Rattle.fan_model.proofs.HowMany.{comings_many, replies_many}
use Rattle.fan_model.proofs.laws.each_query_has_a_reply.Goals as goal

pub returns : goal.returns
returns c = record { comings = λ lines. comings_many lines; replies = λ lines. replies_many lines }
