use Rattle.fan_model.proofs.AskedLaws.{next_docs, next_due, next_is_asked}
use Rattle.fan_model.proofs.laws.the_next_query.Goals as goal

pub returns : goal.returns
returns c = record {
  is = λ lines query. next_is_asked lines query;
  due = λ lines query delay some. next_due lines query delay some;
  docs = λ lines query. next_docs lines query;
}
