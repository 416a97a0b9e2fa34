use Rattle.std.proofs.lemmas.List.Elements.{All-from_recursion}
use Rattle.query_model.specs.Order.{asked_in}
use Rattle.fan_model.specs.Comings.{IsAsked}
use Rattle.fan_model.proofs.AskedLaws.{all_asked, asked_more, numbers_are, one_of_number, same_docs, same_due}
use Rattle.fan_model.proofs.laws.queries_are_numbered.Goals as goal

pub returns : goal.returns
returns c = record {
  numbers = λ lines. numbers_are 1 0 lines;
  each = λ lines. All-from_recursion (IsAsked lines) (asked_in lines) (all_asked lines);
  one = λ lines a b is also same. one_of_number lines a b is also same;
  more = λ lines rest a is. asked_more lines rest a is;
  due = λ lines rest a is. same_due lines rest a is;
  docs = λ lines rest a is. same_docs lines rest a is;
}
