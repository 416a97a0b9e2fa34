use Rattle.std.proofs.lemmas.List.Elements.{All-from_recursion}
use Rattle.query_model.specs.Order.{left_in}
use Rattle.fan_model.specs.Comings.{Coming, IsAsked, come_in, query_of}
use Rattle.fan_model.proofs.ComingLaws.{all_begun, all_come_asked, all_left_asked, all_replied, reply_at}
use Rattle.fan_model.proofs.laws.comings_in_order.Goals as goal

pub returns : goal.returns
returns c = record {
  replies = λ lines. all_replied lines;
  at = λ lines place coming is. reply_at lines place coming is;
  begun = λ lines. all_begun lines;
  asked = λ lines. All-from_recursion (λ (d : Coming). IsAsked lines (query_of d)) (come_in lines) (all_come_asked lines);
  left = λ lines. All-from_recursion (IsAsked lines) (left_in lines) (all_left_asked lines);
}
