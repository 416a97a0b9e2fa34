use Rattle.event_base.proofs.Messages.{loop_of_messages, loop_is_closed, cut_loop_of_messages}
use Rattle.event_base.proofs.laws.a_loop_of_messages.Goals as goal

pub returns-clause-whole_loop : goal.returns-clause-whole_loop
returns-clause-whole_loop g c = λ leave rounds why w old v new holds all. loop_of_messages _ _ leave rounds why w old v new holds all

pub returns-clause-closed : goal.returns-clause-closed
returns-clause-closed g c = λ leave rounds why w old v new holds all. loop_is_closed _ _ leave rounds why w old v new holds all

pub returns-clause-cut_loop : goal.returns-clause-cut_loop
returns-clause-cut_loop g c = λ leave fault w old v new holds all. cut_loop_of_messages _ _ leave fault w old v new holds all
