use Rattle.reply_order.specs.Orders.{next_of}
use Rattle.reply_printer.proofs.PrintLemmas.{all_written, fault_rose, front_of}
use Rattle.reply_printer.proofs.laws.what_is_written.Goals as goal

pub returns-clause-all : goal.returns-clause-all
returns-clause-all c = λ lines given p start now h writing last. all_written lines given p start now h writing last

pub returns-clause-front : goal.returns-clause-front
returns-clause-front c = λ lines given p start now h. front_of lines (next_of p.orderer) start now p.progress h.wrote

pub returns-clause-fault : goal.returns-clause-fault
returns-clause-fault c = λ lines given p start now h fault. fault_rose lines given p start now h fault
