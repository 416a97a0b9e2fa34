use Rattle.reply_printer.proofs.PrintLemmas.{all_given, none_is_held}
use Rattle.reply_printer.proofs.laws.each_reply_was_given_once.Goals as goal

pub returns-clause-none : goal.returns-clause-none
returns-clause-none c = λ lines given p start now h last. none_is_held lines given p start now h last

pub returns-clause-once : goal.returns-clause-once
returns-clause-once c = λ lines given p start now h g last weight. all_given lines given p start now h g last weight
