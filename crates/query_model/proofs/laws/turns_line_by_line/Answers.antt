use Rattle.std.proofs.Common.{refl}
use Rattle.query_model.proofs.LineByLine.{adds_doc, adds_answered, adds_delayed, adds_tick, adds_cancel, waiting_in_order}
use Rattle.query_model.proofs.laws.turns_line_by_line.Goals as goal

pub returns-clause-none : goal.returns-clause-none
returns-clause-none c = (refl, refl)

pub returns-clause-doc : goal.returns-clause-doc
returns-clause-doc c = λ lines doc. adds_doc lines doc

pub returns-clause-answered : goal.returns-clause-answered
returns-clause-answered c = λ lines query none. adds_answered lines query none

pub returns-clause-delayed : goal.returns-clause-delayed
returns-clause-delayed c = λ lines query delay is some. adds_delayed lines query delay is some

pub returns-clause-tick : goal.returns-clause-tick
returns-clause-tick c = λ lines n. adds_tick lines n

pub returns-clause-cancel : goal.returns-clause-cancel
returns-clause-cancel c = λ lines n. adds_cancel lines n

pub returns-clause-waiting : goal.returns-clause-waiting
returns-clause-waiting c = λ lines. waiting_in_order lines
