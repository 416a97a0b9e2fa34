use Rattle.folly_query.specs.Reports.{asked_by}
use Rattle.folly_query.proofs.answer.answer.Given as goal

abbrev pub ghosts-answer_named : goal.ghosts-answer_named
ghosts-answer_named g a = record { asked = asked_by a.settings a.table }
