use Rattle.fan_model.proofs.RowProofs as rows
use Rattle.fan_model.proofs.rows.worked_rows.Goals as goal

pub returns-clause-nothing_asked : goal.returns-clause-nothing_asked
returns-clause-nothing_asked c = rows.nothing_asked

pub returns-clause-one_query : goal.returns-clause-one_query
returns-clause-one_query c = rows.one_query

pub returns-clause-never_due : goal.returns-clause-never_due
returns-clause-never_due c = rows.never_due

pub returns-clause-two_rankings : goal.returns-clause-two_rankings
returns-clause-two_rankings c = rows.two_rankings

pub returns-clause-two_priorities : goal.returns-clause-two_priorities
returns-clause-two_priorities c = rows.two_priorities

pub returns-clause-stopped_behind_all : goal.returns-clause-stopped_behind_all
returns-clause-stopped_behind_all c = rows.stopped_behind_all

pub returns-clause-stopped_before_the_last : goal.returns-clause-stopped_before_the_last
returns-clause-stopped_before_the_last c = rows.stopped_before_the_last

pub returns-clause-catalogue : goal.returns-clause-catalogue
returns-clause-catalogue c = rows.catalogue

pub returns-clause-catalogue_stopped : goal.returns-clause-catalogue_stopped
returns-clause-catalogue_stopped c = rows.catalogue_stopped

pub returns-clause-documents_before : goal.returns-clause-documents_before
returns-clause-documents_before c = rows.documents_before

pub returns-clause-one_cancelled : goal.returns-clause-one_cancelled
returns-clause-one_cancelled c = rows.one_cancelled

pub returns-clause-cancelled_is_not_counted : goal.returns-clause-cancelled_is_not_counted
returns-clause-cancelled_is_not_counted c = rows.cancelled_is_not_counted

pub returns-clause-many_tasks : goal.returns-clause-many_tasks
returns-clause-many_tasks c = rows.many_tasks
