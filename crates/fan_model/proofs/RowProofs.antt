-- The rows, computed from the definitions.
use Rattle.std.proofs.Common.{refl}
use Rattle.fan_model.specs.Answered.{answered_in}
use Rattle.fan_model.specs.Notes.{notes_of}
use Rattle.fan_model.specs.Rows as rows
use Rattle.fan_model.specs.Tasks.{early_runs, late_runs}
use Rattle.fan_model.specs.Totals.{core_totals}

pub nothing_asked : rows.NothingAsked
unfolding answered_in early_runs late_runs core_totals notes_of
nothing_asked = record { early_are = refl; late_are = refl; stopped_is = refl; notes_are = refl; totals_are = refl }

pub one_query : rows.OneQuery
unfolding answered_in early_runs late_runs core_totals notes_of
one_query = record { early_are = refl; late_are = refl; stopped_is = refl; notes_are = refl; totals_are = refl }

pub never_due : rows.NeverDue
unfolding answered_in early_runs late_runs core_totals notes_of
never_due = record { early_are = refl; late_are = refl; stopped_is = refl; notes_are = refl; totals_are = refl }

pub two_rankings : rows.TwoRankings
unfolding answered_in early_runs late_runs core_totals notes_of
two_rankings = record { early_are = refl; late_are = refl; stopped_is = refl; notes_are = refl; totals_are = refl }

pub two_priorities : rows.TwoPriorities
unfolding answered_in early_runs late_runs core_totals notes_of
two_priorities = record { early_are = refl; late_are = refl; stopped_is = refl; notes_are = refl; totals_are = refl }

pub stopped_behind_all : rows.StoppedBehindAll
unfolding answered_in early_runs late_runs core_totals notes_of
stopped_behind_all = record { early_are = refl; late_are = refl; stopped_is = refl; notes_are = refl; totals_are = refl }

pub stopped_before_the_last : rows.StoppedBeforeTheLast
unfolding answered_in early_runs late_runs core_totals notes_of
stopped_before_the_last = record { early_are = refl; late_are = refl; stopped_is = refl; notes_are = refl; totals_are = refl }

pub catalogue : rows.Catalogue
unfolding answered_in early_runs late_runs core_totals notes_of
catalogue = record { early_are = refl; late_are = refl; stopped_is = refl; notes_are = refl; totals_are = refl }

pub documents_before : rows.DocumentsBefore
unfolding answered_in early_runs late_runs core_totals notes_of
documents_before = record { early_are = refl; late_are = refl; stopped_is = refl; notes_are = refl; totals_are = refl }

pub one_cancelled : rows.OneCancelled
unfolding answered_in early_runs late_runs core_totals notes_of
one_cancelled = record { early_are = refl; late_are = refl; stopped_is = refl; notes_are = refl; totals_are = refl }

pub catalogue_stopped : rows.CatalogueStopped
unfolding answered_in early_runs late_runs
catalogue_stopped = record {
  at_none = record { early_are = refl; late_are = refl; stopped_is = refl };
  at_one = record { early_are = refl; late_are = refl; stopped_is = refl };
  at_four = record { early_are = refl; late_are = refl; stopped_is = refl };
  at_all = record { early_are = refl; late_are = refl; stopped_is = refl };
  behind_all = record { early_are = refl; late_are = refl; stopped_is = refl };
}

pub cancelled_is_not_counted : rows.CancelledIsNotCounted
unfolding answered_in early_runs late_runs
cancelled_is_not_counted = record { early_are = refl; late_are = refl; stopped_is = refl }

pub many_tasks : rows.ManyTasks
unfolding answered_in early_runs late_runs core_totals
many_tasks = record { split = record { early_are = refl; late_are = refl; stopped_is = refl }; totals = refl }
