use Rattle.query_model.proofs.RowProofs as rows
use Rattle.query_model.proofs.rows.worked_rows.Goals as goal

pub returns-clause-answers_when_due : goal.returns-clause-answers_when_due
returns-clause-answers_when_due c = rows.answers_when_due

pub returns-clause-answers_in_order_of_due_ticks : goal.returns-clause-answers_in_order_of_due_ticks
returns-clause-answers_in_order_of_due_ticks c = rows.answers_in_order_of_due_ticks

pub returns-clause-cancels_what_is_never_due : goal.returns-clause-cancels_what_is_never_due
returns-clause-cancels_what_is_never_due c = rows.cancels_what_is_never_due

pub returns-clause-ranks_by_score : goal.returns-clause-ranks_by_score
returns-clause-ranks_by_score c = rows.ranks_by_score

pub returns-clause-counts_repeats_once : goal.returns-clause-counts_repeats_once
returns-clause-counts_repeats_once c = rows.counts_repeats_once

pub returns-clause-answers_over_no_documents : goal.returns-clause-answers_over_no_documents
returns-clause-answers_over_no_documents c = rows.answers_over_no_documents

pub returns-clause-answers_over_documents_before : goal.returns-clause-answers_over_documents_before
returns-clause-answers_over_documents_before c = rows.answers_over_documents_before

pub returns-clause-weighs_documents_before : goal.returns-clause-weighs_documents_before
returns-clause-weighs_documents_before c = rows.weighs_documents_before

pub returns-clause-negates_over_documents_before : goal.returns-clause-negates_over_documents_before
returns-clause-negates_over_documents_before c = rows.negates_over_documents_before

pub returns-clause-refuses_a_repeated_id : goal.returns-clause-refuses_a_repeated_id
returns-clause-refuses_a_repeated_id c = rows.refuses_a_repeated_id

pub returns-clause-cancels_before_due : goal.returns-clause-cancels_before_due
returns-clause-cancels_before_due c = rows.cancels_before_due

pub returns-clause-cancels_once_behind_the_query : goal.returns-clause-cancels_once_behind_the_query
returns-clause-cancels_once_behind_the_query c = rows.cancels_once_behind_the_query

pub returns-clause-cancels_no_query_without_delay : goal.returns-clause-cancels_no_query_without_delay
returns-clause-cancels_no_query_without_delay c = rows.cancels_no_query_without_delay

pub returns-clause-due_line_is_the_first : goal.returns-clause-due_line_is_the_first
returns-clause-due_line_is_the_first c = rows.due_line_is_the_first

pub returns-clause-one_line_orders_by_due_tick : goal.returns-clause-one_line_orders_by_due_tick
returns-clause-one_line_orders_by_due_tick c = rows.one_line_orders_by_due_tick

pub returns-clause-refuses_too_many_ticks : goal.returns-clause-refuses_too_many_ticks
returns-clause-refuses_too_many_ticks c = rows.refuses_too_many_ticks

pub returns-clause-answers_two_documents : goal.returns-clause-answers_two_documents
returns-clause-answers_two_documents c = rows.answers_two_documents

pub returns-clause-answers_complements : goal.returns-clause-answers_complements
returns-clause-answers_complements c = rows.answers_complements

pub returns-clause-answers_by_priority : goal.returns-clause-answers_by_priority
returns-clause-answers_by_priority c = rows.answers_by_priority

pub returns-clause-reads_capitals : goal.returns-clause-reads_capitals
returns-clause-reads_capitals c = rows.reads_capitals

pub returns-clause-answers_a_catalogue : goal.returns-clause-answers_a_catalogue
returns-clause-answers_a_catalogue c = rows.answers_a_catalogue

pub returns-clause-unknown_command_alone : goal.returns-clause-unknown_command_alone
returns-clause-unknown_command_alone c = rows.unknown_command_alone

pub returns-clause-bad_number_alone : goal.returns-clause-bad_number_alone
returns-clause-bad_number_alone c = rows.bad_number_alone

pub returns-clause-bad_word_alone : goal.returns-clause-bad_word_alone
returns-clause-bad_word_alone c = rows.bad_word_alone

pub returns-clause-missing_field_alone : goal.returns-clause-missing_field_alone
returns-clause-missing_field_alone c = rows.missing_field_alone

pub returns-clause-extra_field_alone : goal.returns-clause-extra_field_alone
returns-clause-extra_field_alone c = rows.extra_field_alone

pub returns-clause-cuts_at_line_feeds : goal.returns-clause-cuts_at_line_feeds
returns-clause-cuts_at_line_feeds c = rows.cuts_at_line_feeds

pub returns-clause-reads_a_cut_word : goal.returns-clause-reads_a_cut_word
returns-clause-reads_a_cut_word c = rows.reads_a_cut_word

pub returns-clause-skips_a_last_return : goal.returns-clause-skips_a_last_return
returns-clause-skips_a_last_return c = rows.skips_a_last_return

pub returns-clause-refuses_bytes : goal.returns-clause-refuses_bytes
returns-clause-refuses_bytes c = rows.refuses_bytes

pub returns-clause-refuses_no_expression : goal.returns-clause-refuses_no_expression
returns-clause-refuses_no_expression c = rows.refuses_no_expression

pub returns-clause-writes_canonically : goal.returns-clause-writes_canonically
returns-clause-writes_canonically c = rows.writes_canonically

pub returns-clause-generates_lines : goal.returns-clause-generates_lines
returns-clause-generates_lines c = rows.generates_lines

pub returns-clause-sums_up : goal.returns-clause-sums_up
returns-clause-sums_up c = rows.sums_up
