-- The rows, computed from the definitions.
use Rattle.std.proofs.Common.{ℕ, List, [], ◌∷◌, ◌++◌, Option, Some, None, Ok, Err, refl}
use Rattle.std.specs.Prelude.{codes}
use Rattle.std.specs.Fmt.{digits}
use Rattle.query_grammar.specs.declared.fault.ExprFault.TheVariants as fault
use Rattle.query_grammar.specs.Grammar.{Phrase}
use Rattle.query_grammar.specs.Tree.{Tree}
use Rattle.query_model.specs.Pieces.{Bytes, pieces, fields}
use Rattle.query_model.specs.declared.fault.BadKind.TheVariants as bad
use Rattle.query_model.specs.declared.fault.Limit.TheVariants as limit
use Rattle.query_model.specs.declared.line.Line.{Line}
use Rattle.query_model.specs.declared.line.Line.TheVariants as line
use Rattle.query_model.specs.declared.line.Ask.{Ask}
use Rattle.query_model.specs.declared.line.Ask.TheVariants as ask
use Rattle.query_model.specs.declared.line.Prio.{Prio}
use Rattle.query_model.specs.declared.line.Prio.TheVariants as prio
use Rattle.query_model.specs.declared.keyword.ExprAsk.TheVariants as expr
use Rattle.query_model.specs.Expressions.{parts}
use Rattle.query_model.specs.Lines.{said_behind}
use Rattle.query_model.specs.Answers.{hits_of, top_of}
use Rattle.query_model.specs.Order.{replies_of}
use Rattle.query_model.specs.Output.{output}
use Rattle.query_model.specs.Rows as rows
use Rattle.query_model.specs.Reading.{kept}
use Rattle.query_model.specs.Canonical.{canonical_text}
use Rattle.query_model.specs.Generated.{generated_input, summary_line}
use Rattle.query_model.proofs.Building.{given_by, answered, refused, stands}

abbrev doc : ℕ → List Bytes → Option Line
doc id words = Some (line.Doc (record { id = id; words = words }))

abbrev query : Option ℕ → Prio → Ask → Option Line
query delay priority asks = Some (line.Query (record { delay = delay; prio = priority; ask = asks }))

pub answers_when_due : rows.AnswersWhenDue
unfolding pieces fields parts said_behind hits_of top_of replies_of output digits
answers_when_due =
    answered _ _
    ((doc 1 (codes "a" ∷ [])) ∷ (query (Some 2) prio.Mid (ask.Count (Tree.word (codes "a")))) ∷ (query None prio.Mid (ask.Count (Tree.word (codes "b")))) ∷ (Some (line.Tick 1)) ∷ (Some (line.Tick 1)) ∷ [])
    (refl, ((Ok (ask.Count (Tree.word (codes "a"))), given_by expr.Count (Phrase.one_both (Phrase.one_fact (Phrase.word (codes "a")))) refl, refl), ((Ok (ask.Count (Tree.word (codes "b"))), given_by expr.Count (Phrase.one_both (Phrase.one_fact (Phrase.word (codes "b")))) refl, refl), (refl, (refl, tt)))))
    refl

pub answers_in_order_of_due_ticks : rows.AnswersInOrderOfDueTicks
unfolding pieces fields parts said_behind hits_of top_of replies_of output digits
answers_in_order_of_due_ticks =
    answered _ _
    ((doc 1 (codes "a" ∷ [])) ∷ (query (Some 256) prio.Mid (ask.Count (Tree.word (codes "a")))) ∷ (Some (line.Tick 255)) ∷ (query (Some 1) prio.Mid (ask.Count (Tree.word (codes "a")))) ∷ (Some (line.Tick 1)) ∷ [])
    (refl, ((Ok (ask.Count (Tree.word (codes "a"))), given_by expr.Count (Phrase.one_both (Phrase.one_fact (Phrase.word (codes "a")))) refl, refl), (refl, ((Ok (ask.Count (Tree.word (codes "a"))), given_by expr.Count (Phrase.one_both (Phrase.one_fact (Phrase.word (codes "a")))) refl, refl), (refl, tt)))))
    refl

pub cancels_what_is_never_due : rows.CancelsWhatIsNeverDue
unfolding pieces fields parts said_behind hits_of top_of replies_of output digits
cancels_what_is_never_due =
    answered _ _
    ((query (Some 5) prio.Mid (ask.Find (Tree.word (codes "a")))) ∷ [])
    ((Ok (ask.Find (Tree.word (codes "a"))), given_by expr.Find (Phrase.one_both (Phrase.one_fact (Phrase.word (codes "a")))) refl, refl), tt)
    refl

pub ranks_by_score : rows.RanksByScore
unfolding pieces fields parts said_behind hits_of top_of replies_of output digits
ranks_by_score =
    answered _ _
    ((doc 1 (codes "a" ∷ codes "b" ∷ [])) ∷ (doc 2 (codes "a" ∷ codes "b" ∷ [])) ∷ (doc 3 (codes "c" ∷ [])) ∷ (query None prio.Mid (ask.Top 2 (codes "a" ∷ codes "b" ∷ codes "zzz" ∷ []))) ∷ (query None prio.Mid (ask.Top 5 (codes "c" ∷ []))) ∷ [])
    (refl, (refl, (refl, ((Ok (ask.Top 2 (codes "a" ∷ codes "b" ∷ codes "zzz" ∷ [])), refl, refl), ((Ok (ask.Top 5 (codes "c" ∷ [])), refl, refl), tt)))))
    refl

pub counts_repeats_once : rows.CountsRepeatsOnce
unfolding pieces fields parts said_behind hits_of top_of replies_of output digits
counts_repeats_once =
    answered _ _
    ((doc 1 (codes "a" ∷ codes "a" ∷ [])) ∷ (doc 2 (codes "a" ∷ [])) ∷ (query None prio.Mid (ask.Top 9 (codes "a" ∷ codes "a" ∷ []))) ∷ [])
    (refl, (refl, ((Ok (ask.Top 9 (codes "a" ∷ codes "a" ∷ [])), refl, refl), tt)))
    refl

pub answers_over_no_documents : rows.AnswersOverNoDocuments
unfolding pieces fields parts said_behind hits_of top_of replies_of output digits
answers_over_no_documents =
    answered _ _
    ((query None prio.Mid (ask.Count (Tree.word (codes "a")))) ∷ (doc 1 (codes "a" ∷ [])) ∷ [])
    ((Ok (ask.Count (Tree.word (codes "a"))), given_by expr.Count (Phrase.one_both (Phrase.one_fact (Phrase.word (codes "a")))) refl, refl), (refl, tt))
    refl

pub answers_over_documents_before : rows.AnswersOverDocumentsBefore
unfolding pieces fields parts said_behind hits_of top_of replies_of output digits
answers_over_documents_before =
    answered _ _
    ((doc 1 (codes "a" ∷ [])) ∷ (query None prio.Mid (ask.Count (Tree.word (codes "a")))) ∷ (doc 2 (codes "a" ∷ [])) ∷ (query None prio.Mid (ask.Count (Tree.word (codes "a")))) ∷ (query (Some 1) prio.Mid (ask.Count (Tree.word (codes "a")))) ∷ (doc 3 (codes "a" ∷ [])) ∷ (Some (line.Tick 1)) ∷ [])
    (refl, ((Ok (ask.Count (Tree.word (codes "a"))), given_by expr.Count (Phrase.one_both (Phrase.one_fact (Phrase.word (codes "a")))) refl, refl), (refl, ((Ok (ask.Count (Tree.word (codes "a"))), given_by expr.Count (Phrase.one_both (Phrase.one_fact (Phrase.word (codes "a")))) refl, refl), ((Ok (ask.Count (Tree.word (codes "a"))), given_by expr.Count (Phrase.one_both (Phrase.one_fact (Phrase.word (codes "a")))) refl, refl), (refl, (refl, tt)))))))
    refl

pub weighs_documents_before : rows.WeighsDocumentsBefore
unfolding pieces fields parts said_behind hits_of top_of replies_of output digits
weighs_documents_before =
    answered _ _
    ((doc 1 (codes "a" ∷ [])) ∷ (query None prio.Mid (ask.Top 2 (codes "a" ∷ []))) ∷ (doc 2 (codes "b" ∷ [])) ∷ (query None prio.Mid (ask.Top 2 (codes "a" ∷ []))) ∷ [])
    (refl, ((Ok (ask.Top 2 (codes "a" ∷ [])), refl, refl), (refl, ((Ok (ask.Top 2 (codes "a" ∷ [])), refl, refl), tt))))
    refl

pub negates_over_documents_before : rows.NegatesOverDocumentsBefore
unfolding pieces fields parts said_behind hits_of top_of replies_of output digits
negates_over_documents_before =
    answered _ _
    ((query None prio.Mid (ask.Find (Tree.not (Tree.word (codes "a"))))) ∷ (doc 5 (codes "b" ∷ [])) ∷ (query None prio.Mid (ask.Find (Tree.not (Tree.word (codes "a"))))) ∷ [])
    ((Ok (ask.Find (Tree.not (Tree.word (codes "a")))), given_by expr.Find (Phrase.one_both (Phrase.one_fact (Phrase.bang (Phrase.word (codes "a"))))) refl, refl), (refl, ((Ok (ask.Find (Tree.not (Tree.word (codes "a")))), given_by expr.Find (Phrase.one_both (Phrase.one_fact (Phrase.bang (Phrase.word (codes "a"))))) refl, refl), tt)))
    refl

pub refuses_a_repeated_id : rows.RefusesARepeatedId
unfolding pieces fields parts said_behind hits_of top_of replies_of output digits
refuses_a_repeated_id =
    refused _ _ (codes "doc 1 a" ∷ codes "find a" ∷ []) (codes "doc 01 b")
    ((doc 1 (codes "a" ∷ [])) ∷ (query None prio.Mid (ask.Find (Tree.word (codes "a")))) ∷ [])
    3 bad.DuplicateDoc refl refl
    (refl, ((Ok (ask.Find (Tree.word (codes "a"))), given_by expr.Find (Phrase.one_both (Phrase.one_fact (Phrase.word (codes "a")))) refl, refl), tt))
    refl refl

pub cancels_before_due : rows.CancelsBeforeDue
unfolding pieces fields parts said_behind hits_of top_of replies_of output digits
cancels_before_due =
    answered _ _
    ((doc 1 (codes "a" ∷ [])) ∷ (query (Some 2) prio.Mid (ask.Count (Tree.word (codes "a")))) ∷ (query (Some 2) prio.Mid (ask.Present (Tree.word (codes "a")))) ∷ (Some (line.Cancel 1)) ∷ (Some (line.Tick 2)) ∷ (Some (line.Cancel 2)) ∷ [])
    (refl, ((Ok (ask.Count (Tree.word (codes "a"))), given_by expr.Count (Phrase.one_both (Phrase.one_fact (Phrase.word (codes "a")))) refl, refl), ((Ok (ask.Present (Tree.word (codes "a"))), given_by expr.Present (Phrase.one_both (Phrase.one_fact (Phrase.word (codes "a")))) refl, refl), (refl, (refl, (refl, tt))))))
    refl

pub cancels_once_behind_the_query : rows.CancelsOnceBehindTheQuery
unfolding pieces fields parts said_behind hits_of top_of replies_of output digits
cancels_once_behind_the_query =
    answered _ _
    ((Some (line.Cancel 1)) ∷ (query (Some 5) prio.Mid (ask.Find (Tree.word (codes "a")))) ∷ (Some (line.Cancel 1)) ∷ (Some (line.Cancel 1)) ∷ (query None prio.Mid (ask.Count (Tree.word (codes "a")))) ∷ [])
    (refl, ((Ok (ask.Find (Tree.word (codes "a"))), given_by expr.Find (Phrase.one_both (Phrase.one_fact (Phrase.word (codes "a")))) refl, refl), (refl, (refl, ((Ok (ask.Count (Tree.word (codes "a"))), given_by expr.Count (Phrase.one_both (Phrase.one_fact (Phrase.word (codes "a")))) refl, refl), tt)))))
    refl

pub cancels_no_query_without_delay : rows.CancelsNoQueryWithoutDelay
unfolding pieces fields parts said_behind hits_of top_of replies_of output digits
cancels_no_query_without_delay =
    answered _ _
    ((doc 1 (codes "a" ∷ [])) ∷ (query None prio.Mid (ask.Count (Tree.word (codes "a")))) ∷ (Some (line.Cancel 1)) ∷ (Some (line.Cancel 7)) ∷ [])
    (refl, ((Ok (ask.Count (Tree.word (codes "a"))), given_by expr.Count (Phrase.one_both (Phrase.one_fact (Phrase.word (codes "a")))) refl, refl), (refl, (refl, tt))))
    refl

pub due_line_is_the_first : rows.DueLineIsTheFirst
unfolding pieces fields parts said_behind hits_of top_of replies_of output digits
due_line_is_the_first =
    answered _ _
    ((doc 1 (codes "a" ∷ [])) ∷ (query (Some 2) prio.Mid (ask.Count (Tree.word (codes "a")))) ∷ (Some (line.Tick 3)) ∷ (Some (line.Cancel 1)) ∷ (Some (line.Tick 5)) ∷ [])
    (refl, ((Ok (ask.Count (Tree.word (codes "a"))), given_by expr.Count (Phrase.one_both (Phrase.one_fact (Phrase.word (codes "a")))) refl, refl), (refl, (refl, (refl, tt)))))
    refl

pub one_line_orders_by_due_tick : rows.OneLineOrdersByDueTick
unfolding pieces fields parts said_behind hits_of top_of replies_of output digits
one_line_orders_by_due_tick =
    answered _ _
    ((doc 1 (codes "a" ∷ [])) ∷ (query (Some 3) prio.Mid (ask.Count (Tree.word (codes "a")))) ∷ (query (Some 1) prio.Mid (ask.Present (Tree.word (codes "a")))) ∷ (query (Some 3) prio.Mid (ask.Find (Tree.word (codes "a")))) ∷ (Some (line.Tick 9)) ∷ [])
    (refl, ((Ok (ask.Count (Tree.word (codes "a"))), given_by expr.Count (Phrase.one_both (Phrase.one_fact (Phrase.word (codes "a")))) refl, refl), ((Ok (ask.Present (Tree.word (codes "a"))), given_by expr.Present (Phrase.one_both (Phrase.one_fact (Phrase.word (codes "a")))) refl, refl), ((Ok (ask.Find (Tree.word (codes "a"))), given_by expr.Find (Phrase.one_both (Phrase.one_fact (Phrase.word (codes "a")))) refl, refl), (refl, tt)))))
    refl

pub refuses_too_many_ticks : rows.RefusesTooManyTicks
unfolding pieces fields parts said_behind hits_of top_of replies_of output digits
refuses_too_many_ticks =
    refused _ _ (codes "tick 10000000" ∷ []) (codes "tick 1")
    ((Some (line.Tick 10000000)) ∷ [])
    2 (bad.Limit limit.Ticks) refl refl
    (refl, tt)
    refl refl

pub answers_two_documents : rows.AnswersTwoDocuments
unfolding pieces fields parts said_behind hits_of top_of replies_of output digits
answers_two_documents =
    answered _ _
    ((doc 7 (codes "red" ∷ codes "apple" ∷ [])) ∷ (doc 4 (codes "red" ∷ [])) ∷ (query None prio.Mid (ask.Find (Tree.word (codes "red")))) ∷ [])
    (refl, (refl, ((Ok (ask.Find (Tree.word (codes "red"))), given_by expr.Find (Phrase.one_both (Phrase.one_fact (Phrase.word (codes "red")))) refl, refl), tt)))
    refl

pub answers_complements : rows.AnswersComplements
unfolding pieces fields parts said_behind hits_of top_of replies_of output digits
answers_complements =
    answered _ _
    ((doc 7 (codes "red" ∷ codes "apple" ∷ [])) ∷ (doc 4 (codes "red" ∷ [])) ∷ (doc 9 (codes "green" ∷ [])) ∷ (query None prio.Mid (ask.Find (Tree.not (Tree.word (codes "red"))))) ∷ (query None prio.Mid (ask.Count (Tree.either (Tree.not (Tree.word (codes "red"))) (Tree.word (codes "red"))))) ∷ [])
    (refl, (refl, (refl, ((Ok (ask.Find (Tree.not (Tree.word (codes "red")))), given_by expr.Find (Phrase.one_both (Phrase.one_fact (Phrase.bang (Phrase.word (codes "red"))))) refl, refl), ((Ok (ask.Count (Tree.either (Tree.not (Tree.word (codes "red"))) (Tree.word (codes "red")))), given_by expr.Count (Phrase.bar (Phrase.one_both (Phrase.one_fact (Phrase.bang (Phrase.word (codes "red"))))) (Phrase.one_fact (Phrase.word (codes "red")))) refl, refl), tt)))))
    refl

pub answers_by_priority : rows.AnswersByPriority
unfolding pieces fields parts said_behind hits_of top_of replies_of output digits
answers_by_priority =
    answered _ _
    ((doc 5 (codes "a" ∷ [])) ∷ (query None prio.Hi (ask.Present (Tree.word (codes "a")))) ∷ (query None prio.Lo (ask.Present (Tree.word (codes "b")))) ∷ [])
    (refl, ((Ok (ask.Present (Tree.word (codes "a"))), given_by expr.Present (Phrase.one_both (Phrase.one_fact (Phrase.word (codes "a")))) refl, refl), ((Ok (ask.Present (Tree.word (codes "b"))), given_by expr.Present (Phrase.one_both (Phrase.one_fact (Phrase.word (codes "b")))) refl, refl), tt)))
    refl

pub reads_capitals : rows.ReadsCapitals
unfolding pieces fields parts said_behind hits_of top_of replies_of output digits
reads_capitals =
    answered _ _
    ((doc 1 (codes "red" ∷ [])) ∷ None ∷ None ∷ (query None prio.Mid (ask.Find (Tree.word (codes "red")))) ∷ [])
    (refl, (refl, (refl, ((Ok (ask.Find (Tree.word (codes "red"))), given_by expr.Find (Phrase.one_both (Phrase.one_fact (Phrase.word (codes "red")))) refl, refl), tt))))
    refl

pub answers_a_catalogue : rows.AnswersACatalogue
unfolding pieces fields parts said_behind hits_of top_of replies_of output digits
answers_a_catalogue =
    answered _ _
    (None ∷ (doc 101 (codes "the" ∷ codes "quick" ∷ codes "brown" ∷ codes "fox" ∷ [])) ∷ (doc 102 (codes "the" ∷ codes "lazy" ∷ codes "dog" ∷ [])) ∷ (doc 103 (codes "quick" ∷ codes "dog" ∷ codes "training" ∷ [])) ∷ (query None prio.Hi (ask.Find (Tree.both (Tree.word (codes "quick")) (Tree.not (Tree.word (codes "fox")))))) ∷ (query None prio.Mid (ask.Count (Tree.both (Tree.word (codes "the")) (Tree.word (codes "dog"))))) ∷ (query (Some 3) prio.Mid (ask.Top 2 (codes "quick" ∷ codes "dog" ∷ []))) ∷ (query None prio.Mid (ask.Present (Tree.word (codes "cat")))) ∷ (Some (line.Tick 5)) ∷ (query None prio.Mid (ask.Find (Tree.word (codes "the")))) ∷ [])
    (refl, (refl, (refl, (refl, ((Ok (ask.Find (Tree.both (Tree.word (codes "quick")) (Tree.not (Tree.word (codes "fox"))))), given_by expr.Find (Phrase.one_both (Phrase.beside (Phrase.one_fact (Phrase.word (codes "quick"))) (Phrase.bang (Phrase.word (codes "fox"))))) refl, refl), ((Ok (ask.Count (Tree.both (Tree.word (codes "the")) (Tree.word (codes "dog")))), given_by expr.Count (Phrase.one_both (Phrase.beside (Phrase.one_fact (Phrase.word (codes "the"))) (Phrase.word (codes "dog")))) refl, refl), ((Ok (ask.Top 2 (codes "quick" ∷ codes "dog" ∷ [])), refl, refl), ((Ok (ask.Present (Tree.word (codes "cat"))), given_by expr.Present (Phrase.one_both (Phrase.one_fact (Phrase.word (codes "cat")))) refl, refl), (refl, ((Ok (ask.Find (Tree.word (codes "the"))), given_by expr.Find (Phrase.one_both (Phrase.one_fact (Phrase.word (codes "the")))) refl, refl), tt))))))))))
    refl

pub unknown_command_alone : rows.UnknownCommandAlone
unfolding pieces fields parts said_behind hits_of top_of replies_of output digits
unknown_command_alone = (
  refused _ _ [] (codes "findx a") [] 1 bad.UnknownCommand refl refl tt refl refl,
  refused _ _ [] (codes "after 1 tick 1") [] 1 bad.UnknownCommand refl refl tt refl refl,
  refused _ _ [] (codes "hi lo find a") [] 1 bad.UnknownCommand refl refl tt refl refl,
  refused _ _ [] (codes "lo after 1 find a") [] 1 bad.UnknownCommand refl refl tt refl refl,
  refused _ _ [] (codes "lo tick") [] 1 bad.UnknownCommand refl refl tt refl refl,
)

pub bad_number_alone : rows.BadNumberAlone
unfolding pieces fields parts said_behind hits_of top_of replies_of output digits
bad_number_alone = (
  refused _ _ [] (codes "doc x") [] 1 bad.BadNumber refl refl tt refl refl,
  refused _ _ [] (codes "doc 4294967296") [] 1 bad.BadNumber refl refl tt refl refl,
  refused _ _ [] (codes "tick 0") [] 1 bad.BadNumber refl refl tt refl refl,
  refused _ _ [] (codes "tick 10000001") [] 1 bad.BadNumber refl refl tt refl refl,
  refused _ _ [] (codes "after 0 find a") [] 1 bad.BadNumber refl refl tt refl refl,
  refused _ _ [] (codes "after 0 top") [] 1 bad.BadNumber refl refl tt refl refl,
  refused _ _ [] (codes "top 0 a") [] 1 bad.BadNumber refl refl tt refl refl,
  refused _ _ [] (codes "top 101 a") [] 1 bad.BadNumber refl refl tt refl refl,
  refused _ _ [] (codes "cancel 0") [] 1 bad.BadNumber refl refl tt refl refl,
  refused _ _ [] (codes "cancel 50001") [] 1 bad.BadNumber refl refl tt refl refl,
)

pub bad_word_alone : rows.BadWordAlone
unfolding pieces fields parts said_behind hits_of top_of replies_of output digits
bad_word_alone = (
  refused _ _ [] (codes "doc 1 a-b") [] 1 bad.BadWord refl refl tt refl refl,
  refused _ _ [] (codes "find a-b") [] 1 bad.BadWord refl refl tt refl refl,
  refused _ _ [] (codes "find ) a-") [] 1 bad.BadWord refl refl tt refl refl,
  refused _ _ [] (codes "top 1 a!") [] 1 bad.BadWord refl refl tt refl refl,
)

pub missing_field_alone : rows.MissingFieldAlone
unfolding pieces fields parts said_behind hits_of top_of replies_of output digits
missing_field_alone = (
  refused _ _ [] (codes "doc") [] 1 bad.MissingField refl refl tt refl refl,
  refused _ _ [] (codes "tick") [] 1 bad.MissingField refl refl tt refl refl,
  refused _ _ [] (codes "cancel") [] 1 bad.MissingField refl refl tt refl refl,
  refused _ _ [] (codes "after") [] 1 bad.MissingField refl refl tt refl refl,
  refused _ _ [] (codes "after 1") [] 1 bad.MissingField refl refl tt refl refl,
  refused _ _ [] (codes "after 1 lo") [] 1 bad.MissingField refl refl tt refl refl,
  refused _ _ [] (codes "hi") [] 1 bad.MissingField refl refl tt refl refl,
  refused _ _ [] (codes "top") [] 1 bad.MissingField refl refl tt refl refl,
  refused _ _ [] (codes "top 1") [] 1 bad.MissingField refl refl tt refl refl,
)

pub extra_field_alone : rows.ExtraFieldAlone
unfolding pieces fields parts said_behind hits_of top_of replies_of output digits
extra_field_alone = (
  refused _ _ [] (codes "tick 1 2") [] 1 bad.ExtraField refl refl tt refl refl,
  refused _ _ [] (codes "cancel 1 1") [] 1 bad.ExtraField refl refl tt refl refl,
)

pub cuts_at_line_feeds : rows.CutsAtLineFeeds
unfolding pieces fields parts said_behind hits_of top_of replies_of output digits canonical_text generated_input summary_line
cuts_at_line_feeds = answered _ _ ((doc 1 (codes "red" ∷ [])) ∷ None ∷ None ∷ (query None prio.Mid (ask.Find (Tree.word (codes "red")))) ∷ []) (refl, (refl, (refl, ((Ok (ask.Find (Tree.word (codes "red"))), given_by expr.Find (Phrase.one_both (Phrase.one_fact (Phrase.word (codes "red")))) refl, refl), tt)))) refl

pub reads_a_cut_word : rows.ReadsACutWord
unfolding pieces fields parts said_behind hits_of top_of replies_of output digits canonical_text generated_input summary_line
reads_a_cut_word = answered _ _ ((doc 7 (codes "red" ∷ codes "apple" ∷ [])) ∷ (doc 4 (codes "red" ∷ [])) ∷ (query None prio.Mid (ask.Find (Tree.word (codes "re")))) ∷ []) (refl, (refl, ((Ok (ask.Find (Tree.word (codes "re"))), given_by expr.Find (Phrase.one_both (Phrase.one_fact (Phrase.word (codes "re")))) refl, refl), tt))) refl

pub skips_a_last_return : rows.SkipsALastReturn
unfolding pieces fields parts said_behind hits_of top_of replies_of output digits canonical_text generated_input summary_line
skips_a_last_return = answered _ _ ((query None prio.Mid (ask.Count (Tree.word (codes "a")))) ∷ None ∷ []) ((Ok (ask.Count (Tree.word (codes "a"))), given_by expr.Count (Phrase.one_both (Phrase.one_fact (Phrase.word (codes "a")))) refl, refl), (refl, tt)) refl

pub refuses_bytes : rows.RefusesBytes
unfolding pieces fields parts said_behind hits_of top_of replies_of output digits canonical_text generated_input summary_line
refuses_bytes = (
  refused _ _ [] (codes "find a" ++ ((128 ∷ []))) [] 1 bad.BadByte refl refl tt refl refl,
  refused _ _ [] (codes "find a" ++ ((13 ∷ []) ++ ((13 ∷ [])))) [] 1 bad.BadByte refl refl tt refl refl,
  refused _ _ [] (codes "find a" ++ (0 ∷ [])) [] 1 bad.BadByte refl refl tt refl refl,
)

pub refuses_no_expression : rows.RefusesNoExpression
unfolding pieces fields parts said_behind hits_of top_of replies_of output digits canonical_text generated_input summary_line
refuses_no_expression = (
  refused _ _ [] (codes "find") [] 1 (bad.BadExpr fault.Empty) refl refl tt (Err (bad.BadExpr fault.Empty), (fault.Empty, refl, refl), refl) refl,
  refused _ _ [] (codes "after 3 hi exists") [] 1 (bad.BadExpr fault.Empty) refl refl tt (Err (bad.BadExpr fault.Empty), (fault.Empty, refl, refl), refl) refl,
)

pub writes_canonically : rows.WritesCanonically
unfolding pieces fields parts said_behind hits_of top_of replies_of output digits canonical_text generated_input summary_line
writes_canonically = (
  record { lines = kept ((doc 4 (codes "b" ∷ codes "a" ∷ [])) ∷ (query (Some 7) prio.Mid (ask.Find (Tree.both (Tree.either (Tree.word (codes "a")) (Tree.word (codes "b"))) (Tree.word (codes "c"))))) ∷ (query None prio.Lo (ask.Top 3 (codes "a" ∷ []))) ∷ (Some (line.Cancel 7)) ∷ (Some (line.Tick 10)) ∷ (query None prio.Hi (ask.Count (Tree.both (Tree.both (Tree.word (codes "a")) (Tree.word (codes "b"))) (Tree.word (codes "c"))))) ∷ (query None prio.Mid (ask.Count (Tree.both (Tree.word (codes "a")) (Tree.both (Tree.word (codes "b")) (Tree.word (codes "c")))))) ∷ (query None prio.Mid (ask.Count (Tree.either (Tree.either (Tree.either (Tree.word (codes "a")) (Tree.word (codes "b"))) (Tree.word (codes "c"))) (Tree.either (Tree.word (codes "d")) (Tree.word (codes "e")))))) ∷ (query None prio.Mid (ask.Present (Tree.either (Tree.either (Tree.not (Tree.both (Tree.word (codes "a")) (Tree.word (codes "b")))) (Tree.not (Tree.either (Tree.word (codes "a")) (Tree.word (codes "b"))))) (Tree.not (Tree.not (Tree.word (codes "a"))))))) ∷ (query None prio.Mid (ask.Find (Tree.either (Tree.both (Tree.word (codes "a")) (Tree.word (codes "b"))) (Tree.both (Tree.both (Tree.word (codes "c")) (Tree.word (codes "d"))) (Tree.not (Tree.word (codes "e"))))))) ∷ []) },
  record { marks = (doc 4 (codes "b" ∷ codes "a" ∷ [])) ∷ (query (Some 7) prio.Mid (ask.Find (Tree.both (Tree.either (Tree.word (codes "a")) (Tree.word (codes "b"))) (Tree.word (codes "c"))))) ∷ (query None prio.Lo (ask.Top 3 (codes "a" ∷ []))) ∷ (Some (line.Cancel 7)) ∷ (Some (line.Tick 10)) ∷ (query None prio.Hi (ask.Count (Tree.both (Tree.both (Tree.word (codes "a")) (Tree.word (codes "b"))) (Tree.word (codes "c"))))) ∷ (query None prio.Mid (ask.Count (Tree.both (Tree.word (codes "a")) (Tree.both (Tree.word (codes "b")) (Tree.word (codes "c")))))) ∷ (query None prio.Mid (ask.Count (Tree.either (Tree.either (Tree.either (Tree.word (codes "a")) (Tree.word (codes "b"))) (Tree.word (codes "c"))) (Tree.either (Tree.word (codes "d")) (Tree.word (codes "e")))))) ∷ (query None prio.Mid (ask.Present (Tree.either (Tree.either (Tree.not (Tree.both (Tree.word (codes "a")) (Tree.word (codes "b")))) (Tree.not (Tree.either (Tree.word (codes "a")) (Tree.word (codes "b"))))) (Tree.not (Tree.not (Tree.word (codes "a"))))))) ∷ (query None prio.Mid (ask.Find (Tree.either (Tree.both (Tree.word (codes "a")) (Tree.word (codes "b"))) (Tree.both (Tree.both (Tree.word (codes "c")) (Tree.word (codes "d"))) (Tree.not (Tree.word (codes "e"))))))) ∷ []; stand = stands 4 _ ((doc 4 (codes "b" ∷ codes "a" ∷ [])) ∷ (query (Some 7) prio.Mid (ask.Find (Tree.both (Tree.either (Tree.word (codes "a")) (Tree.word (codes "b"))) (Tree.word (codes "c"))))) ∷ (query None prio.Lo (ask.Top 3 (codes "a" ∷ []))) ∷ (Some (line.Cancel 7)) ∷ (Some (line.Tick 10)) ∷ (query None prio.Hi (ask.Count (Tree.both (Tree.both (Tree.word (codes "a")) (Tree.word (codes "b"))) (Tree.word (codes "c"))))) ∷ (query None prio.Mid (ask.Count (Tree.both (Tree.word (codes "a")) (Tree.both (Tree.word (codes "b")) (Tree.word (codes "c")))))) ∷ (query None prio.Mid (ask.Count (Tree.either (Tree.either (Tree.either (Tree.word (codes "a")) (Tree.word (codes "b"))) (Tree.word (codes "c"))) (Tree.either (Tree.word (codes "d")) (Tree.word (codes "e")))))) ∷ (query None prio.Mid (ask.Present (Tree.either (Tree.either (Tree.not (Tree.both (Tree.word (codes "a")) (Tree.word (codes "b")))) (Tree.not (Tree.either (Tree.word (codes "a")) (Tree.word (codes "b"))))) (Tree.not (Tree.not (Tree.word (codes "a"))))))) ∷ (query None prio.Mid (ask.Find (Tree.either (Tree.both (Tree.word (codes "a")) (Tree.word (codes "b"))) (Tree.both (Tree.both (Tree.word (codes "c")) (Tree.word (codes "d"))) (Tree.not (Tree.word (codes "e"))))))) ∷ []) (refl, ((Ok (ask.Find (Tree.both (Tree.either (Tree.word (codes "a")) (Tree.word (codes "b"))) (Tree.word (codes "c")))), given_by expr.Find (Phrase.one_both (Phrase.one_fact (Phrase.brackets (Phrase.one_both (Phrase.beside (Phrase.one_fact (Phrase.brackets (Phrase.bar (Phrase.one_both (Phrase.one_fact (Phrase.word (codes "a")))) (Phrase.one_fact (Phrase.word (codes "b")))))) (Phrase.word (codes "c"))))))) refl, refl), ((Ok (ask.Top 3 (codes "a" ∷ [])), refl, refl), (refl, (refl, ((Ok (ask.Count (Tree.both (Tree.both (Tree.word (codes "a")) (Tree.word (codes "b"))) (Tree.word (codes "c")))), given_by expr.Count (Phrase.one_both (Phrase.beside (Phrase.beside (Phrase.one_fact (Phrase.word (codes "a"))) (Phrase.word (codes "b"))) (Phrase.word (codes "c")))) refl, refl), ((Ok (ask.Count (Tree.both (Tree.word (codes "a")) (Tree.both (Tree.word (codes "b")) (Tree.word (codes "c"))))), given_by expr.Count (Phrase.one_both (Phrase.beside (Phrase.one_fact (Phrase.word (codes "a"))) (Phrase.brackets (Phrase.one_both (Phrase.beside (Phrase.one_fact (Phrase.word (codes "b"))) (Phrase.word (codes "c"))))))) refl, refl), ((Ok (ask.Count (Tree.either (Tree.either (Tree.either (Tree.word (codes "a")) (Tree.word (codes "b"))) (Tree.word (codes "c"))) (Tree.either (Tree.word (codes "d")) (Tree.word (codes "e"))))), given_by expr.Count (Phrase.bar (Phrase.bar (Phrase.one_both (Phrase.one_fact (Phrase.brackets (Phrase.bar (Phrase.one_both (Phrase.one_fact (Phrase.word (codes "a")))) (Phrase.one_fact (Phrase.word (codes "b"))))))) (Phrase.one_fact (Phrase.word (codes "c")))) (Phrase.one_fact (Phrase.brackets (Phrase.bar (Phrase.one_both (Phrase.one_fact (Phrase.word (codes "d")))) (Phrase.one_fact (Phrase.word (codes "e"))))))) refl, refl), ((Ok (ask.Present (Tree.either (Tree.either (Tree.not (Tree.both (Tree.word (codes "a")) (Tree.word (codes "b")))) (Tree.not (Tree.either (Tree.word (codes "a")) (Tree.word (codes "b"))))) (Tree.not (Tree.not (Tree.word (codes "a")))))), given_by expr.Present (Phrase.bar (Phrase.bar (Phrase.one_both (Phrase.one_fact (Phrase.bang (Phrase.brackets (Phrase.one_both (Phrase.beside (Phrase.one_fact (Phrase.word (codes "a"))) (Phrase.word (codes "b")))))))) (Phrase.one_fact (Phrase.bang (Phrase.brackets (Phrase.bar (Phrase.one_both (Phrase.one_fact (Phrase.word (codes "a")))) (Phrase.one_fact (Phrase.word (codes "b")))))))) (Phrase.one_fact (Phrase.bang (Phrase.bang (Phrase.word (codes "a")))))) refl, refl), ((Ok (ask.Find (Tree.either (Tree.both (Tree.word (codes "a")) (Tree.word (codes "b"))) (Tree.both (Tree.both (Tree.word (codes "c")) (Tree.word (codes "d"))) (Tree.not (Tree.word (codes "e")))))), given_by expr.Find (Phrase.bar (Phrase.one_both (Phrase.one_fact (Phrase.brackets (Phrase.one_both (Phrase.one_fact (Phrase.brackets (Phrase.one_both (Phrase.one_fact (Phrase.brackets (Phrase.one_both (Phrase.beside (Phrase.one_fact (Phrase.word (codes "a"))) (Phrase.word (codes "b"))))))))))))) (Phrase.beside (Phrase.beside (Phrase.one_fact (Phrase.word (codes "c"))) (Phrase.brackets (Phrase.one_both (Phrase.one_fact (Phrase.word (codes "d")))))) (Phrase.bang (Phrase.brackets (Phrase.one_both (Phrase.one_fact (Phrase.word (codes "e")))))))) refl, refl), tt)))))))))); lines = refl },
  refl,
  record { marks = (doc 4 (codes "b" ∷ codes "a" ∷ [])) ∷ (query (Some 7) prio.Mid (ask.Find (Tree.both (Tree.either (Tree.word (codes "a")) (Tree.word (codes "b"))) (Tree.word (codes "c"))))) ∷ (query None prio.Lo (ask.Top 3 (codes "a" ∷ []))) ∷ (Some (line.Cancel 7)) ∷ (Some (line.Tick 10)) ∷ (query None prio.Hi (ask.Count (Tree.both (Tree.both (Tree.word (codes "a")) (Tree.word (codes "b"))) (Tree.word (codes "c"))))) ∷ (query None prio.Mid (ask.Count (Tree.both (Tree.word (codes "a")) (Tree.both (Tree.word (codes "b")) (Tree.word (codes "c")))))) ∷ (query None prio.Mid (ask.Count (Tree.either (Tree.either (Tree.either (Tree.word (codes "a")) (Tree.word (codes "b"))) (Tree.word (codes "c"))) (Tree.either (Tree.word (codes "d")) (Tree.word (codes "e")))))) ∷ (query None prio.Mid (ask.Present (Tree.either (Tree.either (Tree.not (Tree.both (Tree.word (codes "a")) (Tree.word (codes "b")))) (Tree.not (Tree.either (Tree.word (codes "a")) (Tree.word (codes "b"))))) (Tree.not (Tree.not (Tree.word (codes "a"))))))) ∷ (query None prio.Mid (ask.Find (Tree.either (Tree.both (Tree.word (codes "a")) (Tree.word (codes "b"))) (Tree.both (Tree.both (Tree.word (codes "c")) (Tree.word (codes "d"))) (Tree.not (Tree.word (codes "e"))))))) ∷ []; stand = stands 4 _ ((doc 4 (codes "b" ∷ codes "a" ∷ [])) ∷ (query (Some 7) prio.Mid (ask.Find (Tree.both (Tree.either (Tree.word (codes "a")) (Tree.word (codes "b"))) (Tree.word (codes "c"))))) ∷ (query None prio.Lo (ask.Top 3 (codes "a" ∷ []))) ∷ (Some (line.Cancel 7)) ∷ (Some (line.Tick 10)) ∷ (query None prio.Hi (ask.Count (Tree.both (Tree.both (Tree.word (codes "a")) (Tree.word (codes "b"))) (Tree.word (codes "c"))))) ∷ (query None prio.Mid (ask.Count (Tree.both (Tree.word (codes "a")) (Tree.both (Tree.word (codes "b")) (Tree.word (codes "c")))))) ∷ (query None prio.Mid (ask.Count (Tree.either (Tree.either (Tree.either (Tree.word (codes "a")) (Tree.word (codes "b"))) (Tree.word (codes "c"))) (Tree.either (Tree.word (codes "d")) (Tree.word (codes "e")))))) ∷ (query None prio.Mid (ask.Present (Tree.either (Tree.either (Tree.not (Tree.both (Tree.word (codes "a")) (Tree.word (codes "b")))) (Tree.not (Tree.either (Tree.word (codes "a")) (Tree.word (codes "b"))))) (Tree.not (Tree.not (Tree.word (codes "a"))))))) ∷ (query None prio.Mid (ask.Find (Tree.either (Tree.both (Tree.word (codes "a")) (Tree.word (codes "b"))) (Tree.both (Tree.both (Tree.word (codes "c")) (Tree.word (codes "d"))) (Tree.not (Tree.word (codes "e"))))))) ∷ []) (refl, ((Ok (ask.Find (Tree.both (Tree.either (Tree.word (codes "a")) (Tree.word (codes "b"))) (Tree.word (codes "c")))), given_by expr.Find (Phrase.one_both (Phrase.beside (Phrase.one_fact (Phrase.brackets (Phrase.bar (Phrase.one_both (Phrase.one_fact (Phrase.word (codes "a")))) (Phrase.one_fact (Phrase.word (codes "b")))))) (Phrase.word (codes "c")))) refl, refl), ((Ok (ask.Top 3 (codes "a" ∷ [])), refl, refl), (refl, (refl, ((Ok (ask.Count (Tree.both (Tree.both (Tree.word (codes "a")) (Tree.word (codes "b"))) (Tree.word (codes "c")))), given_by expr.Count (Phrase.one_both (Phrase.beside (Phrase.beside (Phrase.one_fact (Phrase.word (codes "a"))) (Phrase.word (codes "b"))) (Phrase.word (codes "c")))) refl, refl), ((Ok (ask.Count (Tree.both (Tree.word (codes "a")) (Tree.both (Tree.word (codes "b")) (Tree.word (codes "c"))))), given_by expr.Count (Phrase.one_both (Phrase.beside (Phrase.one_fact (Phrase.word (codes "a"))) (Phrase.brackets (Phrase.one_both (Phrase.beside (Phrase.one_fact (Phrase.word (codes "b"))) (Phrase.word (codes "c"))))))) refl, refl), ((Ok (ask.Count (Tree.either (Tree.either (Tree.either (Tree.word (codes "a")) (Tree.word (codes "b"))) (Tree.word (codes "c"))) (Tree.either (Tree.word (codes "d")) (Tree.word (codes "e"))))), given_by expr.Count (Phrase.bar (Phrase.bar (Phrase.bar (Phrase.one_both (Phrase.one_fact (Phrase.word (codes "a")))) (Phrase.one_fact (Phrase.word (codes "b")))) (Phrase.one_fact (Phrase.word (codes "c")))) (Phrase.one_fact (Phrase.brackets (Phrase.bar (Phrase.one_both (Phrase.one_fact (Phrase.word (codes "d")))) (Phrase.one_fact (Phrase.word (codes "e"))))))) refl, refl), ((Ok (ask.Present (Tree.either (Tree.either (Tree.not (Tree.both (Tree.word (codes "a")) (Tree.word (codes "b")))) (Tree.not (Tree.either (Tree.word (codes "a")) (Tree.word (codes "b"))))) (Tree.not (Tree.not (Tree.word (codes "a")))))), given_by expr.Present (Phrase.bar (Phrase.bar (Phrase.one_both (Phrase.one_fact (Phrase.bang (Phrase.brackets (Phrase.one_both (Phrase.beside (Phrase.one_fact (Phrase.word (codes "a"))) (Phrase.word (codes "b")))))))) (Phrase.one_fact (Phrase.bang (Phrase.brackets (Phrase.bar (Phrase.one_both (Phrase.one_fact (Phrase.word (codes "a")))) (Phrase.one_fact (Phrase.word (codes "b")))))))) (Phrase.one_fact (Phrase.bang (Phrase.bang (Phrase.word (codes "a")))))) refl, refl), ((Ok (ask.Find (Tree.either (Tree.both (Tree.word (codes "a")) (Tree.word (codes "b"))) (Tree.both (Tree.both (Tree.word (codes "c")) (Tree.word (codes "d"))) (Tree.not (Tree.word (codes "e")))))), given_by expr.Find (Phrase.bar (Phrase.one_both (Phrase.beside (Phrase.one_fact (Phrase.word (codes "a"))) (Phrase.word (codes "b")))) (Phrase.beside (Phrase.beside (Phrase.one_fact (Phrase.word (codes "c"))) (Phrase.word (codes "d"))) (Phrase.bang (Phrase.word (codes "e"))))) refl, refl), tt)))))))))); lines = refl },
)

pub generates_lines : rows.GeneratesLines
unfolding pieces fields parts said_behind hits_of top_of replies_of output digits canonical_text generated_input summary_line
generates_lines = refl

pub sums_up : rows.SumsUp
unfolding pieces fields parts said_behind hits_of top_of replies_of output digits canonical_text generated_input summary_line
sums_up = (refl, refl, refl)
