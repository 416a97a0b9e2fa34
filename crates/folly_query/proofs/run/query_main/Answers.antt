use Rattle.std.proofs.Common.{subst}
use Rattle.std.specs.Option.{IfSome}
use Rattle.fan_base.specs.Outside.{shown}
use Rattle.query_words.specs.declared.command.Command.TheVariants as command
use Rattle.run_ending.specs.Ends.{IsPoolTold}
use Rattle.folly_query.specs.Endings.{Comes, EndsAs, SumsUpAs, TellsPool, asked_of}
use Rattle.folly_query.proofs.CommandLemmas.{same_generation, same_settings, same_settings_of_it}
use Rattle.folly_query.proofs.run.query_main.Goals as goal

pub returns-in-Some-Run-clause-ends : goal.returns-in-Some-Run-clause-ends
returns-in-Some-Run-clause-ends g c = λ settings is.
    subst (λ s. EndsAs s (shown (g.S.Source.left c.args.source.now) (g.S.Source.faults c.args.source.now)) (shown (g.S.Source.left c.run.new.source) (g.S.Source.faults c.run.new.source))
    (shown (g.K.Sink.holds c.args.sink.now) (g.K.Sink.faults c.args.sink.now)) (shown (g.K.Sink.holds c.run.new.sink) (g.K.Sink.faults c.run.new.sink)) c.run.result)
    (same_settings c.words_are_at_most_one_command.ensures c.args.words.now c.in-Some-Run.field-0 c.in-Some-Run.settings settings c.in-Some-Run.ensures.some c.in-Some-Run.field-0-is is)
    c.run.ensures.ends

pub returns-in-Some-Run-clause-comes : goal.returns-in-Some-Run-clause-comes
returns-in-Some-Run-clause-comes g c = λ settings is.
    subst (λ s. IfSome (g.S.Source.left c.args.source.now) (λ bytes. Comes s.shards bytes
    (shown (g.S.Source.left c.args.source.now) (g.S.Source.faults c.args.source.now)) (shown (g.S.Source.left c.run.new.source) (g.S.Source.faults c.run.new.source))
    (shown (g.K.Sink.holds c.args.sink.now) (g.K.Sink.faults c.args.sink.now)) (shown (g.K.Sink.holds c.run.new.sink) (g.K.Sink.faults c.run.new.sink)) c.run.result.status))
    (same_settings c.words_are_at_most_one_command.ensures c.args.words.now c.in-Some-Run.field-0 c.in-Some-Run.settings settings c.in-Some-Run.ensures.some c.in-Some-Run.field-0-is is)
    c.run.ensures.comes

pub returns-in-Some-Run-clause-pool : goal.returns-in-Some-Run-clause-pool
returns-in-Some-Run-clause-pool g c = λ settings is.
    subst (λ s. IfSome c.run.result.pool (TellsPool s
    (shown (g.S.Source.left c.args.source.now) (g.S.Source.faults c.args.source.now)) (shown (g.S.Source.left c.run.new.source) (g.S.Source.faults c.run.new.source))))
    (same_settings c.words_are_at_most_one_command.ensures c.args.words.now c.in-Some-Run.field-0 c.in-Some-Run.settings settings c.in-Some-Run.ensures.some c.in-Some-Run.field-0-is is)
    c.run.ensures.pool

pub returns-in-Some-Generate-clause-sums_up : goal.returns-in-Some-Generate-clause-sums_up
returns-in-Some-Generate-clause-sums_up g c = λ generation settings is.
    let old = shown (g.K.Sink.holds c.args.sink.now) (g.K.Sink.faults c.args.sink.now) in
    let new = shown (g.K.Sink.holds c.sum_up.new.sink) (g.K.Sink.faults c.sum_up.new.sink) in
    subst (λ n. SumsUpAs n settings old new c.sum_up.result)
    (same_generation c.words_are_at_most_one_command.ensures c.args.words.now c.in-Some-Generate.field-0 c.in-Some-Generate.generation generation c.in-Some-Generate.settings settings
    c.in-Some-Generate.ensures.some c.in-Some-Generate.field-0-is is)
    (subst (λ s. SumsUpAs c.in-Some-Generate.generation s old new c.sum_up.result)
    (same_settings_of_it c.words_are_at_most_one_command.ensures c.args.words.now c.in-Some-Generate.field-0 c.in-Some-Generate.generation generation c.in-Some-Generate.settings settings
    c.in-Some-Generate.ensures.some c.in-Some-Generate.field-0-is is)
    c.sum_up.ensures.ends)

pub returns-in-Some-Generate-clause-made_up_pool : goal.returns-in-Some-Generate-clause-made_up_pool
returns-in-Some-Generate-clause-made_up_pool g c = λ generation settings is.
    subst (λ n. IfSome c.sum_up.result.pool (IsPoolTold (asked_of n settings)))
    (same_generation c.words_are_at_most_one_command.ensures c.args.words.now c.in-Some-Generate.field-0 c.in-Some-Generate.generation generation c.in-Some-Generate.settings settings
    c.in-Some-Generate.ensures.some c.in-Some-Generate.field-0-is is)
    (subst (λ s. IfSome c.sum_up.result.pool (IsPoolTold (asked_of c.in-Some-Generate.generation s)))
    (same_settings_of_it c.words_are_at_most_one_command.ensures c.args.words.now c.in-Some-Generate.field-0 c.in-Some-Generate.generation generation c.in-Some-Generate.settings settings
    c.in-Some-Generate.ensures.some c.in-Some-Generate.field-0-is is)
    c.sum_up.ensures.stopped)

pub returns-in-None-clause-ends : goal.returns-in-None-clause-ends
returns-in-None-clause-ends g c = λ settings is. absurd (c.in-None.ensures.none (command.Run settings) is)

pub returns-in-None-clause-comes : goal.returns-in-None-clause-comes
returns-in-None-clause-comes g c = λ settings is. absurd (c.in-None.ensures.none (command.Run settings) is)

pub returns-in-None-clause-sums_up : goal.returns-in-None-clause-sums_up
returns-in-None-clause-sums_up g c = λ generation settings is. absurd (c.in-None.ensures.none (command.Generate generation settings) is)
