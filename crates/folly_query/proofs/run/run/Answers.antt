use Rattle.std.proofs.Common.{Err, ap, sym, subst, ◌∙◌}
use Rattle.fan_base.specs.Outside.{shown}
use Rattle.folly_query.specs.Endings.{RefusesAs}
use Rattle.folly_query.proofs.EndingLemmas.{refusal_comes, refused_ends, refused_unanswered, run_comes, run_ends, run_unanswered, tells_pool}
use Rattle.folly_query.proofs.run.run.Goals as goal

pub answer-requires-clause-limits : goal.answer-requires-clause-limits
answer-requires-clause-limits g c κs within =
    let read = c.in-Ok.ensures.accepted in
    c.accepted_is_within_limits.ensures read.0 c.args.settings.shards (record { lines = c.in-Ok.table }) read.2

pub returns-in-Err-Bad-clause-ends : goal.returns-in-Err-Bad-clause-ends
returns-in-Err-Bad-clause-ends g c =
    let source = shown (g.S.Source.left c.args.source.now) (g.S.Source.faults c.args.source.now) in
    let source' = shown (g.S.Source.left c.read_source.new.source) (g.S.Source.faults c.read_source.new.source) in
    let sink = shown (g.K.Sink.holds c.args.sink.now) (g.K.Sink.faults c.args.sink.now) in
    let sink' = shown (g.K.Sink.holds c.refuse.new.sink) (g.K.Sink.faults c.refuse.new.sink) in
    let read = c.in-Err-Bad.ensures.refused c.in-Err-Bad.bad (ap (λ e. Err e) c.in-Err-Bad.field-0-is) in
    refused_ends c.args.settings source source' sink sink' read.0 c.in-Err-Bad.bad c.empty-in-Err-Bad.result c.refuse.result c.empty-in-Err-Bad.ensures.status read.1 read.2
    (subst (λ b. RefusesAs b sink sink' c.refuse.result) c.in-Err-Bad.bad-is c.refuse.ensures.ends)

pub returns-in-Err-Bad-clause-comes : goal.returns-in-Err-Bad-clause-comes
returns-in-Err-Bad-clause-comes g c =
    let source = shown (g.S.Source.left c.args.source.now) (g.S.Source.faults c.args.source.now) in
    let source' = shown (g.S.Source.left c.read_source.new.source) (g.S.Source.faults c.read_source.new.source) in
    let sink = shown (g.K.Sink.holds c.args.sink.now) (g.K.Sink.faults c.args.sink.now) in
    let sink' = shown (g.K.Sink.holds c.refuse.new.sink) (g.K.Sink.faults c.refuse.new.sink) in
    let read = c.in-Err-Bad.ensures.refused c.in-Err-Bad.bad (ap (λ e. Err e) c.in-Err-Bad.field-0-is) in
    let decided = c.input_law.ensures read.0 c.args.settings.shards in
    refusal_comes c.args.settings source source' sink sink' read.0 c.in-Err-Bad.bad c.empty-in-Err-Bad.result.status c.refuse.result c.empty-in-Err-Bad.ensures.status read.1
    (λ input a. decided.never_both input c.in-Err-Bad.bad a read.2) (λ other r. decided.one_refusal c.in-Err-Bad.bad other read.2 r)
    (subst (λ b. RefusesAs b sink sink' c.refuse.result) c.in-Err-Bad.bad-is c.refuse.ensures.ends)

pub returns-clause-ends : goal.returns-clause-ends
returns-clause-ends g c =
    let source = shown (g.S.Source.left c.args.source.now) (g.S.Source.faults c.args.source.now) in
    let source' = shown (g.S.Source.left c.read_source.new.source) (g.S.Source.faults c.read_source.new.source) in
    let sink = shown (g.K.Sink.holds c.args.sink.now) (g.K.Sink.faults c.args.sink.now) in
    let sink' = shown (g.K.Sink.holds c.answer.new.sink) (g.K.Sink.faults c.answer.new.sink) in
    let read = c.in-Ok.ensures.accepted in
    run_ends c.args.settings source source' sink sink' read.0 (record { lines = c.in-Ok.table }) c.of_run.result c.answer.result
    (record { status = c.of_run.ensures.status; pool = c.of_run.ensures.pool; queues = c.of_run.ensures.queues; tally = c.of_run.ensures.tally })
    read.1 read.2 c.answer.ensures.writes c.answer.ensures.reports

pub returns-clause-comes : goal.returns-clause-comes
returns-clause-comes g c =
    let source = shown (g.S.Source.left c.args.source.now) (g.S.Source.faults c.args.source.now) in
    let source' = shown (g.S.Source.left c.read_source.new.source) (g.S.Source.faults c.read_source.new.source) in
    let sink = shown (g.K.Sink.holds c.args.sink.now) (g.K.Sink.faults c.args.sink.now) in
    let sink' = shown (g.K.Sink.holds c.answer.new.sink) (g.K.Sink.faults c.answer.new.sink) in
    let read = c.in-Ok.ensures.accepted in
    run_comes c.args.settings source source' sink sink' read.0 (record { lines = c.in-Ok.table }) c.of_run.result.status c.answer.result.outcome c.of_run.ensures.status read.1
    (λ bad r. (c.input_law.ensures read.0 c.args.settings.shards).never_both (record { lines = c.in-Ok.table }) bad read.2 r) c.answer.ensures.writes

pub returns-clause-pool : goal.returns-clause-pool
returns-clause-pool g c =
    let source = shown (g.S.Source.left c.args.source.now) (g.S.Source.faults c.args.source.now) in
    let source' = shown (g.S.Source.left c.read_source.new.source) (g.S.Source.faults c.read_source.new.source) in
    let sink = shown (g.K.Sink.holds c.args.sink.now) (g.K.Sink.faults c.args.sink.now) in
    let sink' = shown (g.K.Sink.holds c.answer.new.sink) (g.K.Sink.faults c.answer.new.sink) in
    let read = c.in-Ok.ensures.accepted in
    tells_pool c.args.settings source source' sink sink' read.0 (record { lines = c.in-Ok.table }) c.of_run.result.pool c.answer.result.pool c.of_run.ensures.pool
    read.1 read.2 c.answer.ensures.stopped

pub returns-in-Err-Bad-clause-unanswered : goal.returns-in-Err-Bad-clause-unanswered
returns-in-Err-Bad-clause-unanswered g c = λ none.
    let sink = shown (g.K.Sink.holds c.args.sink.now) (g.K.Sink.faults c.args.sink.now) in
    let sink' = shown (g.K.Sink.holds c.refuse.new.sink) (g.K.Sink.faults c.refuse.new.sink) in
    refused_unanswered c.in-Err-Bad.bad sink sink' c.empty-in-Err-Bad.result.status c.refuse.result c.empty-in-Err-Bad.ensures.status
    (subst (λ b. RefusesAs b sink sink' c.refuse.result) c.in-Err-Bad.bad-is c.refuse.ensures.ends)

pub returns-clause-unanswered : goal.returns-clause-unanswered
returns-clause-unanswered g c = λ none.
    let sink = shown (g.K.Sink.holds c.args.sink.now) (g.K.Sink.faults c.args.sink.now) in
    let sink' = shown (g.K.Sink.holds c.answer.new.sink) (g.K.Sink.faults c.answer.new.sink) in
    run_unanswered sink sink' c.of_run.result.status c.answer.result.outcome c.of_run.ensures.status (c.answer.ensures.untouched (sym c.of_run.ensures.pool ∙ none))
