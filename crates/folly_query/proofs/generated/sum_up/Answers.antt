use Rattle.std.proofs.Common.{◌≡◌, List, Some, ap, ◌∙◌, subst}
use Rattle.fan_base.specs.Outside.{shown}
use Rattle.std.specs.Option.{IfSome}
use Rattle.run_ending.specs.Ends.{IsPoolTold, ReportsAs}
use Rattle.fanout.specs.Asked.{Writes}
use Rattle.query_model.specs.declared.line.Input.{Input}
use Rattle.query_model.specs.declared.line.Line.{Line}
use Rattle.query_model.specs.Generated.{generated_input}
use Rattle.query_model.specs.Output.{output}
use Rattle.folly_query.specs.Reports.{asked_by}
use Rattle.folly_query.proofs.EndingLemmas.{held, summary_ends, told_has_pool}
use Rattle.folly_query.proofs.generated.sum_up.Goals as goal

pub returns-in-Done : goal.returns-in-Done
returns-in-Done g c =
    let whole : (ls : List Line) → Input = λ ls. record { lines = ls } in
    let input : Input = whole c.in-Ok.table in
    let is : input ≡ generated_input c.args.generation.seed c.args.generation.docs c.args.generation.queries = ap whole c.in-Ok.ensures in
    let sink = shown (g.K.Sink.holds c.args.sink.now) (g.K.Sink.faults c.args.sink.now) in
    let sink' = shown (g.K.Sink.holds c.write_summary.new.sink) (g.K.Sink.faults c.write_summary.new.sink) in
    let before = c.new-replies.result in
    let after = c.answer-outcome.new.sink in
    let writes = subst (λ o. Writes input (shown (Some before.bytes.items) before.faults) (shown (Some after.bytes.items) after.faults) o) c.in-Done.is c.answer-outcome.ensures.writes in
    let reports = subst (λ o. ReportsAs (asked_by c.args.settings c.in-Ok.table) c.answer-outcome.result o) c.in-Done.is c.answer-outcome.ensures.reports in
    record {
      ends = summary_ends c.args.generation c.args.settings sink sink' c.answer-outcome.result c.write_summary.result input c.bytes.result.now is
          (c.bytes.ensures ∙ held before.bytes.items after.bytes.items (output input) before.faults after.faults c.new-replies.ensures.bytes writes)
          reports c.write_summary.ensures;
      unmade = λ none. record { pool = none; queues = (c.answer-outcome.ensures.unmade none).queues; cores = (c.answer-outcome.ensures.unmade none).cores };
      unanswered = λ none. absurd (told_has_pool (asked_by c.args.settings c.in-Ok.table) c.answer-outcome.result reports none);
      stopped = subst (λ ls. IfSome c.answer-outcome.result.pool (IsPoolTold (asked_by c.args.settings ls))) c.in-Ok.ensures c.answer-outcome.ensures.stopped;
    }
