use Rattle.std.proofs.Common.{ℕ, ◌≤◌, length, subst, arith}
use Rattle.fan_base.specs.Outside.{last_count}
use Rattle.query_model.specs.Order.{replies_of}
use Rattle.run_printing.specs.Ends.{EndsAs}
use Rattle.run_printing.proofs.Ending.{all_taken, done_has_all, is_whole, memory_lacks, wrote}
use Rattle.run_printing.proofs.stage.close_printing.Goals as goal

pub returns-clause-wrote : goal.returns-clause-wrote
returns-clause-wrote g c = λ start now printed queries.
    let lines = g.N.RunName.asked.lines in
    let law = c.what_is_written.ensures in
    wrote lines c.args.stage start now printed c.outcome-outcome.result
    (λ given p h writing last. law.all lines given p start now h writing last) (λ given p h. law.front lines given p start now h) (λ given p h fault. law.fault lines given p start now h fault)
    (subst (λ (n : ℕ). EndsAs c.args.stage n c.outcome-outcome.result) queries c.outcome-outcome.ensures)

pub returns-clause-whole : goal.returns-clause-whole
returns-clause-whole g c = λ start now printed queries done.
    let lines = g.N.RunName.asked.lines in
    let few : length (replies_of lines) ≤ last_count = subst (λ (n : ℕ). n ≤ last_count) queries (omega (arith, c.ranges.queries)) in
    let ends = subst (λ (n : ℕ). EndsAs c.args.stage n c.outcome-outcome.result) queries c.outcome-outcome.ensures in
    let has = done_has_all c.args.stage (length (replies_of lines)) c.outcome-outcome.result done ends in
    is_whole lines c.args.stage start now printed _ c.args.ends.items c.close-queue.result.queue c.close-queue.result.rest c.spend_rest.new.tally
    (λ given p s n h goes last weight. c.each_reply_was_given_once.ensures.once lines given p s n h goes last weight) (c.answers_in_order.ensures lines) few has.0 has.1
    c.close-queue.ensures c.spend_rest.ensures

pub returns-clause-in_order : goal.returns-clause-in_order
returns-clause-in_order g c = λ start now printed done.
    let has = done_has_all c.args.stage c.args.queries c.outcome-outcome.result done c.outcome-outcome.ensures in
    all_taken g.N.RunName.asked.lines c.args.stage start now printed _ c.args.ends.items c.close-queue.result.queue c.close-queue.result.rest has.0.closed c.close-queue.ensures

pub returns-clause-memory : goal.returns-clause-memory
returns-clause-memory g c = λ is. memory_lacks c.args.stage c.args.queries c.outcome-outcome.result c.outcome-outcome.ensures is
