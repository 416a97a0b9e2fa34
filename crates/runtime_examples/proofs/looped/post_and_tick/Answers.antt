use Rattle.std.proofs.Common.{ℕ, sym, ap, ◌∙◌}
use Rattle.fan_base.specs.declared.number.ExecId.{ExecId}
use Rattle.runtime_examples.proofs.Rounds.{posted_then_timed}
use Rattle.runtime_examples.proofs.looped.post_and_tick.Goals as goal

pub returns : goal.returns
returns g c =
    let exec : ExecId = record { 0 = 7 } in
    let made = c.in_ok-base in
    let round = c.if-not-made.ensures.whole in
    record {
      order = λ none.
          let ran = posted_then_timed _ _ (λ id p mark q h. h) exec made.base.queue.queue made.base.queue.queue (0, 0) c.make_round-made.new.ran made.base c.schedule_next-scheduled.new.base c.make_round-made.new.base
          made.poster c.post-put.new.poster c.end.result c.make_note.result c.make_note-2.result round.0 round.1 c.close_one-queue.result.queue c.close_one-queue.result.rest
          made.ensures.base c.schedule_next-scheduled.ensures.queue c.if-not-scheduled.ensures.timer made.ensures.poster c.post-put.ensures.same.1 c.if-not-put.ensures.sent c.end.ensures round.2 c.close_one-queue.ensures (sym c.left.ensures ∙ none) in
          ran ∙ (ap (λ (n : ℕ). (n, c.make_note-2.result.0.id.0)) c.make_note.ensures.0 ∙ ap (λ (n : ℕ). (c.args.posted, n)) c.make_note-2.ensures.0);
    }
