use Rattle.std.proofs.Common.{⊎_elim, ◌∙◌, arith}
use Rattle.event_base.specs.Laws.{KeepsBase}
use Rattle.base_tests.proofs.refusals.round_or_two.Goals as goal

pub loop_once-requires-in-Err : goal.loop_once-requires-in-Err
loop_once-requires-in-Err g c =
    let law = c.rounds_keep_the_base-in-Err.ensures in
    ⊎_elim
    (λ h. let k = law.not_begun c.args.ticks c.args.world.now c.args.base.now c.in-Err.fault c.loop_once.new.world c.loop_once.new.self h in omega (arith, k.tick, h.all_left, c.requires))
    (λ h. let k = law.cut_round c.args.ticks c.args.world.now c.args.base.now c.in-Err.fault h.0 c.loop_once.new.world c.loop_once.new.self h.1 in omega (arith, k.tick, h.1.each_tick, c.requires))
    c.in-Err.ensures.memory

pub returns-in-Ok : goal.returns-in-Ok
returns-in-Ok g c =
    let ok = c.in-Ok.ensures.ok in
    c.rounds_keep_the_base.ensures.round c.args.ticks c.args.world.now c.args.base.now c.in-Ok.field-0 ok.0 c.loop_once.new.world c.loop_once.new.self ok.1

pub returns-in-Err : goal.returns-in-Err
returns-in-Err g c =
    let law = c.rounds_keep_the_base-in-Err.ensures in
    let ok = rw c.expect-rest.ensures at c.loop_once-in-Err.ensures.ok in
    let second = law.round c.in-Err.fault.left_ticks c.loop_once.new.world c.loop_once.new.self c.expect-rest.result ok.0 c.loop_once-in-Err.new.world c.loop_once-in-Err.new.self ok.1 in
    ⊎_elim
    (λ h. let k = law.not_begun c.args.ticks c.args.world.now c.args.base.now c.in-Err.fault c.loop_once.new.world c.loop_once.new.self h in
    let both : KeepsBase c.args.ticks c.args.base.now c.loop_once-in-Err.new.self = record {
      exec = second.exec ∙ k.exec;
      queue = second.queue ∙ k.queue;
      senders = second.senders ∙ k.senders;
      tick = omega (arith, second.tick, k.tick, h.all_left);
    } in both)
    (λ h. let k = law.cut_round c.args.ticks c.args.world.now c.args.base.now c.in-Err.fault h.0 c.loop_once.new.world c.loop_once.new.self h.1 in
    let both : KeepsBase c.args.ticks c.args.base.now c.loop_once-in-Err.new.self = record {
      exec = second.exec ∙ k.exec;
      queue = second.queue ∙ k.queue;
      senders = second.senders ∙ k.senders;
      tick = omega (arith, second.tick, k.tick, h.1.each_tick);
    } in both)
    c.in-Err.ensures.memory
