use Rattle.std.proofs.Common.{arith, rules}
use Rattle.event_base.proofs.SoFar.{before_start, before_step, before_some, before_end}
use Rattle.event_base.proofs.phases.run_before.Goals as goal

pub unreachable-requires : goal.unreachable-requires
unreachable-requires g c =
    before_some g.J.Headed.head g.J.LoopJob.runs _ _ _ c.loop.invariant.ran (omega (arith, c.loop-test.true, c.loop.invariant.count)) c.in_default.ensures.0

pub loop-preserved : goal.loop-preserved
loop-preserved g c = record {
  ran = before_step g.J.Headed.head g.J.LoopJob.runs _ _ _ c.take_before.new.self c.in-Some.job c.run-mark.result _ c.loop.invariant.ran c.in-Some.ensures c.run-mark.ensures.mark c.run-mark.ensures.meaning c.run-mark.ensures.calls;
  count = c.loop.invariant.count;
}

pub loop-init : goal.loop-init
loop-init g c = record {
  ran = before_start g.J.Headed.head g.J.LoopJob.runs _;
  count = search rules;
}

pub returns : goal.returns
returns g c =
    before_end g.J.Headed.head g.J.LoopJob.runs _ _ _ _ c.loop.invariant.ran (omega (arith, c.loop-test.false, c.loop.invariant.count, c.loop.auto.counter-end)) (omega (arith, c.loop-test.false, c.loop.auto.counter-end))
