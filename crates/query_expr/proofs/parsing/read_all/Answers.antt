use Rattle.std.proofs.Common.{arith}
use Rattle.std.proofs.lemmas.Result.{err_from_is_err_and}
use Rattle.query_expr.proofs.Fronts.{reached_start, reached_step, stops, finished, unfinished}
use Rattle.query_expr.proofs.parsing.read_all.Goals as goal

pub loop-place-init : goal.loop-place-init
loop-place-init c = reached_start _ c.new-reader.ensures

pub returns-in_err-reader-clause-refused : goal.returns-in_err-reader-clause-refused
returns-in_err-reader-clause-refused c =
    let p = err_from_is_err_and c.from_residual.result c.from_residual.ensures.1 in
    rw (p.1, p.2) (stops c.args.tokens.now c.loop-place.place _ _ _ c.requires c.loop-place-test.true c.index-tokens-place.is c.loop-place.invariant c.in_err-reader.ensures.err)

pub loop-place-preserved : goal.loop-place-preserved
loop-place-preserved c = reached_step c.args.tokens.now c.loop-place.place _ _ _ c.loop-place-test.true c.index-tokens-place.is c.loop-place.invariant c.in_ok-reader.ensures.ok (omega arith)

pub returns-clause-accepted : goal.returns-clause-accepted
returns-clause-accepted c = finished c.args.tokens.now c.loop-place.place _ c.finish.result c.requires c.loop-place-test.false c.loop-place.invariant c.finish.ensures.ok

pub returns-clause-refused : goal.returns-clause-refused
returns-clause-refused c = unfinished c.args.tokens.now c.loop-place.place _ c.finish.result c.requires c.loop-place-test.false c.loop-place.invariant c.finish.ensures.unclosed c.finish.ensures.faults
