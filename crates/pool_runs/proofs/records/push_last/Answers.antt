use Rattle.std.proofs.Common.{◌≢◌, ◌<◌, ◌-◌, [], length, refl, arith}
use Rattle.std.proofs.lemmas.List.Elements.{All-set}
use Rattle.pool_runs.proofs.Blocks.{last_more, more_filled}
use Rattle.pool_runs.proofs.Results.{on_ok}
use Rattle.pool_runs.proofs.records.push_last.Goals as goal

pub returns-clause-ok : goal.returns-clause-ok
returns-clause-ok c =
    let some = c.in-Some.ensures in
    let within : 0 < length c.args.blocks.now = some.variant.0 refl in
    on_ok c.push.result (λ more. last_more c.args.blocks.now c.in-Some.last.now c.push.new.self (length c.args.blocks.now - 1) c.args.entry (omega (arith, within)) some.value more) c.push.ensures.ok

pub returns-clause-filled : goal.returns-clause-filled
returns-clause-filled c =
    on_ok c.push.result (λ more each. All-set (λ b. b ≢ []) c.args.blocks.now (length c.args.blocks.now - 1) c.push.new.self (more_filled c.in-Some.last.now c.push.new.self c.args.entry more) each) c.push.ensures.ok
