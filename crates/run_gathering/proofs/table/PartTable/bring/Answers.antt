use Rattle.std.proofs.Common.{refl, arith, ap}
use Rattle.run_gathering.proofs.Rows.{completes, desk_taken, end_taken, keeps, no_shard, refuses, returned}
use Rattle.run_gathering.proofs.table.PartTable.bring.Goals as goal

pub returns-then-shard-self-clause-brought : goal.returns-then-shard-self-clause-brought
returns-then-shard-self-clause-brought g c = no_shard c.args.self.now c.self.inside.queries.items c.self.inside.bases c.self.inside.shards c.args.number c.args.shard c.self.view_is c.self.invariant.4 c.if-shard-self.true

pub returns-in-Some-Err-clause-brought : goal.returns-in-Some-Err-clause-brought
returns-in-Some-Err-clause-brought g c = refuses c.args.number c.args.shard c.args.self.now c.take_desk.new.self c.in-Some-Err.end (end_taken _ _ _ _ _ c.in-Some-Err.field-0-is c.in-Some-Err.ensures) (omega (arith, c.if-shard-self.false, ap (λ t. t.shards) c.self.view_is))

pub returns-in-Complete-clause-brought : goal.returns-in-Complete-clause-brought
returns-in-Complete-clause-brought g c = completes c.args.number c.args.shard c.args.self.now c.take_desk.new.self c.in-Some-Ok.desk c.args.outcome c.in-Complete.parts c.in-Complete.end (desk_taken _ _ _ _ _ c.in-Some-Ok.field-0-is c.in-Some-Ok.ensures) c.in-Complete.ensures

pub returns-in-More-clause-brought : goal.returns-in-More-clause-brought
returns-in-More-clause-brought g c = keeps c.args.number c.args.shard c.args.self.now c.take_desk.new.self c.set.new.self c.in-Some-Ok.desk c.in-More.desk _ c.args.outcome c.in-More.receipt (desk_taken _ _ _ _ _ c.in-Some-Ok.field-0-is c.in-Some-Ok.ensures) c.in-More.ensures refl c.set.ensures.set

pub returns-in-Back-clause-brought : goal.returns-in-Back-clause-brought
returns-in-Back-clause-brought g c = returned c.args.number c.args.shard c.args.self.now c.take_desk.new.self c.set-in-Back.new.self c.in-Some-Ok.desk c.in-Back.desk c.args.outcome c.in-Back._outcome _ (desk_taken _ _ _ _ _ c.in-Some-Ok.field-0-is c.in-Some-Ok.ensures) c.in-Back.ensures refl c.set-in-Back.ensures.set
