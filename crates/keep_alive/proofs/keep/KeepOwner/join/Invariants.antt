use Rattle.std.proofs.Common.{◌≡◌, []}
use Rattle.keep_alive.specs.declared.view.View.TheVariants.{Left}
use Rattle.keep_alive.proofs.keep.KeepOwner.join.Given as goal

abbrev pub invariant-loop : goal.invariant-loop
invariant-loop g l = record { table : l.seat.table_id ≡ l.initial.seat.table_id; view : l.seat.me ≡ (Left, []) }
