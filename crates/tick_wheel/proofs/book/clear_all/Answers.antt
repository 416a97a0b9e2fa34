use Rattle.std.proofs.Common.{refl, subst, sym}
use Rattle.tick_wheel.proofs.ClearLoop.{ClearsSo}
use Rattle.tick_wheel.proofs.book.clear_all.Goals as goal

pub loop-table-init : goal.loop-table-init
loop-table-init g c =
    subst (λ pairs. ClearsSo c.args.table.now pairs c.args.slots.now) (sym c.touch_moving.ensures) (record { book = c.requires.book; seen = refl })
