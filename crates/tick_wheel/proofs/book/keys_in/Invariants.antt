use Rattle.std.proofs.Common.{◌≡◌, ◌*◌, take}
use Rattle.tick_wheel.specs.Book.{keys_from}
use Rattle.tick_wheel.proofs.book.keys_in.Given as goal

abbrev pub invariant-loop-place : goal.invariant-loop-place
invariant-loop-place g l = l.keys.items ≡ keys_from l.table (l.slot * 18014398509481984) (take l.place l.ids)
