-- The passes of a queue, which lie in slots of the marks too.
use Rattle.std.specs.Prelude.{◌≡◌, ℕ, Option}
use Rattle.std.specs.declared.alloc.Global.{Global}
use Rattle.atomic_blocks.specs.declared.web.Seat.{Seat}
use Rattle.crossbeam_queue.specs.SegTies.{SegId, IsSegPassOf}
use Rattle.crossbeam_queue.specs.declared.seg_queue.Going.{Going}
use Rattle.notify_queue.specs.declared.delivery.Knowledge.{Knowledge}
use Rattle.notify_queue.specs.declared.stamp.Stamped.{Stamped}

abbrev pub PassOf : Type 0 → Type 0
PassOf M = Seat (Option (Stamped M)) (Going (Stamped M) (Knowledge M)) Global

module _ {M : Type 0} where
  -- what a pass knows
  abbrev pub known_by : PassOf M → Knowledge M
  known_by pass = pass.me.view.client

  -- this is the receiver's pass
  abbrev pub IsFirstPassOf : SegId Global → PassOf M → Type 0
  IsFirstPassOf queue pass = IsSegPassOf queue pass × (pass.id ≡ 0)
