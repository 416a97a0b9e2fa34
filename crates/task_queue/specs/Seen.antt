-- What contracts see of the passes of a queue.
use Rattle.std.specs.Prelude.{ℕ, ◌+◌, List, [], ◌∷◌, ◌++◌}
use Rattle.std.specs.declared.alloc.Global.{Global}
use Rattle.crossbeam_queue.specs.SegTies.{SegId}
use Rattle.pool_model.specs.declared.task.Entry.{Entry}
use Rattle.task_queue.specs.declared.view.Share.{Share}
use Rattle.task_queue.specs.Views.{share}

-- the maker of passes: how many there are to be in all, how many are yet to be made, and how many adders and takers were made
pub record MakerSeen : Type 0 where
  pub queue : SegId Global
  pub passes : ℕ
  pub left : ℕ
  pub adders : ℕ
  pub takers : ℕ

-- an adder's pass: how many passes there are in all, its number, and what it pushed
pub record AdderSeen : Type 0 where
  pub queue : SegId Global
  pub passes : ℕ
  pub number : ℕ
  pub pushed : List Entry

-- a taker's pass: how many passes there are in all, its number, and what it popped
pub record TakerSeen : Type 0 where
  pub queue : SegId Global
  pub passes : ℕ
  pub number : ℕ
  pub popped : List Entry

-- Passes that were put together: how many there are in all, how many were put here, and of the adders and takers among them the numbers and what
-- they pushed and popped.
pub record GatheredSeen : Type 0 where
  pub queue : SegId Global
  pub passes : ℕ
  pub here : ℕ
  pub added : List Share
  pub taken : List Share

-- an adder, or a taker, is put to the others
abbrev pub and_adder : GatheredSeen → AdderSeen → GatheredSeen
and_adder g a = record { queue = g.queue; passes = g.passes; here = g.here + 1; added = g.added ++ share a.number a.pushed ∷ []; taken = g.taken }

abbrev pub and_taker : GatheredSeen → TakerSeen → GatheredSeen
and_taker g t = record { queue = g.queue; passes = g.passes; here = g.here + 1; added = g.added; taken = g.taken ++ share t.number t.popped ∷ [] }
