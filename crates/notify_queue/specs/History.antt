-- What happened to a queue, step by step.
use Rattle.std.specs.Prelude.{ℕ, List, [], ◌∷◌, take}
use mathlib.Core.List.{IsPrefix}
use Rattle.notify_queue.specs.declared.stamp.Stamped.{Stamped}
use Rattle.notify_queue.specs.Stamps.{IsInOrder}

-- a message was put behind the others, or one was taken
pub data Event (M : Type 0) : Type 0 where
  put : Stamped M → Event M
  taken : Stamped M → Event M

module _ {M : Type 0} where
  abbrev pub puts : List (Event M) → List (Stamped M)
  puts [] = []
  puts (put x ∷ events) = x ∷ puts events
  puts (taken x ∷ events) = puts events

  abbrev pub takes : List (Event M) → List (Stamped M)
  takes [] = []
  takes (put x ∷ events) = takes events
  takes (taken x ∷ events) = x ∷ takes events

  -- a lawful history of a queue: each sender's stamps are 0, 1, 2, .., and at every moment what was taken is what was put first
  pub record QueueHistory (history : List (Event M)) : Type 0 where
    pub in_order : IsInOrder (puts history)
    pub oldest_first : (moment : ℕ) → IsPrefix (takes (take moment history)) (puts (take moment history))
