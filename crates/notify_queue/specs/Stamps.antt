-- Messages with their stamps, in the order of a queue.
use Rattle.std.specs.Prelude.{◌≡◌, ℕ, ◌==◌, List, map, filter, Some}
use Rattle.std.specs.List.{slice_get, sum_by}
use Rattle.notify_queue.specs.declared.stamp.Stamped.{Stamped}

module _ {M : Type 0} where
  -- those of one sender, in their order
  abbrev pub stamped_of : ℕ → List (Stamped M) → List (Stamped M)
  stamped_of sender xs = filter (λ x. x.stamp.sender == sender) xs

  -- the messages of one sender, in their order
  abbrev pub messages_of : ℕ → List (Stamped M) → List M
  messages_of sender xs = map (λ x. x.message) (stamped_of sender xs)

  -- the stamps of each sender are 0, 1, 2, ..
  pub record IsInOrder (xs : List (Stamped M)) : Type 0 where
    pub index_is : (sender place : ℕ) (x : Stamped M) → slice_get (stamped_of sender xs) place ≡ Some x → x.stamp.index ≡ place

  -- the sum of the messages' weights
  abbrev pub total_weight : (M → ℕ) → List (Stamped M) → ℕ
  total_weight weight xs = sum_by (λ x. weight x.message) xs
