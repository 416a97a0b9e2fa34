-- What contracts see of the values of a count.
use Rattle.std.specs.Prelude.{ℕ}
use Rattle.atomic_table.specs.Seated.{TableId}

-- which count it is, how many tokens this one may still make, and how many the count's first token might make at the start
pub record TokenSeen : Type 0 where
  pub count : TableId
  pub room : ℕ
  pub first_room : ℕ

-- which count it is
pub record OwnerSeen : Type 0 where
  pub count : TableId

-- which count it is, and what the release of one of its tokens found there
pub record ReceiptSeen : Type 0 where
  pub count : TableId
  pub found : ℕ
