-- What an orderer shows: the place that comes next, and the replies that it holds, each with its place.
use Rattle.std.specs.Prelude.{◌≡◌, ◌≢◌, ℕ, ◌+◌, Option, Some, None, List, ◌∷◌, ◌++◌}
use Rattle.std.specs.Ordering.{nat_cmp}
use Rattle.std.specs.BTreeMap.{get}
use Rattle.reply_order.specs.declared.orderer.Orderer.{Orderer}

abbrev pub next_of : {R : Type 0} → Orderer R → ℕ
next_of o = o.next

-- the replies that it holds, each behind its place
abbrev pub held_of : {R : Type 0} → Orderer R → List (ℕ × R)
held_of o = o.held.entries

-- the one that it holds for a place
abbrev pub reply_at : {R : Type 0} → Orderer R → ℕ → Option R
reply_at o place = get nat_cmp o.held place

-- the second list is the first with one more, somewhere
pub record AddsOne {X : Type 0} (old : List X) (x : X) (new : List X) : Type 0 where
  pub front : List X
  pub back : List X
  pub was : old ≡ front ++ back
  pub is : new ≡ front ++ x ∷ back

-- what it holds for one place is this, and what it holds for the others is as before
pub record ChangesAt {R : Type 0} (old new : Orderer R) (place : ℕ) (reply : Option R) : Type 0 where
  pub here : reply_at new place ≡ reply
  pub others : (other : ℕ) → other ≢ place → reply_at new other ≡ reply_at old other

-- the reply stands at its place, the list has one more, and the next place is as before
pub record Puts {R : Type 0} (old new : Orderer R) (place : ℕ) (reply : R) : Type 0 where
  pub next : next_of new ≡ next_of old
  pub list : AddsOne (held_of old) (place, reply) (held_of new)
  pub held : ChangesAt old new place (Some reply)

-- the reply at the next place has gone out, and the place behind it is the next
pub record Goes {R : Type 0} (old new : Orderer R) : Type 0 where
  pub next : next_of new ≡ next_of old + 1
  pub held : ChangesAt old new (next_of old) None

-- nothing has changed
pub record Stays {R : Type 0} (old new : Orderer R) : Type 0 where
  pub next : next_of new ≡ next_of old
  pub list : held_of new ≡ held_of old
  pub held : (place : ℕ) → reply_at new place ≡ reply_at old place
