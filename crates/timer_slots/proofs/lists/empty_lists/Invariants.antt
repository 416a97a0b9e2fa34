use Rattle.std.proofs.Common.{◌≡◌, ℕ, ◌≤◌, [], get_or, vec_len, vec_capacity}
use Rattle.timer_slots.proofs.lists.empty_lists.Given as goal

abbrev pub invariant-loop : goal.invariant-loop
invariant-loop l = (vec_len l.lists ≡ l.counter) × (1024 ≤ vec_capacity l.lists) × ((slot : ℕ) → get_or l.lists.items slot [] ≡ [])
