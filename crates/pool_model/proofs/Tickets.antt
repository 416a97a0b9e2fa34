-- Tickets that ascend.
use Rattle.std.proofs.Common.{List, [], ◌∷◌, ◌++◌}
use Rattle.pool_model.specs.declared.task.Ticket.{Ticket}
use Rattle.pool_model.specs.Tickets.{IsBefore, Ascend}
use Rattle.pool_model.proofs.Lists.{All-front}

pub ascend-front : (xs ys : List Ticket) → Ascend (xs ++ ys) → Ascend xs
ascend-front [] ys up = tt
ascend-front (x ∷ xs) ys up = (All-front (IsBefore x) xs ys up.0, ascend-front xs ys up.1)
