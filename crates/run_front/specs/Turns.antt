-- The priority of a query's tasks.
use Rattle.std.specs.Prelude.{ℤ, pos, negsuc}
use Rattle.query_model.specs.declared.line.Prio.{Prio}
use Rattle.query_model.specs.declared.line.Prio.TheVariants as prio

-- the priority at which a task is added to the pool: -128, 0 or 127
abbrev pub pool_priority : Prio → ℤ
pool_priority prio.Lo = negsuc 127
pool_priority prio.Mid = pos 0
pool_priority prio.Hi = pos 127
