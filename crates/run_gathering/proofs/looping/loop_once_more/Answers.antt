use mathlib.Core.List.{not-mem-nil}
use Rattle.run_gathering.proofs.Firing.{loop_took, cut_loop_took}
use Rattle.run_gathering.proofs.Living.{Gathering-lives, named_at}
use Rattle.run_gathering.proofs.Looped.{same_base}
use Rattle.run_gathering.proofs.looping.loop_once_more.Goals as goal

pub rounds_keep_the_base-requires-lives-W : goal.rounds_keep_the_base-requires-lives-W
rounds_keep_the_base-requires-lives-W g c κs within =
    Gathering-lives κs.0 g.row.N g.N.RunName (λ a m. absurd (not-mem-nil (c.type_bounds.static-N a m)))
    (named_at κs.1.1.0) (named_at κs.1.1.1.0) within.0.0 within.0.1.0

pub rounds_keep_the_base-requires-lives-J-LoopJob-2 : goal.rounds_keep_the_base-requires-lives-J-LoopJob-2
rounds_keep_the_base-requires-lives-J-LoopJob-2 g c κs within = λ a m. absurd (not-mem-nil (c.type_bounds.static-N a m))

pub rounds_keep_the_base-requires-lives-J-LoopJob-3 : goal.rounds_keep_the_base-requires-lives-J-LoopJob-3
rounds_keep_the_base-requires-lives-J-LoopJob-3 g c κs within = λ a m. absurd (not-mem-nil (c.type_bounds.static-N a m))

pub loop_until_closed-requires-lives-W : goal.loop_until_closed-requires-lives-W
loop_until_closed-requires-lives-W g c κs within =
    Gathering-lives κs.1.1.1.1.0 g.row.N g.N.RunName (λ a m. absurd (not-mem-nil (c.type_bounds.static-N a m)))
    (named_at κs.1.1.1.1.1.1.0) (named_at κs.1.1.1.1.1.1.1.0) within.0.0 within.0.1.0

pub loop_until_closed-requires-lives-J-LoopJob-2 : goal.loop_until_closed-requires-lives-J-LoopJob-2
loop_until_closed-requires-lives-J-LoopJob-2 g c κs within = λ a m. absurd (not-mem-nil (c.type_bounds.static-N a m))

pub loop_until_closed-requires-lives-J-LoopJob-3 : goal.loop_until_closed-requires-lives-J-LoopJob-3
loop_until_closed-requires-lives-J-LoopJob-3 g c κs within = λ a m. absurd (not-mem-nil (c.type_bounds.static-N a m))

pub returns-in-Ok-clause-did : goal.returns-in-Ok-clause-did
returns-in-Ok-clause-did g c = loop_took _ _ _ _ _ _ c.requires c.in-Ok.ensures.ok

pub returns-in-Ok-clause-base : goal.returns-in-Ok-clause-base
returns-in-Ok-clause-base g c = same_base 0 _ _ (c.rounds_keep_the_base.ensures.whole_loop _ _ _ _ _ _ c.in-Ok.ensures.ok)

pub returns-in-Err-clause-did : goal.returns-in-Err-clause-did
returns-in-Err-clause-did g c = cut_loop_took _ _ _ _ _ c.requires c.in-Err.ensures.memory

pub returns-in-Err-clause-base : goal.returns-in-Err-clause-base
returns-in-Err-clause-base g c = same_base 0 _ _ (c.rounds_keep_the_base.ensures.cut_loop _ _ _ _ _ c.in-Err.ensures.memory)

pub returns-in-Ok-clause-whole : goal.returns-in-Ok-clause-whole
returns-in-Ok-clause-whole g c = (_, c.in-Ok.ensures.ok)
