use Rattle.run_phases.proofs.Runs.{late_front, late_none, late_some, late_told, made_before, none_ran, none_told, some_all}
use Rattle.run_phases.proofs.second.turns_behind.Goals as goal

pub returns-in_default-clause-direct : goal.returns-in_default-clause-direct
returns-in_default-clause-direct g c down = late_none g.N.RunName.asked c.args.turns.now c.args.stop c.args.direct.now c.requires.stop c.in_default.is c.requires.none

pub returns-in-Ok-clause-direct : goal.returns-in-Ok-clause-direct
returns-in-Ok-clause-direct g c down = late_some g.N.RunName.asked c.args.turns.now c.args.stop c.in-Some.place c.args.direct.now c.late_turns.new.direct c.requires.stop c.in-Some.is c.requires.none (c.in-Ok.ensures.direct down)

pub returns-then-refused-clause-some : goal.returns-then-refused-clause-some
returns-then-refused-clause-some g c down = none_ran g.N.RunName.asked c.args.direct.now c.requires.none

pub returns-in_default-clause-some : goal.returns-in_default-clause-some
returns-in_default-clause-some g c down = none_ran g.N.RunName.asked c.args.direct.now c.requires.none

pub returns-in-Ok-clause-some : goal.returns-in-Ok-clause-some
returns-in-Ok-clause-some g c down = some_all _ _ (late_some g.N.RunName.asked c.args.turns.now c.args.stop c.in-Some.place c.args.direct.now c.late_turns.new.direct c.requires.stop c.in-Some.is c.requires.none (c.in-Ok.ensures.direct down))

pub returns-in-Err-clause-some : goal.returns-in-Err-clause-some
returns-in-Err-clause-some g c down = late_front g.N.RunName.asked c.args.turns.now c.args.stop c.in-Some.place c.args.direct.now c.late_turns.new.direct c.requires.stop c.in-Some.is c.requires.none (c.in-Err.ensures.some down)

pub returns-then-refused-clause-told : goal.returns-then-refused-clause-told
returns-then-refused-clause-told g c = none_told _ c.args.direct.now c.requires.none

pub returns-in_default-clause-told : goal.returns-in_default-clause-told
returns-in_default-clause-told g c = none_told _ c.args.direct.now c.requires.none

pub returns-in-Ok-clause-told : goal.returns-in-Ok-clause-told
returns-in-Ok-clause-told g c = late_told g.N.RunName.asked c.args.turns.now c.args.stop c.in-Some.place c.args.direct.now c.late_turns.new.direct c.requires.stop c.in-Some.is c.requires.none c.late_turns.ensures.told

pub returns-in-Err-clause-told : goal.returns-in-Err-clause-told
returns-in-Err-clause-told g c = late_told g.N.RunName.asked c.args.turns.now c.args.stop c.in-Some.place c.args.direct.now c.late_turns.new.direct c.requires.stop c.in-Some.is c.requires.none c.late_turns.ensures.told

pub returns-in_default-clause-made : goal.returns-in_default-clause-made
returns-in_default-clause-made g c n has = made_before n _ _ c.requires.none has

pub returns-in-Ok-clause-made : goal.returns-in-Ok-clause-made
returns-in-Ok-clause-made g c n has = c.in-Ok.ensures.made n (made_before n _ _ c.requires.none has)
