use Rattle.fanout.proofs.levels.fan_run_named.Goals as goal

pub returns-in_default : goal.returns-in_default
returns-in_default g c = c.refused.ensures _ _

pub returns-in_default-counts_of_run : goal.returns-in_default-counts_of_run
returns-in_default-counts_of_run g c = c.refused-in_default-counts_of_run.ensures _ _

pub returns-in_default-new_homes : goal.returns-in_default-new_homes
returns-in_default-new_homes g c = c.refused-in_default-new_homes.ensures _ _

pub returns-in_default-keys_of : goal.returns-in_default-keys_of
returns-in_default-keys_of g c = c.refused-in_default-keys_of.ensures _ _
