-- The records that lie in a block.
use Rattle.std.specs.Prelude.{ℕ, Bool, List, map, take, drop}
use Rattle.fan_base.specs.declared.number.ExecId.{ExecId}
use Rattle.pool_model.specs.Records.{Record}
use Rattle.pool_runs.specs.declared.block.Block.TheInside.{Inside}
use Rattle.pool_runs.specs.declared.block.Row.{Row}
use Rattle.pool_runs.specs.Recorded.{mark_in}

-- the record that has this row, and shares the rest with its block
abbrev pub record_of : ℕ → ℕ → ExecId → Bool → Row → Record
record_of adder queue exec is_done row = record { ticket = record { adder = adder; index = row.index }; queue = queue; exec = exec; job = row.job; mark = mark_in is_done row.number }

-- those that weren't taken out
abbrev pub records_in : Inside → List Record
records_in b = map (record_of b.adder b.queue b.exec b.is_done) (drop b.first (take b.end b.rows))
