-- How many cores a run makes, and what becomes of them.
use Rattle.std.specs.Prelude.{ℕ, ◌+◌, ◌*◌, List, length}
use Rattle.query_model.specs.declared.line.Line.{Line}
use Rattle.fan_model.specs.Answered.{answered_in, tops_in}

-- How many cores were made, handed their result to their callback, forwarded their callback, were freed, and how many homes were used again.
pub record Totals : Type 0 where
  pub made : ℕ
  pub handed : ℕ
  pub forwarded : ℕ
  pub freed : ℕ
  pub reopened : ℕ

abbrev pub no_cores : Totals
no_cores = record { made = 0; handed = 0; forwarded = 0; freed = 0; reopened = 0 }

-- Of so many answered queries, of which so many rank, over so many shards: a core for each task, whose home is used again, a core for each reply, and
-- for each ranking one to which the reply's is forwarded.
abbrev pub totals_by : ℕ → ℕ → ℕ → Totals
totals_by answered tops shards = record {
  made = answered * shards + answered + tops;
  handed = answered * shards + answered;
  forwarded = tops;
  freed = answered * shards + answered + tops;
  reopened = answered * shards;
}

unfoldable pub core_totals : List Line → ℕ → Totals
core_totals lines shards = totals_by (length (answered_in lines)) (tops_in (answered_in lines)) shards
