-- What the queues of a run's bases took and gave.
use Rattle.std.specs.Prelude.{ℕ, ◌+◌, ◌-◌, ◌*◌, ◌%◌, ◌==◌, List, [], ◌∷◌, ◌++◌, length, map}
use Rattle.std.specs.List.{count_by, range_with_len}
use Rattle.fan_base.specs.declared.number.ExecId.{ExecId}
use Rattle.query_model.specs.declared.line.Line.{Line}
use Rattle.query_model.specs.Documents.{queries_of}
use Rattle.query_model.specs.Order.{Asked}
use Rattle.fan_model.specs.Answered.{answered_in}
use Rattle.fan_model.specs.Tasks.{printer_exec}

-- What is told of the queue of a base: how many messages were put, how many were taken, and how many were left.
pub record Note : Type 0 where
  pub exec : ExecId
  pub put : ℕ
  pub taken : ℕ
  pub left : ℕ

-- the base on which the parts of a query are gathered
abbrev pub base_of : ℕ → ℕ → ℕ
base_of bases number = 1 + (number - 1) % bases

-- a queue that gave all that was put
abbrev pub emptied : ExecId → ℕ → Note
emptied exec count = record { exec = exec; put = count; taken = count; left = 0 }

-- a gathering base gets a message for each task of its queries
abbrev pub note_of_base : ℕ → ℕ → List Asked → ℕ → Note
note_of_base shards bases answered base =
    emptied (record { 0 = base }) (shards * count_by (λ asked. base_of bases asked.number == base) answered)

-- the notes of the gathering bases, and that of the printer's base, which gets a message for each query
unfoldable pub notes_of : List Line → ℕ → ℕ → List Note
notes_of lines shards bases =
    map (note_of_base shards bases (answered_in lines)) (range_with_len 1 bases)
    ++ emptied (printer_exec bases) (length (queries_of lines)) ∷ []
