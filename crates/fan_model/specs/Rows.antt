-- Runs with what they report.
use Rattle.std.specs.Prelude.{◌≡◌, ℕ, ◌+◌, List, [], ◌∷◌, ◌++◌, Bool, true, false, codes, map, Some, None, length}
use Rattle.std.specs.List.{range_with_len}
use Rattle.fan_base.specs.declared.number.Mark.TheVariants as mark
use Rattle.fan_base.specs.declared.word.Word.{Word}
use Rattle.query_grammar.specs.Tree.{Tree}
use Rattle.query_model.specs.declared.line.Ask.{Ask}
use Rattle.query_model.specs.declared.line.Ask.TheVariants as ask
use Rattle.query_model.specs.declared.line.Line.{Line}
use Rattle.query_model.specs.declared.line.Line.TheVariants as line
use Rattle.query_model.specs.declared.line.Prio.{Prio}
use Rattle.query_model.specs.declared.line.Prio.TheVariants as prio
use Rattle.fan_model.specs.Answered.{answered_in, is_stopped}
use Rattle.fan_model.specs.Tasks.{Run, early_runs, late_runs}
use Rattle.fan_model.specs.Totals.{Totals, core_totals, no_cores}
use Rattle.fan_model.specs.Notes.{Note, emptied, notes_of}
use Rattle.fan_model.specs.Report.{Asking}

-- What a run reports: its early tasks, which the pool accepts, its late ones, whether it is stopped, its notes, and its cores.
pub record IsReported (asked : Asking) (early late : List Run) (stopped : Bool) (notes : List Note) (totals : Totals) : Type 0 where
  pub early_are : early_runs asked.lines asked.shards asked.stop_at ≡ early
  pub late_are : late_runs asked.lines asked.shards asked.bases asked.stop_at ≡ late
  pub stopped_is : is_stopped asked.stop_at (answered_in asked.lines) ≡ stopped
  pub notes_are : notes_of asked.lines asked.shards asked.bases ≡ notes
  pub totals_are : core_totals asked.lines asked.shards ≡ totals

abbrev doc : ℕ → List Word → Line
doc id words = line.Doc (record { id = id; words = words })

abbrev query : Prio → Ask → Line
query prio asks = line.Query (record { delay = None; prio = prio; ask = asks })

abbrev query_after : ℕ → Ask → Line
query_after delay asks = line.Query (record { delay = Some delay; prio = prio.Mid; ask = asks })

abbrev find_word : Word → Ask
find_word word = ask.Find (Tree.word word)

abbrev count_word : Word → Ask
count_word word = ask.Count (Tree.word word)

-- four shards, four workers, two bases, no stop point
abbrev usual : List Line → Asking
usual lines = record { lines = lines; shards = 4; workers = 4; bases = 2; stop_at = None }

abbrev stopping : ℕ → List Line → Asking
stopping stop_at lines = record { lines = lines; shards = 4; workers = 4; bases = 2; stop_at = Some stop_at }

-- runs from one queue on one executor, of jobs that follow on each other from a first one, with these marks
abbrev runs : ℕ → ℕ → ℕ → List ℕ → List Run
runs queue exec job [] = []
runs queue exec job (m ∷ marks) =
    record { queue = queue; exec = record { 0 = exec }; id = record { 0 = job }; mark = mark.Done m } ∷ runs queue exec (1 + job) marks

-- bases from executor 1 on, whose queues took and gave so many messages
abbrev notes_from : ℕ → List ℕ → List Note
notes_from exec [] = []
notes_from exec (count ∷ counts) = emptied (record { 0 = exec }) count ∷ notes_from (1 + exec) counts

abbrev cores : ℕ → ℕ → ℕ → ℕ → Totals
cores made handed forwarded reopened = record { made = made; handed = handed; forwarded = forwarded; freed = made; reopened = reopened }

-- nothing to answer
abbrev pub NothingAsked : Type 0
NothingAsked = IsReported (usual []) [] [] false (notes_from 1 (0 ∷ 0 ∷ 0 ∷ [])) no_cores

abbrev two_documents : List Line
two_documents = doc 7 (codes "red" ∷ codes "apple" ∷ []) ∷ doc 4 (codes "red" ∷ []) ∷ []

abbrev find_red : Line
find_red = query prio.Mid (find_word (codes "red"))

abbrev pub OneQuery : Type 0
OneQuery =
    IsReported (usual (two_documents ++ find_red ∷ []))
    (runs 1 0 64 (1 ∷ 1 ∷ 0 ∷ 0 ∷ [])) [] false (notes_from 1 (4 ∷ 0 ∷ 1 ∷ [])) (cores 5 5 0 4)

-- a query that is never due has no task, and its reply is a message all the same
abbrev pub NeverDue : Type 0
NeverDue = IsReported (usual (query_after 5 (find_word (codes "a")) ∷ [])) [] [] false (notes_from 1 (0 ∷ 0 ∷ 1 ∷ [])) no_cores

abbrev pub TwoRankings : Type 0
TwoRankings =
    IsReported
    (usual (doc 1 (codes "a" ∷ codes "b" ∷ []) ∷ doc 2 (codes "a" ∷ codes "b" ∷ []) ∷ doc 3 (codes "c" ∷ [])
    ∷ query prio.Mid (ask.Top 2 (codes "a" ∷ codes "b" ∷ codes "zzz" ∷ [])) ∷ query prio.Mid (ask.Top 5 (codes "c" ∷ [])) ∷ []))
    (runs 1 0 64 (1 ∷ 1 ∷ 0 ∷ 0 ∷ []) ++ runs 1 0 128 (0 ∷ 0 ∷ 1 ∷ 0 ∷ [])) [] false
    (notes_from 1 (4 ∷ 4 ∷ 2 ∷ [])) (cores 12 10 2 8)

abbrev pub TwoPriorities : Type 0
TwoPriorities =
    IsReported
    (usual (doc 5 (codes "a" ∷ []) ∷ query prio.Hi (ask.Present (Tree.word (codes "a")))
    ∷ query prio.Lo (ask.Present (Tree.word (codes "b"))) ∷ []))
    (runs 2 0 64 (1 ∷ 0 ∷ 0 ∷ 0 ∷ []) ++ runs 0 0 128 (0 ∷ 0 ∷ 0 ∷ 0 ∷ [])) [] false
    (notes_from 1 (4 ∷ 4 ∷ 2 ∷ [])) (cores 10 10 0 8)

-- eight shards, and a stop behind the only query
abbrev pub StoppedBehindAll : Type 0
StoppedBehindAll =
    IsReported (record { lines = two_documents ++ find_red ∷ []; shards = 8; workers = 1; bases = 2; stop_at = Some 1 })
    (runs 1 0 64 (1 ∷ 1 ∷ 0 ∷ 0 ∷ 0 ∷ 0 ∷ 0 ∷ 0 ∷ [])) [] true (notes_from 1 (8 ∷ 0 ∷ 1 ∷ [])) (cores 9 9 0 8)

-- the tasks of the query behind the stop point run on the front's executor
abbrev pub StoppedBeforeTheLast : Type 0
StoppedBeforeTheLast =
    IsReported (stopping 1 (two_documents ++ find_red ∷ query prio.Mid (count_word (codes "red")) ∷ []))
    (runs 1 0 64 (1 ∷ 1 ∷ 0 ∷ 0 ∷ [])) (runs 1 4 128 (1 ∷ 1 ∷ 0 ∷ 0 ∷ [])) true (notes_from 1 (4 ∷ 4 ∷ 2 ∷ [])) (cores 10 10 0 8)

abbrev catalogue : List Line
catalogue =
    doc 101 (codes "the" ∷ codes "quick" ∷ codes "brown" ∷ codes "fox" ∷ [])
    ∷ doc 102 (codes "the" ∷ codes "lazy" ∷ codes "dog" ∷ [])
    ∷ doc 103 (codes "quick" ∷ codes "dog" ∷ codes "training" ∷ [])
    ∷ query prio.Hi (ask.Find (Tree.both (Tree.word (codes "quick")) (Tree.not (Tree.word (codes "fox")))))
    ∷ query prio.Mid (ask.Count (Tree.both (Tree.word (codes "the")) (Tree.word (codes "dog"))))
    ∷ query_after 3 (ask.Top 2 (codes "quick" ∷ codes "dog" ∷ []))
    ∷ query prio.Mid (ask.Present (Tree.word (codes "cat")))
    ∷ line.Tick 5
    ∷ query prio.Mid (find_word (codes "the")) ∷ []

-- an everyday file: the ranking is answered at its due line, behind the query that comes after it
abbrev pub Catalogue : Type 0
Catalogue =
    IsReported (usual catalogue)
    (runs 2 0 64 (0 ∷ 0 ∷ 1 ∷ 0 ∷ []) ++ (runs 1 0 128 (0 ∷ 1 ∷ 0 ∷ 0 ∷ []) ++ (runs 1 0 256 (0 ∷ 0 ∷ 0 ∷ 0 ∷ [])
    ++ (runs 1 0 192 (1 ∷ 1 ∷ 1 ∷ 0 ∷ []) ++ runs 1 0 320 (1 ∷ 1 ∷ 0 ∷ 0 ∷ [])))))
    [] false (notes_from 1 (12 ∷ 8 ∷ 5 ∷ [])) (cores 26 25 1 20)

-- how many tasks the pool accepts, how many are late, and whether the run is stopped
pub record IsSplit (asked : Asking) (early late : ℕ) (stopped : Bool) : Type 0 where
  pub early_are : length (early_runs asked.lines asked.shards asked.stop_at) ≡ early
  pub late_are : length (late_runs asked.lines asked.shards asked.bases asked.stop_at) ≡ late
  pub stopped_is : is_stopped asked.stop_at (answered_in asked.lines) ≡ stopped

-- the same file with each stop point
pub record CatalogueStopped : Type 0 where
  pub at_none : IsSplit (stopping 0 catalogue) 0 20 true
  pub at_one : IsSplit (stopping 1 catalogue) 4 16 true
  pub at_four : IsSplit (stopping 4 catalogue) 16 4 true
  pub at_all : IsSplit (stopping 5 catalogue) 20 0 true
  pub behind_all : IsSplit (stopping 6 catalogue) 20 0 false

-- the documents behind a query's line are none of its own, also where it is answered later
abbrev pub DocumentsBefore : Type 0
DocumentsBefore =
    IsReported
    (usual (doc 1 (codes "a" ∷ []) ∷ query prio.Mid (count_word (codes "a")) ∷ doc 2 (codes "a" ∷ [])
    ∷ query prio.Mid (count_word (codes "a")) ∷ query_after 1 (count_word (codes "a")) ∷ doc 3 (codes "a" ∷ []) ∷ line.Tick 1 ∷ []))
    (runs 1 0 64 (1 ∷ 0 ∷ 0 ∷ 0 ∷ []) ++ (runs 1 0 128 (1 ∷ 1 ∷ 0 ∷ 0 ∷ []) ++ runs 1 0 192 (1 ∷ 1 ∷ 0 ∷ 0 ∷ [])))
    [] false (notes_from 1 (8 ∷ 4 ∷ 3 ∷ [])) (cores 15 15 0 12)

-- a cancelled query has no task, and it is none of those that a stop point counts
abbrev cancelling : List Line
cancelling =
    doc 1 (codes "a" ∷ []) ∷ query_after 2 (count_word (codes "a")) ∷ query_after 2 (ask.Present (Tree.word (codes "a")))
    ∷ line.Cancel 1 ∷ line.Tick 2 ∷ line.Cancel 2 ∷ []

abbrev pub OneCancelled : Type 0
OneCancelled =
    IsReported (usual cancelling) (runs 1 0 128 (1 ∷ 0 ∷ 0 ∷ 0 ∷ [])) [] false (notes_from 1 (0 ∷ 4 ∷ 2 ∷ [])) (cores 5 5 0 4)

abbrev pub CancelledIsNotCounted : Type 0
CancelledIsNotCounted = IsSplit (stopping 1 cancelling) 4 0 true

-- seventeen queries
abbrev many : List Line
many = two_documents ++ map (λ place. find_red) (range_with_len 0 17)

-- more tasks than a run has cells
pub record ManyTasks : Type 0 where
  pub split : IsSplit (record { lines = many; shards = 64; workers = 4; bases = 2; stop_at = None }) 1088 0 false
  pub totals : core_totals many 64 ≡ cores 1105 1105 0 1088
