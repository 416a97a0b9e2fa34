-- What was counted, and what a run has to count.
use Rattle.std.proofs.Common.{◌≡◌, ℕ, ◌+◌, ◌*◌, ◌≤◌, Bool, true, List, [], ◌∷◌, length, map, ap, sym, ◌∙◌, subst, arith}
use Rattle.std.proofs.lemmas.Nat.{mul-le}
use Rattle.std.proofs.Math.Nat.{mul_comm}
use Rattle.std.specs.Prelude.{Some}
use Rattle.std.specs.Bool.{OnTrue}
use Rattle.event_base.specs.Seen.{NoteSeen}
use Rattle.query_model.specs.declared.line.Line.{Line}
use Rattle.query_model.specs.Documents.{queries_of}
use Rattle.query_model.specs.Order.{Asked, replies_of}
use Rattle.core_word.specs.Count.{Counts, added, raised}
use Rattle.fan_model.specs.Answered.{answered_in, tops_in}
use Rattle.fan_model.specs.Notes.{emptied, notes_of}
use Rattle.fan_model.specs.Report.{Asking, IsPoolReport}
use Rattle.fan_model.specs.Tasks.{printer_exec}
use Rattle.fan_model.specs.Totals.{core_totals, totals_by}
use Rattle.run_notes.specs.declared.counting.Counted.{Counted}
use Rattle.run_notes.specs.declared.notes.PoolNote.{PoolNote}
use Rattle.run_notes.specs.Counting.{AreCoresBy, ArePutBy, HasCounted, totals_of}
use Rattle.run_notes.specs.Told.{note_of, told_of}
use Rattle.run_printing.specs.Ends.{IsWhole}
use Rattle.run_plan.specs.Turns.{begun_between}
use Rattle.run_desks.specs.Counted.{HasMade, made_by}
use Rattle.run_tasks.specs.Leaving.{MakesMore}
use Rattle.run_ending.specs.declared.end.FanEnd.{FanEnd}
use Rattle.run_ending.specs.Ends.{IsReported}
use Rattle.fanout.specs.Closing.{DoAgree}

pub held_true : (b : Bool) (P : Type 0) → b ≡ true → OnTrue b P → P
held_true b P is on = subst (λ (x : Bool). OnTrue x P) is on

totals_are : (asked : Asking) (counted : Counted) (shards : ℕ) → HasCounted asked.lines asked.bases counted → shards ≡ asked.shards → totals_by counted.answered counted.tops shards ≡ core_totals asked.lines asked.shards
unfolding core_totals
totals_are asked counted shards counts as_many =
    ap (λ (n : ℕ). totals_by n counted.tops shards) counts.answered ∙ (ap (λ (n : ℕ). totals_by (length (answered_in asked.lines)) n shards) counts.tops ∙ ap (λ (n : ℕ). totals_by (length (answered_in asked.lines)) (tops_in (answered_in asked.lines)) n) as_many)

-- both comparisons agree
pub both_agree : (asked : Asking) (counted : Counted) (shards : ℕ) (tally : Counts) (notes : List NoteSeen) → HasCounted asked.lines asked.bases counted → shards ≡ asked.shards
    → AreCoresBy tally (totals_by counted.answered counted.tops shards) → ArePutBy shards counted.by_base.items notes → DoAgree asked counted tally notes
both_agree asked counted shards tally notes counts as_many cores puts = record {
  cores = subst (AreCoresBy tally) (totals_are asked counted shards counts as_many) cores;
  puts = subst (λ (n : ℕ). ArePutBy n counted.by_base.items notes) as_many puts;
}

pub cores_of_both : (asked : Asking) (counted : Counted) (shards : ℕ) (tally : Counts) (notes : List NoteSeen) → HasCounted asked.lines asked.bases counted → shards ≡ asked.shards → DoAgree asked counted tally notes
    → AreCoresBy tally (totals_by counted.answered counted.tops shards)
cores_of_both asked counted shards tally notes counts as_many both = subst (AreCoresBy tally) (sym (totals_are asked counted shards counts as_many)) both.cores

pub puts_of_both : (asked : Asking) (counted : Counted) (shards : ℕ) (tally : Counts) (notes : List NoteSeen) → shards ≡ asked.shards → DoAgree asked counted tally notes → ArePutBy shards counted.by_base.items notes
puts_of_both asked counted shards tally notes as_many both = subst (λ (n : ℕ). ArePutBy n counted.by_base.items notes) (sym as_many) both.puts

-- What was handed over: nothing before the stages ran, a core for each message of the gathering bases, and one for each answered query's reply.
pub handed_whole : (opening others printing puts answered shards : ℕ) → opening ≡ 0 → others ≡ added 0 puts → printing ≡ answered → puts ≡ shards * answered → answered ≤ 4294967296 → shards ≤ 64
    → added (added opening others) printing ≡ answered * shards + answered
handed_whole opening others printing puts answered shards none messages replies put few few_shards =
    omega (arith, none, messages, replies, put, few, mul-le shards answered 64 4294967296 few_shards few, mul_comm answered shards)

-- one core more was made for each of these queries
one_for_each : (queries : List Asked) (made forwarded more : ℕ) → made ≡ added forwarded more → made_by queries made ≡ added forwarded (more + length queries)
one_for_each [] made forwarded more is = omega (arith, is)
one_for_each (q ∷ queries) made forwarded more is =
    let count : (more + 1) + length queries ≡ more + length (q ∷ queries) = omega arith in
    one_for_each queries (raised made) forwarded (more + 1) (omega (arith, is)) ∙ ap (λ (n : ℕ). added forwarded n) count

-- before the stages ran a core was begun for each answered query
pub opening_made : (asked : Asking) (turns : ℕ) (first counts : Counts) → begun_between asked.lines 0 turns ≡ answered_in asked.lines → MakesMore 0 first → HasMade asked 0 turns first counts
    → MakesMore (length (answered_in asked.lines)) counts
opening_made asked turns first counts all none has =
    let made : counts.made ≡ made_by (answered_in asked.lines) first.made = ap (λ (t : Counts). t.made) has.are ∙ ap (λ (queries : List Asked). made_by queries first.made) all in
    let forwarded : first.forwarded ≡ counts.forwarded = sym (ap (λ (t : Counts). t.forwarded) has.are) in
    let all_of : 0 + length (answered_in asked.lines) ≡ length (answered_in asked.lines) = omega arith in
    made ∙ (one_for_each (answered_in asked.lines) first.made first.forwarded 0 none
    ∙ (ap (λ (n : ℕ). added first.forwarded n) all_of ∙ ap (λ (n : ℕ). added n (length (answered_in asked.lines))) forwarded))

-- What was made: a core for each answered query's reply before the stages ran, one for each task, none by the printer, and one for each that was forwarded.
pub made_whole : (opening others printing : Counts) (answered shards tasks tops : ℕ) → MakesMore answered opening → MakesMore tasks others → printing.made ≡ 0 → printing.forwarded ≡ 0
    → added (added opening.forwarded others.forwarded) printing.forwarded ≡ tops → tasks ≡ answered * shards → answered ≤ 4294967296 → shards ≤ 64 → tops ≤ 4294967296
    → added (added opening.made others.made) printing.made ≡ answered * shards + answered + tops
made_whole opening others printing answered shards tasks tops begun of_tasks made forwarded are all few few_shards few_tops =
    omega (arith, begun, of_tasks, made, forwarded, are, all, few, few_tops, mul-le answered shards 4294967296 64 few few_shards)

pub forwarded_are : (lines : List Line) (shards : ℕ) (tally : Counts) → AreCoresBy tally (core_totals lines shards) → tally.forwarded ≡ tops_in (answered_in lines)
unfolding core_totals
forwarded_are lines shards tally are = are.forwarded

-- with what was made and what was handed over the numbers are all those of the run
pub all_cores : (lines : List Line) (shards : ℕ) (tally : Counts) → AreCoresBy tally (core_totals lines shards)
    → tally.made ≡ length (answered_in lines) * shards + length (answered_in lines) + tops_in (answered_in lines) → tally.handed ≡ length (answered_in lines) * shards + length (answered_in lines)
    → totals_of tally ≡ core_totals lines shards
unfolding core_totals
all_cores lines shards tally are made handed = λ i. record { made = made i; handed = handed i; forwarded = are.forwarded i; freed = are.freed i; reopened = are.reopened i }

-- the printer's note is that of a queue that gave a message for each query
pub printer_note : (asked : Asking) (n : NoteSeen) (counts : Counts) → IsWhole asked.lines (printer_exec asked.bases) n counts → length (replies_of asked.lines) ≡ length (queries_of asked.lines)
    → note_of n ≡ emptied (printer_exec asked.bases) (length (queries_of asked.lines))
printer_note asked n counts whole many = (λ i. record { exec = whole.exec i; put = (whole.put ∙ many) i; taken = (whole.taken ∙ many) i; left = whole.left i })

pub reported : (asked : Asking) (end : FanEnd) (note : PoolNote) (notes : List NoteSeen) → end.pool ≡ Some note → IsPoolReport asked (told_of note) → end.queues ≡ notes → map note_of notes ≡ notes_of asked.lines asked.shards asked.bases
    → totals_of end.tally ≡ core_totals asked.lines asked.shards → IsReported asked end
reported asked end note notes pool report queues are cores = record {
  note = note;
  pool = pool;
  report = record { pool = report; queues = ap (map note_of) queues ∙ are; cores = cores };
}
