-- What each ending of a run says.
use Rattle.std.proofs.Common.{◌≡◌, ◌≢◌, ℕ, ◌≤◌, [], ◌++◌, length, map, Option, Some, None, Result, Ok, Err, refl, sym, ap, ◌∙◌, subst, arith, length-append, ◌⊎◌, inl, inr}
use Rattle.std.specs.Option.{IfSome}
use Rattle.std.specs.Result.{OnOk, OnErr}
use Rattle.std.specs.Io.KnownBytes.{Consumes}
use Rattle.fan_base.specs.Outside.{Shown, FaultsRose, shown}
use Rattle.query_model.specs.declared.line.Input.{Input}
use Rattle.query_model.specs.declared.fault.BadInput.{BadInput}
use Rattle.query_model.specs.Pieces.{Bytes}
use Rattle.query_model.specs.Reading.{Accepts, Refuses}
use Rattle.query_model.specs.Output.{error_text, output}
use Rattle.query_model.specs.Generated.{generated_input, summary_line, summary_of}
use Rattle.query_words.specs.declared.command.Generation.{Generation}
use Rattle.query_words.specs.declared.command.Settings.{Settings}
use Rattle.fan_model.specs.Report.{Asking, IsReport}
use Rattle.run_notes.specs.Counting.{totals_of}
use Rattle.run_notes.specs.Told.{note_of, told_of}
use Rattle.run_ending.specs.declared.end.FanEnd.{FanEnd}
use Rattle.run_ending.specs.declared.end.FanOutcome.{FanOutcome}
use Rattle.run_ending.specs.declared.end.FanOutcome.TheVariants as outcome
use Rattle.run_notes.specs.declared.notes.PoolNote.{PoolNote}
use Rattle.run_ending.specs.Ends.{IsReported, IsPoolTold, Reports, ReportsAs}
use Rattle.fanout.specs.Asked.{Writes}
use Rattle.folly_query.specs.declared.report.Report.{Report}
use Rattle.folly_query.specs.declared.report.Status.{Status}
use Rattle.folly_query.specs.declared.report.Status.TheVariants as status
use Rattle.reply_printer.specs.Passing.{Gains}
use Rattle.input_reader.specs.Sources.{ReadsAll, ReadsTooMuch}
use Rattle.folly_query.specs.Endings.{Comes, EndsAs, EndsBy, GainsNoReply, RefusesAs, SumsUpAs, SumsUpBy, TellsPool, IsWritten, WritesAs, asked_of, summary_by}
use Rattle.folly_query.specs.Reports.{TellsAll, asked_by, status_of}

pub written_or_front : {E G F R : Type 0} (r : Result (Unit {0}) E) → OnOk r G → OnErr r F → OnErr r R → G ⊎ (F × R)
written_or_front (Ok x) g f r = inl g
written_or_front (Err e) g f r = inr (f, r)

module _ (shards : ℕ) (source source' sink sink' : Shown) where
  pub memory_comes : (bytes : Bytes) → Comes shards bytes source source' sink sink' status.Memory
  memory_comes bytes = record { done = λ input few a calm quiet. inr refl; refused = λ bad few r calm. inr refl; too_large = λ many calm. inr refl }

  pub fault_comes : (bytes : Bytes) → FaultsRose source.faults source'.faults → Comes shards bytes source source' sink sink' status.ReadFault
  fault_comes bytes rose = record { done = λ input few a calm quiet. absurd (calm rose); refused = λ bad few r calm. absurd (calm rose); too_large = λ many calm. absurd (calm rose) }

  -- the bytes are more than what was read of them
  longer : (bytes text : Bytes) (left : Option Bytes) → Consumes (Some bytes) left text → length text ≤ length bytes
  longer bytes text None c = absurd c
  longer bytes text (Some rest) c = omega (arith, ap length c, length-append text rest)

  pub too_large_comes : (bytes text : Bytes) → source.bytes ≡ Some bytes → ReadsTooMuch source source' text → Comes shards bytes source source' sink sink' status.TooLarge
  too_large_comes bytes text known much =
      let more = longer bytes text source'.bytes (subst (λ b. Consumes b source'.bytes text) known much.consumed) in
      record {
        done = λ input few a calm quiet. absurd (omega (arith, more, much.many));
        refused = λ bad few r calm. absurd (omega (arith, more, much.many));
        too_large = λ many calm. inl refl;
      }

  all_of : (bytes text : Bytes) → source.bytes ≡ Some bytes → ReadsAll source source' text → bytes ≡ text
  all_of bytes text known all = (subst (λ b. IfSome b (λ bs. (bs ≡ text) × (source'.bytes ≡ Some []))) known all.whole).0

  -- the input was refused
  pub refused_comes : (bytes text : Bytes) (bad : BadInput) → source.bytes ≡ Some bytes → ReadsAll source source' text
      → ((input : Input) → Accepts text shards input → ⊥) → ((other : BadInput) → Refuses text shards other → bad ≡ other)
      → Comes shards bytes source source' sink sink' (status.BadInput bad)
  refused_comes bytes text bad known all never only =
      let is = all_of bytes text known all in
      record {
        done = λ input few a calm quiet. absurd (never input (subst (λ t. Accepts t shards input) is a));
        refused = λ other few r calm. inl (ap (λ b. status.BadInput b) (only other (subst (λ t. Refuses t shards other) is r)));
        too_large = λ many calm. absurd (omega (arith, ap length is, all.few, many));
      }

  -- the input was accepted, and all was written
  pub done_comes : (bytes text : Bytes) → source.bytes ≡ Some bytes → ReadsAll source source' text → ((bad : BadInput) → Refuses text shards bad → ⊥) → Comes shards bytes source source' sink sink' status.Done
  done_comes bytes text known all never =
      let is = all_of bytes text known all in
      record {
        done = λ input few a calm quiet. inl refl;
        refused = λ bad few r calm. absurd (never bad (subst (λ t. Refuses t shards bad) is r));
        too_large = λ many calm. absurd (omega (arith, ap length is, all.few, many));
      }

  -- the input was accepted, and the sink failed
  pub write_fault_comes : (bytes text : Bytes) → source.bytes ≡ Some bytes → ReadsAll source source' text → ((bad : BadInput) → Refuses text shards bad → ⊥) → FaultsRose sink.faults sink'.faults → Comes shards bytes source source' sink sink' status.WriteFault
  write_fault_comes bytes text known all never rose =
      let is = all_of bytes text known all in
      record {
        done = λ input few a calm quiet. absurd (quiet rose);
        refused = λ bad few r calm. absurd (never bad (subst (λ t. Refuses t shards bad) is r));
        too_large = λ many calm. absurd (omega (arith, ap length is, all.few, many));
      }

  -- what holds of all known bytes
  pub known_comes : (found : Status) → ((bytes : Bytes) → source.bytes ≡ Some bytes → Comes shards bytes source source' sink sink' found) → IfSome source.bytes (λ bytes. Comes shards bytes source source' sink sink' found)
  known_comes found each = by source.bytes each
    where
      by : (known : Option Bytes) → ((bytes : Bytes) → known ≡ Some bytes → Comes shards bytes source source' sink sink' found) → IfSome known (λ bytes. Comes shards bytes source source' sink sink' found)
      by None each = tt
      by (Some bytes) each = each bytes refl

-- a report has what is told of the end of a run
pub record HasEnd (report : Report) (end : FanEnd) : Type 0 where
  pub status : report.status ≡ status_of end.outcome
  pub pool : report.pool ≡ end.pool
  pub queues : report.queues ≡ end.queues
  pub tally : report.tally ≡ end.tally

pub tells_all : (asked : Asking) (report : Report) (end : FanEnd) → report.pool ≡ end.pool → report.queues ≡ end.queues → report.tally ≡ end.tally → IsReported asked end → TellsAll asked report
tells_all asked report end pool queues tally told = record {
  note = told.note;
  pool = pool ∙ told.pool;
  told = subst (λ qs. IsReport asked (told_of told.note) (map note_of qs) (totals_of report.tally)) (sym queues)
      (subst (λ t. IsReport asked (told_of told.note) (map note_of end.queues) (totals_of t)) (sym tally) told.report);
}

-- an input that was accepted was answered
module _ (settings : Settings) (source source' sink sink' : Shown) (text : Bytes) (input : Input) where
  pub run_ends : (report : Report) (end : FanEnd) → HasEnd report end → ReadsAll source source' text → Accepts text settings.shards input → Writes input sink sink' end.outcome
      → Reports (asked_by settings input.lines) end → EndsAs settings source source' sink sink' report
  run_ends report end has all accepted writes reports = subst (λ s. EndsBy settings source source' sink sink' report s) (sym has.status) (by end.outcome writes reports)
    where
      whole : IsReported (asked_by settings input.lines) end → TellsAll (asked_by settings input.lines) report
      whole told = tells_all (asked_by settings input.lines) report end has.pool has.queues has.tally told

      by : (o : FanOutcome) → Writes input sink sink' o → ReportsAs (asked_by settings input.lines) end o → EndsBy settings source source' sink sink' report (status_of o)
      by outcome.Done gains told = (text, all, input, accepted, gains, whole told)
      by outcome.Memory front told = inr (text, all, output input, inl (input, accepted, refl), front)
      by outcome.WriteFault failed told = (text, all, input, accepted, failed.0, failed.1, whole told)

  pub tells_pool : (pool told : Option PoolNote) → pool ≡ told → ReadsAll source source' text → Accepts text settings.shards input
      → IfSome told (IsPoolTold (asked_by settings input.lines)) → IfSome pool (TellsPool settings source source')
  tells_pool pool told is all accepted stopped = subst (λ p. IfSome p (TellsPool settings source source')) (sym is) (by told stopped)
    where
      by : (p : Option PoolNote) → IfSome p (IsPoolTold (asked_by settings input.lines)) → IfSome p (TellsPool settings source source')
      by None stopped = tt
      by (Some note) stopped = (text, all, input, accepted, stopped)

  pub run_comes : (found : Status) (o : FanOutcome) → found ≡ status_of o → ReadsAll source source' text → ((bad : BadInput) → Refuses text settings.shards bad → ⊥) → Writes input sink sink' o
      → IfSome source.bytes (λ bytes. Comes settings.shards bytes source source' sink sink' found)
  run_comes found o is all never writes =
      known_comes settings.shards source source' sink sink' found
      (λ bytes known. subst (λ s. Comes settings.shards bytes source source' sink sink' s) (sym is) (by bytes known o writes))
    where
      by : (bytes : Bytes) → source.bytes ≡ Some bytes → (o : FanOutcome) → Writes input sink sink' o → Comes settings.shards bytes source source' sink sink' (status_of o)
      by bytes known outcome.Done gains = done_comes settings.shards source source' sink sink' bytes text known all never
      by bytes known outcome.Memory front = memory_comes settings.shards source source' sink sink' bytes
      by bytes known outcome.WriteFault failed = write_fault_comes settings.shards source source' sink sink' bytes text known all never failed.1

-- an input that was refused
module _ (settings : Settings) (source source' sink sink' : Shown) (text : Bytes) (bad : BadInput) where
  pub refused_ends : (report : Report) (found : Status) → report.status ≡ found → ReadsAll source source' text → Refuses text settings.shards bad → RefusesAs bad sink sink' found
      → EndsAs settings source source' sink sink' report
  refused_ends report found is all refuses refused = subst (λ s. EndsBy settings source source' sink sink' report s) (sym is) (by found refused)
    where
      by : (found : Status) → RefusesAs bad sink sink' found → EndsBy settings source source' sink sink' report found
      by (status.BadInput other) told =
          (text, all, subst (λ b. Refuses text settings.shards b) (sym told.0) refuses, subst (λ b. IsWritten (error_text b) sink sink') (sym told.0) told.1)
      by status.Memory told = inl (told, all.sound)
      by status.Done told = absurd told
      by status.Usage told = absurd told
      by status.ReadFault told = absurd told
      by status.WriteFault told = absurd told
      by status.TooLarge told = absurd told

  pub refusal_comes : (reported found : Status) → reported ≡ found → ReadsAll source source' text → ((input : Input) → Accepts text settings.shards input → ⊥)
      → ((other : BadInput) → Refuses text settings.shards other → bad ≡ other) → RefusesAs bad sink sink' found
      → IfSome source.bytes (λ bytes. Comes settings.shards bytes source source' sink sink' reported)
  refusal_comes reported found is all never only refused =
      known_comes settings.shards source source' sink sink' reported
      (λ bytes known. subst (λ s. Comes settings.shards bytes source source' sink sink' s) (sym is) (by bytes known found refused))
    where
      by : (bytes : Bytes) → source.bytes ≡ Some bytes → (found : Status) → RefusesAs bad sink sink' found → Comes settings.shards bytes source source' sink sink' found
      by bytes known (status.BadInput other) told =
          subst (λ b. Comes settings.shards bytes source source' sink sink' (status.BadInput b)) (sym told.0)
          (refused_comes settings.shards source source' sink sink' bytes text bad known all never only)
      by bytes known status.Memory told = memory_comes settings.shards source source' sink sink' bytes
      by bytes known status.Done told = absurd told
      by bytes known status.Usage told = absurd told
      by bytes known status.ReadFault told = absurd told
      by bytes known status.WriteFault told = absurd told
      by bytes known status.TooLarge told = absurd told

-- a refusal or want of memory
pub refused_is : (bad : BadInput) (sink sink' : Shown) (reported found : Status) → reported ≡ found → RefusesAs bad sink sink' found
    → (reported ≢ status.Usage) × ((reported ≢ status.ReadFault) × (reported ≢ status.TooLarge))
refused_is bad sink sink' reported found is refused = subst (λ s. (s ≢ status.Usage) × ((s ≢ status.ReadFault) × (s ≢ status.TooLarge))) (sym is) (by found refused)
  where
    by : (found : Status) → RefusesAs bad sink sink' found → (found ≢ status.Usage) × ((found ≢ status.ReadFault) × (found ≢ status.TooLarge))
    by (status.BadInput other) told = (λ e. absurd (cc), (λ e. absurd (cc), λ e. absurd (cc)))
    by status.Memory told = (λ e. absurd (cc), (λ e. absurd (cc), λ e. absurd (cc)))
    by status.Done told = absurd told
    by status.Usage told = absurd told
    by status.ReadFault told = absurd told
    by status.WriteFault told = absurd told
    by status.TooLarge told = absurd told

-- what was ended by a run is neither of these
pub run_is : (reported : Status) (o : FanOutcome) → reported ≡ status_of o → (reported ≢ status.Usage) × ((reported ≢ status.ReadFault) × (reported ≢ status.TooLarge))
run_is reported o is = subst (λ s. (s ≢ status.Usage) × ((s ≢ status.ReadFault) × (s ≢ status.TooLarge))) (sym is) (by o)
  where
    by : (o : FanOutcome) → (status_of o ≢ status.Usage) × ((status_of o ≢ status.ReadFault) × (status_of o ≢ status.TooLarge))
    by outcome.Done = (λ e. absurd (cc), (λ e. absurd (cc), λ e. absurd (cc)))
    by outcome.Memory = (λ e. absurd (cc), (λ e. absurd (cc), λ e. absurd (cc)))
    by outcome.WriteFault = (λ e. absurd (cc), (λ e. absurd (cc), λ e. absurd (cc)))

-- what a sink holds that held nothing before
pub held : (old new text : Bytes) (m n : ℕ) → old ≡ [] → Gains (shown (Some old) m) (shown (Some new) n) text → new ≡ text
held old new text m n none gains = gains.gained ∙ ap (λ l. l ++ text) none

-- an input that was made up was answered, and the line was written
module _ (generation : Generation) (settings : Settings) (sink sink' : Shown) (end : FanEnd) (found : Status) where
  pub summary_ends : (input : Input) (replies : Bytes) → input ≡ generated_input generation.seed generation.docs generation.queries → replies ≡ output input
      → IsReported (asked_by settings input.lines) end → WritesAs (summary_of generation.docs generation.queries replies) sink sink' found
      → SumsUpAs generation settings sink sink' (record { status = found; pool = end.pool; queues = end.queues; tally = end.tally })
  unfolding summary_line
  summary_ends input replies is text reported writes = by found (subst (λ t. WritesAs t sink sink' found) line writes)
    where
      report : Status → Report
      report s = record { status = s; pool = end.pool; queues = end.queues; tally = end.tally }

      line : summary_of generation.docs generation.queries replies ≡ summary_by generation
      line = ap (λ t. summary_of generation.docs generation.queries t) (text ∙ ap (λ i. output i) is)

      told : (s : Status) → TellsAll (asked_of generation settings) (report s)
      told s = subst (λ (i : Input). TellsAll (asked_by settings i.lines) (report s)) is (tells_all (asked_by settings input.lines) (report s) end refl refl refl reported)

      by : (s : Status) → WritesAs (summary_by generation) sink sink' s → SumsUpBy generation settings sink sink' (report s) s
      by status.Done gains = (gains, told status.Done)
      by status.Memory same = same
      by status.WriteFault failed = (failed.0, failed.1, told status.WriteFault)
      by status.Usage never = absurd never
      by (status.BadInput bad) never = absurd never
      by status.ReadFault never = absurd never
      by status.TooLarge never = absurd never

-- of an input that was refused no reply was written
pub refused_unanswered : (bad : BadInput) (sink sink' : Shown) (reported found : Status) → reported ≡ found → RefusesAs bad sink sink' found → GainsNoReply sink sink' reported
refused_unanswered bad sink sink' reported found is refused = subst (λ s. GainsNoReply sink sink' s) (sym is) (by found refused)
  where
    by : (found : Status) → RefusesAs bad sink sink' found → GainsNoReply sink sink' found
    by (status.BadInput other) told = subst (λ b. IsWritten (error_text b) sink sink') (sym told.0) told.1
    by status.Memory same = same
    by status.Done told = absurd told
    by status.Usage told = absurd told
    by status.ReadFault told = absurd told
    by status.WriteFault told = absurd told
    by status.TooLarge told = absurd told

-- a run that left the sink alone wrote no reply
pub run_unanswered : (sink sink' : Shown) (reported : Status) (o : FanOutcome) → reported ≡ status_of o → sink' ≡ sink → GainsNoReply sink sink' reported
run_unanswered sink sink' reported o is same = subst (λ s. GainsNoReply sink sink' s) (sym is) (by o)
  where
    by : (o : FanOutcome) → GainsNoReply sink sink' (status_of o)
    by outcome.Done = same
    by outcome.Memory = same
    by outcome.WriteFault = same

-- a whole report tells of a pool
pub told_has_pool : (asked : Asking) (end : FanEnd) → IsReported asked end → end.pool ≡ None → ⊥
told_has_pool asked end told none = let never : None ≡ Some told.note = sym none ∙ told.pool in absurd (cc)
