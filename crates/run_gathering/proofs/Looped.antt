-- What loops of a gathering base keep, one after another.
use Rattle.std.proofs.Common.{◌≡◌, ℕ, Bool, false, [], length, refl, ap, ◌∙◌, subst}
use Rattle.core_word.specs.Count.{Counts}
use Rattle.notify_queue.specs.Ends.{Sending}
use Rattle.event_base.specs.Closing.{held_by}
use Rattle.event_base.specs.Laws.{KeepsBase}
use Rattle.event_base.specs.Looping.{HoldsNoCallback, count_of_callbacks}
use Rattle.event_base.specs.Seen.{AgendaSeen, BaseSeen}
use Rattle.fan_parts.specs.Seen.{PosterSeen}
use Rattle.fan_parts.specs.declared.jobs.GatherJob.{GatherJob}
use Rattle.fan_parts.specs.declared.jobs.PrintJob.{PrintJob}
use Rattle.run_gathering.specs.Seen.{GatheringSeen}
use Rattle.run_gathering.specs.Gathering.{counted, fires_among, no_counts, HoldsScorings, TookIn}
use Rattle.run_gathering.specs.Stages.{CameTo, IsSameBase}
use Rattle.run_gathering.proofs.Firing.{took_none, took_more}
use Rattle.run_gathering.proofs.Waiting.{all_fires, no_count}

-- no callback and no timer: nothing
pub holds_nothing : {J : Type 0} (a : AgendaSeen J) → HoldsNoCallback a → a.wheel.timers ≡ [] → held_by a ≡ []
holds_nothing a none timers =
    ap (λ l. held_by (record a { before = l })) none.0
    ∙ (ap (λ l. held_by (record a { before = []; loops = l })) none.1
    ∙ (ap (λ l. held_by (record a { before = []; loops = []; later = l })) none.2
    ∙ ap (λ ts. held_by (record a { before = []; loops = []; later = []; wheel = record a.wheel { timers = ts } })) timers))

pub same_base : {J : Type 0} (ticks : ℕ) (old new : BaseSeen J) → KeepsBase ticks old new → IsSameBase old new
same_base ticks old new keeps = record { exec = keeps.exec; queue = keeps.queue; senders = keeps.senders }

module _ {N : Type 0} where
  -- the loops so far
  pub record LoopsSoFar (w : GatheringSeen N) (old : BaseSeen (GatherJob N)) (v : GatheringSeen N) (new : BaseSeen (GatherJob N)) : Type 0 where
    pub did : TookIn w old v new
    pub base : IsSameBase old new
    pub holds : HoldsScorings new.agenda

  pub loops_start : (w : GatheringSeen N) (old : BaseSeen (GatherJob N)) → HoldsScorings old.agenda → LoopsSoFar w old w old
  loops_start w old h = record { did = took_none w old h; base = record { exec = refl; queue = refl; senders = refl }; holds = h }

  pub loops_more : (w m v : GatheringSeen N) (old between new : BaseSeen (GatherJob N)) → LoopsSoFar w old m between → TookIn m between v new → IsSameBase between new → LoopsSoFar w old v new
  loops_more w m v old between new so did base = record {
    did = took_more w m v old between new so.did did;
    base = record { exec = base.exec ∙ so.base.exec; queue = base.queue ∙ so.base.queue; senders = base.senders ∙ so.base.senders };
    holds = did.holds;
  }

  pub came_to : (old new : BaseSeen (GatherJob N)) (printer printer_end : PosterSeen (PrintJob N)) (start now : GatheringSeen N) (ended : Sending (PrintJob N)) (t : Counts) (refused : Bool) (waiting : ℕ)
      → start ≡ record { printer = printer; tally = no_counts; refused = false; waiting = 0 } → TookIn start old now new
      → now ≡ record { printer = printer_end; tally = t; refused = refused; waiting = waiting }
      → ended ≡ printer_end.sender → (refused ≡ false → HoldsNoCallback new.agenda) → CameTo old new printer.sender ended t refused
  came_to old new printer printer_end start now ended t refused waiting from did to end_is closed =
      let first : GatheringSeen N = record { printer = printer; tally = no_counts; refused = false; waiting = 0 } in
      let last : GatheringSeen N = record { printer = printer_end; tally = t; refused = refused; waiting = waiting } in
      let moved : TookIn first old last new = subst (λ (v : GatheringSeen N). TookIn first old v new) to (subst (λ (w : GatheringSeen N). TookIn w old now new) from did) in
      let each : refused ≡ false → fires_among moved.took ≡ length moved.took =
      λ calm. all_fires moved.took waiting (count_of_callbacks old.agenda) (count_of_callbacks new.agenda) (moved.waits calm) (no_count new.agenda (closed calm)) in
      record {
        took = moved.took;
        taken = moved.taken;
        forwards = moved.forwards;
        posts = moved.posts;
        posted = record {
          queue = ap (λ (s : Sending (PrintJob N)). s.queue) end_is ∙ moved.by.same.0;
          number = ap (λ (s : Sending (PrintJob N)). s.number) end_is ∙ moved.by.same.1;
          sent = ap (λ (s : Sending (PrintJob N)). s.sent) end_is ∙ moved.by.sent;
        };
        fires = each;
        counts = λ calm. moved.by.tally calm ∙ ap (λ (k : ℕ). counted k moved.forwards (length moved.posts) no_counts) (each calm);
        answers = λ calm. moved.by.answers calm;
      }
