-- A loop of messages alone: each run leaves the agenda as it was.
use Rattle.std.proofs.Common.{◌≡◌, ℕ, Bool, true, false, List, [], ◌∷◌, ◌++◌, map, refl, sym, subst, ap, ◌∙◌, arith, append_assoc, append-nil}
use Rattle.fan_base.specs.declared.number.JobId.{JobId}
use Rattle.fan_base.specs.declared.number.Mark.{Mark}
use Rattle.job_trait.specs.declared.job.Head.{Head}
use Rattle.notify_queue.specs.declared.stamp.Stamped.{Stamped}
use Rattle.event_base.specs.declared.round.Round.{Round}
use Rattle.event_base.specs.declared.round.RoundMemory.{RoundMemory}
use Rattle.event_base.specs.declared.round.Why.{Why}
use Rattle.event_base.specs.declared.round.Why.TheVariants.{Closed, Terminated}
use Rattle.event_base.specs.Seen.{AgendaSeen, BaseSeen, settled}
use Rattle.event_base.specs.Turns.{Turn, Place, LeavesAgenda, TakesBefore, TakesLoop, TurnsThrough, jobs_of}
use Rattle.event_base.specs.Rounds.{Phases, TicksThrough, IsWholeRound, in_phase}
use Rattle.event_base.specs.Looping.{RoundsThrough, IsRoundBehindLook, IsLoop, IsCutLoop, EndsFor}
use Rattle.event_base.specs.Laws.{IsIdle, LeaveTheAgenda, RunsMessages}
use Rattle.std.proofs.lemmas.List.{map-append, nil_from_length}

module _ {J : Type 0} where
  -- an agenda that holds nothing, behind a loop phase that ran nothing
  settled_again : (a : AgendaSeen J) → IsIdle a → settled (in_phase (settled a)) ≡ a
  settled_again a h =
      let none : (a.loops ++ a.later) ++ [] ≡ a.loops = append-nil (a.loops ++ a.later) ∙ (ap (λ (l : List J). a.loops ++ l) h.later ∙ append-nil a.loops) in
      ap (λ (l : List J). record a { loops = l; later = []; in_loop = false }) none
      ∙ (ap (λ (l : List J). record a { later = l; in_loop = false }) (sym h.later) ∙ ap (λ (b : Bool). record a { in_loop = b }) (sym h.in_loop))

  settled_same : (a : AgendaSeen J) → IsIdle a → settled a ≡ a
  settled_same a h =
      let none : a.loops ++ a.later ≡ a.loops = ap (λ (l : List J). a.loops ++ l) h.later ∙ append-nil a.loops in
      ap (λ (l : List J). record a { loops = l; later = []; in_loop = false }) none
      ∙ (ap (λ (l : List J). record a { later = l; in_loop = false }) (sym h.later) ∙ ap (λ (b : Bool). record a { in_loop = b }) (sym h.in_loop))

  pub no_turns : (turns : List (Turn J)) → jobs_of turns ≡ [] → turns ≡ []
  no_turns [] e = refl
  no_turns (t ∷ ts) e = absurd cc

module _ {W J : Type 0} (head : J → Head) (runs : JobId → Place W J → Mark → Place W J → Type 0) where
  agenda_stays : LeaveTheAgenda runs → (p q : Place W J) (turns : List (Turn J)) → TurnsThrough LeavesAgenda head runs p turns q → q.1 ≡ p.1
  agenda_stays leave p q [] all = ap (λ (u : Place W J). u.1) (sym all)
  agenda_stays leave p q (t ∷ ts) all =
      agenda_stays leave all.0 q ts all.2 ∙ (leave (head t.job).id (p.0, all.1.between) t.mark all.0 all.1.ran ∙ all.1.stepped)

  -- a loop phase that begins with nothing runs nothing
  pub nothing_runs : (p q : Place W J) (turns : List (Turn J)) → p.1.loops ≡ [] → TurnsThrough TakesLoop head runs p turns q → p ≡ q
  nothing_runs p q [] none all = all
  nothing_runs p q (t ∷ ts) none all =
      let some : p.1.loops ≡ t.job ∷ all.1.between.loops = ap (λ (a : AgendaSeen J). a.loops) all.1.stepped in
      absurd cc

  join : (p m q : Place W J) (xs ys : List (Turn J)) → TurnsThrough LeavesAgenda head runs p xs m → TurnsThrough LeavesAgenda head runs m ys q → TurnsThrough LeavesAgenda head runs p (xs ++ ys) q
  join p m q [] ys first second = subst (λ (u : Place W J). TurnsThrough LeavesAgenda head runs u ys q) (sym first) second
  join p m q (t ∷ xs) ys first second = (first.0, first.1, join first.0 m q xs ys first.2 second)

  -- a round: its messages ran, and the agenda is as it was
  round_of_messages : LeaveTheAgenda runs → (w : W) (old : BaseSeen J) (round : Round) (did : Phases J) (v : W) (new : BaseSeen J) → IsIdle old.agenda
      → IsWholeRound head runs 0 w old round did v new
      → (new.agenda ≡ old.agenda) × TurnsThrough LeavesAgenda head runs (w, old.agenda) did.messages (v, old.agenda)
  round_of_messages leave w old round did v new h whole =
      let a : AgendaSeen J = old.agenda in
      let up = whole.up_to_ticks in
      let before : TurnsThrough TakesBefore head runs (w, settled a) [] up.after_before =
      subst (λ (ts : List (Turn J)). TurnsThrough TakesBefore head runs (w, settled a) ts up.after_before) (no_turns did.before (up.before.jobs ∙ h.before)) up.before.ran.through in
      let begin : up.after_before ≡ (w, a) = sym before ∙ ap (λ (b : AgendaSeen J). (w, b)) (settled_same a h) in
      let messages = subst (λ (u : Place W J). TurnsThrough LeavesAgenda head runs u did.messages up.after_messages) begin up.messages.ran.through in
      let ticks : TicksThrough head runs up.after_messages [] whole.after_ticks =
      subst (λ (ts : List (List (Turn J))). TicksThrough head runs up.after_messages ts whole.after_ticks) (nil_from_length did.ticks whole.each_tick) up.ticks.through in
      let agenda : up.after_messages.1 ≡ a = agenda_stays leave (w, a) up.after_messages did.messages messages in
      let later : whole.after_ticks.1 ≡ a = ap (λ (u : Place W J). u.1) (sym ticks) ∙ agenda in
      let loops : whole.after_ticks.1.loops ≡ [] = ap (λ (b : AgendaSeen J). b.loops) later ∙ h.loops in
      let phase : (whole.after_ticks.0, in_phase whole.after_ticks.1) ≡ (v, whole.loops.end) =
      nothing_runs (whole.after_ticks.0, in_phase whole.after_ticks.1) (v, whole.loops.end) did.loops loops whole.loops.ran.through in
      let world : up.after_messages.0 ≡ v = ap (λ (u : Place W J). u.0) ticks ∙ ap (λ (u : Place W J). u.0) phase in
      let end : whole.loops.end ≡ in_phase (settled a) =
      ap (λ (u : Place W J). u.1) (sym phase) ∙ ap (λ (b : AgendaSeen J). in_phase b) (later ∙ sym (settled_same a h)) in
      let there : up.after_messages ≡ (v, a) = ap (λ (x : W). (x, up.after_messages.1)) world ∙ ap (λ (b : AgendaSeen J). (v, b)) agenda in (
        whole.loops.ended ∙ (ap (λ (b : AgendaSeen J). settled b) end ∙ settled_again a h),
        subst (λ (u : Place W J). TurnsThrough LeavesAgenda head runs (w, a) did.messages u) there messages,
      )

  -- the same behind a look, told of the base before it
  behind_look : LeaveTheAgenda runs → (w : W) (old : BaseSeen J) (did : Phases J) (v : W) (new : BaseSeen J) → IsIdle old.agenda
      → IsRoundBehindLook head runs w old did v new → RunsMessages head runs w old v new
  behind_look leave w old did v new h one =
      let same : one.looked.agenda ≡ old.agenda = one.looks.agenda in
      let holds : IsIdle one.looked.agenda = subst (λ (a : AgendaSeen J). IsIdle a) (sym same) h in
      let did_round = round_of_messages leave w one.looked one.round did v new holds one.whole in
      record {
        took = did.took;
        turns = did.messages;
        taken = one.whole.took.taken ∙ ap (λ (l : List (Stamped J)). l ++ did.took) one.looks.same.2;
        jobs = one.whole.up_to_ticks.messages.each;
        agenda = did_round.0 ∙ same;
        ran = record { through = subst (λ (a : AgendaSeen J). TurnsThrough LeavesAgenda head runs (w, a) did.messages (v, a)) same did_round.1 };
      }

  none_ran : (w v : W) (old new : BaseSeen J) → v ≡ w → new ≡ old → RunsMessages head runs w old v new
  none_ran w v old new same is = record {
    took = [];
    turns = [];
    taken = ap (λ (b : BaseSeen J). b.queue.taken) is ∙ sym (append-nil old.queue.taken);
    jobs = refl;
    agenda = ap (λ (b : BaseSeen J). b.agenda) is;
    ran = record { through = ap (λ (x : W). (x, old.agenda)) (sym same) };
  }

  both_ran : (w m v : W) (old between new : BaseSeen J) → RunsMessages head runs w old m between → RunsMessages head runs m between v new → RunsMessages head runs w old v new
  both_ran w m v old between new first second = record {
    took = first.took ++ second.took;
    turns = first.turns ++ second.turns;
    taken = second.taken ∙ (ap (λ (l : List (Stamped J)). l ++ second.took) first.taken ∙ append_assoc old.queue.taken first.took second.took);
    jobs = map-append (λ (t : Turn J). t.job) first.turns second.turns ∙ (ap (λ (l : List J). l ++ jobs_of second.turns) first.jobs
        ∙ (ap (λ (l : List J). map (λ (x : Stamped J). x.message) first.took ++ l) second.jobs ∙ sym (map-append (λ (x : Stamped J). x.message) first.took second.took)));
    agenda = second.agenda ∙ first.agenda;
    ran = record {
      through = join (w, old.agenda) (m, old.agenda) (v, old.agenda) first.turns second.turns first.ran.through
          (subst (λ (a : AgendaSeen J). TurnsThrough LeavesAgenda head runs (m, a) second.turns (v, a)) first.agenda second.ran.through);
    };
  }

  still_idle : (w v : W) (old new : BaseSeen J) → RunsMessages head runs w old v new → IsIdle old.agenda → IsIdle new.agenda
  still_idle w v old new ran h = subst (λ (a : AgendaSeen J). IsIdle a) (sym ran.agenda) h

  rounds_of_messages : LeaveTheAgenda runs → (w : W) (old : BaseSeen J) (list : List (Phases J)) (v : W) (new : BaseSeen J) → IsIdle old.agenda
      → RoundsThrough head runs w old list v new → RunsMessages head runs w old v new
  rounds_of_messages leave w old [] v new h all = none_ran w v old new all.0 all.1
  rounds_of_messages leave w old (did ∷ more) v new h all =
      let first = behind_look leave w old did all.0 all.1 h all.2 in
      let rest = rounds_of_messages leave all.0 all.1 more v new (still_idle w all.0 old all.1 first h) all.4 in
      both_ran w all.0 v old all.1 new first rest

  -- where the mark to end is off behind the last round, the loop ends since the base is closed
  ends_closed : (why : Why) (last new : BaseSeen J) → last.agenda.terminating ≡ false → EndsFor why last new → (why ≡ Closed) × (new ≡ last)
  ends_closed Closed last new off ends = (refl, ends.1)
  ends_closed Terminated last new off ends = let marked : true ≡ false = sym ends.0 ∙ off in absurd cc

  up_to_last : LeaveTheAgenda runs → (rounds : ℕ) (why : Why) (w : W) (old : BaseSeen J) (v : W) (new : BaseSeen J) → IsIdle old.agenda
      → (all : IsLoop head runs rounds why w old v new) → RunsMessages head runs w old v all.last
  up_to_last leave rounds why w old v new h all =
      let first = rounds_of_messages leave w old all.earlier all.m all.before_last h all.ran.through in
      let second = behind_look leave all.m all.before_last all.did v all.last (still_idle w all.m old all.before_last first h) all.last_round in
      both_ran w all.m v old all.before_last all.last first second

  closed_by : LeaveTheAgenda runs → (rounds : ℕ) (why : Why) (w : W) (old : BaseSeen J) (v : W) (new : BaseSeen J) → IsIdle old.agenda
      → (all : IsLoop head runs rounds why w old v new) → (why ≡ Closed) × (new ≡ all.last)
  closed_by leave rounds why w old v new h all =
      let idle = still_idle w v old all.last (up_to_last leave rounds why w old v new h all) h in
      ends_closed why all.last new idle.terminating all.ends

  pub loop_of_messages : LeaveTheAgenda runs → (rounds : ℕ) (why : Why) (w : W) (old : BaseSeen J) (v : W) (new : BaseSeen J) → IsIdle old.agenda
      → IsLoop head runs rounds why w old v new → RunsMessages head runs w old v new
  loop_of_messages leave rounds why w old v new h all =
      subst (λ (b : BaseSeen J). RunsMessages head runs w old v b) (sym (closed_by leave rounds why w old v new h all).1) (up_to_last leave rounds why w old v new h all)

  pub loop_is_closed : LeaveTheAgenda runs → (rounds : ℕ) (why : Why) (w : W) (old : BaseSeen J) (v : W) (new : BaseSeen J) → IsIdle old.agenda
      → IsLoop head runs rounds why w old v new → why ≡ Closed
  loop_is_closed leave rounds why w old v new h all = (closed_by leave rounds why w old v new h all).0

  pub cut_loop_of_messages : LeaveTheAgenda runs → (fault : RoundMemory) (w : W) (old : BaseSeen J) (v : W) (new : BaseSeen J) → IsIdle old.agenda
      → IsCutLoop head runs fault w old v new → RunsMessages head runs w old v new
  cut_loop_of_messages leave fault w old v new h all =
      let first = rounds_of_messages leave w old all.earlier v all.before_last h all.ran.through in
      let same : new.queue.taken ≡ all.before_last.queue.taken = ap (λ (b : BaseSeen J). b.queue.taken) all.not_begun.base ∙ all.looks.same.2 in
      let agenda : new.agenda ≡ all.before_last.agenda = ap (λ (b : BaseSeen J). b.agenda) all.not_begun.base ∙ all.looks.agenda in
      record { took = first.took; turns = first.turns; taken = same ∙ first.taken; jobs = first.jobs; agenda = agenda ∙ first.agenda; ran = first.ran }
