-- Which messages fired, over turns, rounds and loops of a gathering base.
use Rattle.std.proofs.Common.{◌≡◌, ℕ, ◌+◌, Bool, true, false, inl, inr, List, [], ◌∷◌, ◌++◌, length, map, refl, sym, subst, ap, ◌∙◌, arith, append_assoc, append-nil}
use Rattle.std.specs.Prelude.{nat_lt, if◌then◌else◌}
use Rattle.std.specs.List.{All, sum_by}
use Rattle.std.proofs.lemmas.Bool.Decides.{nat_tests}
use Rattle.std.proofs.lemmas.List.Elements.{All-append, All-cons, All-head, All-nil, All-tail}
use Rattle.std.proofs.lemmas.List.Sums.{sum_by-append, sum_by-cons}
use Rattle.std.proofs.lemmas.List.{length-append, length-map, nil_from_length}
use Rattle.notify_queue.specs.declared.stamp.Stamped.{Stamped}
use Rattle.event_base.specs.declared.round.Round.{Round}
use Rattle.event_base.specs.declared.round.RoundMemory.{RoundMemory}
use Rattle.event_base.specs.declared.round.Why.{Why}
use Rattle.event_base.specs.declared.round.Why.TheVariants.{Closed, Terminated}
use Rattle.event_base.specs.Calls.{with_in_loop}
use Rattle.event_base.specs.Seen.{AgendaSeen, BaseSeen, settled}
use Rattle.event_base.specs.Turns.{Turn, Place, LeavesAgenda, TakesBefore, TakesLoop, TurnsThrough, jobs_of}
use Rattle.event_base.specs.Rounds.{Phases, TicksThrough, IsWholeRound, in_phase}
use Rattle.event_base.specs.Looping.{RoundsThrough, IsRoundBehindLook, IsLoop, IsCutLoop, EndsFor, count_of_callbacks}
use Rattle.fan_parts.specs.declared.jobs.GatherJob.{GatherJob}
use Rattle.fan_parts.specs.declared.jobs.GatherJob.TheVariants as gather
use Rattle.fan_parts.specs.declared.jobs.PrintJob.{PrintJob}
use Rattle.fan_parts.specs.Heads.{first_scoring, gather_head}
use Rattle.fan_parts.specs.declared.jobs.ScoreCall.{ScoreCall}
use Rattle.run_gathering.specs.Seen.{GatheringSeen}
use Rattle.run_gathering.specs.Gathering.{fires_at, fires_among, GathersBy, HoldsScorings, IsScoringJob, Runs, Schedules, TookIn}
use Rattle.run_gathering.proofs.Counting.{nothing, join}
use Rattle.run_gathering.proofs.Waiting.{Keeps, callback_first, keeps_none, messages_keep, more_counts, round_counts, settled_count, taken_count}

either_all : {X : Type 0} (P : X → Type 0) (b : Bool) (xs ys : List X) → All P xs → All P ys → All P (if b then xs else ys)
either_all P true xs ys first second = first
either_all P false xs ys first second = second

none_below : (place : ℕ) → nat_lt (first_scoring + place) first_scoring ≡ false
none_below place = grind (arith, nat_tests)

module _ {N : Type 0} where
  pub record FiresBy (fires : ℕ) (w v : GatheringSeen N) : Type 0 where
    pub forwards : ℕ
    pub posts : List (PrintJob N)
    pub by : GathersBy fires forwards posts w v

  fires_none : (w : GatheringSeen N) → FiresBy 0 w w
  fires_none w = record { forwards = 0; posts = []; by = nothing w }

  fires_join : (a b : ℕ) (w m v : GatheringSeen N) → FiresBy a w m → FiresBy b m v → FiresBy (a + b) w v
  fires_join a b w m v first second = record {
    forwards = first.forwards + second.forwards;
    posts = first.posts ++ second.posts;
    by = join a first.forwards b second.forwards first.posts second.posts w m v first.by second.by;
  }

  abbrev fires_of : Turn (GatherJob N) → ℕ
  fires_of t = fires_at (gather_head t.job).id

  no_turns : (turns : List (Turn (GatherJob N))) → jobs_of turns ≡ [] → turns ≡ []
  no_turns [] e = refl
  no_turns (t ∷ ts) e = absurd cc

  -- turns of messages fire as the messages do
  fires_by_jobs : (turns : List (Turn (GatherJob N))) (messages : List (Stamped (GatherJob N))) → jobs_of turns ≡ map (λ (x : Stamped (GatherJob N)). x.message) messages
      → sum_by fires_of turns ≡ fires_among messages
  fires_by_jobs [] [] e = refl
  fires_by_jobs [] (x ∷ xs) e = absurd cc
  fires_by_jobs (t ∷ ts) [] e = absurd cc
  fires_by_jobs (t ∷ ts) (x ∷ xs) e =
      let one : t.job ≡ x.message = cc in
      let rest : jobs_of ts ≡ map (λ (y : Stamped (GatherJob N)). y.message) xs = cc in
      let f = λ (y : Stamped (GatherJob N)). fires_at (gather_head y.message).id in
      sum_by-cons fires_of t ts
      ∙ (ap (λ (job : GatherJob N). fires_at (gather_head job).id + sum_by fires_of ts) one
      ∙ (ap (λ (k : ℕ). fires_at (gather_head x.message).id + k) (fires_by_jobs ts xs rest) ∙ sym (sum_by-cons f x xs)))

  scoring_fires_none : (job : GatherJob N) → IsScoringJob job → fires_at (gather_head job).id ≡ 0
  scoring_fires_none (gather.Task fire) is = absurd is
  scoring_fires_none (gather.Score scoring) is = ap (λ (b : Bool). if b then 1 else 0) (none_below scoring.place)

  one_scoring : (scoring : ScoreCall) → All (IsScoringJob {N = N}) (gather.Score scoring ∷ [])
  one_scoring scoring = All-cons IsScoringJob (gather.Score scoring) [] tt (All-nil IsScoringJob)

  with_scoring : (a : AgendaSeen (GatherJob N)) (scoring : ScoreCall) → HoldsScorings a → HoldsScorings (with_in_loop a (gather.Score scoring))
  with_scoring a scoring h = record {
    before = h.before;
    timers = h.timers;
    loops = either_all IsScoringJob a.in_loop a.loops (a.loops ++ gather.Score scoring ∷ []) h.loops (All-append IsScoringJob a.loops (gather.Score scoring ∷ []) h.loops (one_scoring scoring));
    later = either_all IsScoringJob a.in_loop (a.later ++ gather.Score scoring ∷ []) a.later (All-append IsScoringJob a.later (gather.Score scoring ∷ []) h.later (one_scoring scoring)) h.later;
  }

  scheduled : (a b : AgendaSeen (GatherJob N)) → HoldsScorings a → Schedules a b → HoldsScorings b
  scheduled a b h (inl same) = subst (λ (x : AgendaSeen (GatherJob N)). HoldsScorings x) (sym same) h
  scheduled a b h (inr some) = subst (λ (x : AgendaSeen (GatherJob N)). HoldsScorings x) (sym some.1) (with_scoring a some.0 h)

  settle_keeps : (a : AgendaSeen (GatherJob N)) → HoldsScorings a → HoldsScorings (settled a)
  settle_keeps a h = record { before = h.before; timers = h.timers; loops = All-append IsScoringJob a.loops a.later h.loops h.later; later = All-nil IsScoringJob }

  phase_keeps : (a : AgendaSeen (GatherJob N)) → HoldsScorings a → HoldsScorings (in_phase a)
  phase_keeps a h = record { before = h.before; timers = h.timers; loops = h.loops; later = h.later }

  messages_fire : (p q : Place (GatheringSeen N) (GatherJob N)) (turns : List (Turn (GatherJob N))) → HoldsScorings p.1 → TurnsThrough LeavesAgenda gather_head Runs p turns q
      → HoldsScorings q.1 × FiresBy (sum_by fires_of turns) p.0 q.0
  messages_fire p q [] h all = (
    subst (λ (u : Place (GatheringSeen N) (GatherJob N)). HoldsScorings u.1) all h,
    subst (λ (u : Place (GatheringSeen N) (GatherJob N)). FiresBy 0 p.0 u.0) all (fires_none p.0),
  )
  messages_fire p q (t ∷ ts) h all =
      let ran = all.1.ran in
      let between : HoldsScorings all.1.between = subst (λ (a : AgendaSeen (GatherJob N)). HoldsScorings a) (sym all.1.stepped) h in
      let first : FiresBy (fires_of t) p.0 all.0.0 = record { forwards = ran.forwards; posts = ran.posts; by = ran.by } in
      let rest = messages_fire all.0 q ts (scheduled all.1.between all.0.1 between ran.agenda) all.2 in
      (rest.0, subst (λ (k : ℕ). FiresBy k p.0 q.0) (sym (sum_by-cons fires_of t ts)) (fires_join (fires_of t) (sum_by fires_of ts) p.0 all.0.0 q.0 first rest.1))

  loops_fire : (p q : Place (GatheringSeen N) (GatherJob N)) (turns : List (Turn (GatherJob N))) → HoldsScorings p.1 → TurnsThrough TakesLoop gather_head Runs p turns q
      → HoldsScorings q.1 × FiresBy 0 p.0 q.0 × Keeps 0 0 p q
  loops_fire p q [] h all = (
    subst (λ (u : Place (GatheringSeen N) (GatherJob N)). HoldsScorings u.1) all h,
    subst (λ (u : Place (GatheringSeen N) (GatherJob N)). FiresBy 0 p.0 u.0) all (fires_none p.0),
    keeps_none p q all,
  )
  loops_fire p q (t ∷ ts) h all =
      let ran = all.1.ran in
      let b = all.1.between in
      let taken : HoldsScorings (record b { loops = t.job ∷ b.loops }) = subst (λ (a : AgendaSeen (GatherJob N)). HoldsScorings a) all.1.stepped h in
      let between : HoldsScorings b = record { before = taken.before; timers = taken.timers; loops = All-tail IsScoringJob t.job b.loops taken.loops; later = taken.later } in
      let first : FiresBy (fires_of t) p.0 all.0.0 = record { forwards = ran.forwards; posts = ran.posts; by = ran.by } in
      let scores : fires_of t ≡ 0 = scoring_fires_none t.job (All-head IsScoringJob t.job b.loops taken.loops) in
      let none : FiresBy 0 p.0 all.0.0 = subst (λ (k : ℕ). FiresBy k p.0 all.0.0) scores first in
      let rest = loops_fire all.0 q ts (scheduled b all.0.1 between ran.agenda) all.2 in
      let keeps = rest.2 in (
        rest.0,
        fires_join 0 0 p.0 all.0.0 q.0 none rest.1,
        record {
          known = λ calm. ran.by.known (keeps.known calm);
          waits = λ calm. callback_first p.0.waiting all.0.0.waiting q.0.waiting (fires_of t) (count_of_callbacks b) (count_of_callbacks p.1) (count_of_callbacks all.0.1) (count_of_callbacks q.1)
              (taken_count p.1 b t.job all.1.stepped) scores (ran.waits (keeps.known calm)) (keeps.waits calm);
        },
      )

  round_took : (w : GatheringSeen N) (old : BaseSeen (GatherJob N)) (round : Round) (did : Phases (GatherJob N)) (v : GatheringSeen N) (new : BaseSeen (GatherJob N))
      → HoldsScorings old.agenda → IsWholeRound gather_head Runs 0 w old round did v new → TookIn w old v new
  round_took w old round did v new h whole =
      let up = whole.up_to_ticks in
      let a = settled old.agenda in
      let before : TurnsThrough TakesBefore gather_head Runs (w, a) [] up.after_before =
      subst (λ (ts : List (Turn (GatherJob N))). TurnsThrough TakesBefore gather_head Runs (w, a) ts up.after_before) (no_turns did.before (up.before.jobs ∙ h.before)) up.before.ran.through in
      let ticks : TicksThrough gather_head Runs up.after_messages [] whole.after_ticks =
      subst (λ (ts : List (List (Turn (GatherJob N)))). TicksThrough gather_head Runs up.after_messages ts whole.after_ticks) (nil_from_length did.ticks whole.each_tick) up.ticks.through in
      let begun : HoldsScorings up.after_before.1 = subst (λ (u : Place (GatheringSeen N) (GatherJob N)). HoldsScorings u.1) before (settle_keeps old.agenda h) in
      let messages = messages_fire up.after_before up.after_messages did.messages begun up.messages.ran.through in
      let from : FiresBy (sum_by fires_of did.messages) w up.after_messages.0 =
      subst (λ (u : Place (GatheringSeen N) (GatherJob N)). FiresBy (sum_by fires_of did.messages) u.0 up.after_messages.0) (sym before) messages.1 in
      let counted : FiresBy (fires_among did.took) w up.after_messages.0 =
      subst (λ (k : ℕ). FiresBy k w up.after_messages.0) (fires_by_jobs did.messages did.took up.messages.each) from in
      let ticked : HoldsScorings whole.after_ticks.1 × FiresBy (fires_among did.took) w whole.after_ticks.0 =
      subst (λ (u : Place (GatheringSeen N) (GatherJob N)). HoldsScorings u.1 × FiresBy (fires_among did.took) w u.0) ticks (messages.0, counted) in
      let loops = loops_fire (whole.after_ticks.0, in_phase whole.after_ticks.1) (v, whole.loops.end) did.loops (phase_keeps whole.after_ticks.1 ticked.0) whole.loops.ran.through in
      let n = fires_among did.took in
      let same : n + 0 ≡ n = omega arith in
      let all : FiresBy n w v = subst (λ (k : ℕ). FiresBy k w v) same (fires_join n 0 w whole.after_ticks.0 v ticked.1 loops.1) in
      let kept : Keeps (sum_by fires_of did.messages) (length did.messages) (w, a) whole.after_ticks =
      subst (λ (u : Place (GatheringSeen N) (GatherJob N)). Keeps (sum_by fires_of did.messages) (length did.messages) u whole.after_ticks) (sym before)
      (subst (λ (u : Place (GatheringSeen N) (GatherJob N)). Keeps (sum_by fires_of did.messages) (length did.messages) up.after_before u) ticks (messages_keep up.after_before up.after_messages did.messages up.messages.ran.through)) in
      let long : length did.messages ≡ length did.took =
      sym (length-map did.messages (λ (t : Turn (GatherJob N)). t.job)) ∙ (ap length up.messages.each ∙ length-map did.took (λ (x : Stamped (GatherJob N)). x.message)) in
      let ended : count_of_callbacks new.agenda ≡ count_of_callbacks whole.loops.end = ap count_of_callbacks whole.loops.ended ∙ settled_count whole.loops.end in record {
        took = did.took;
        taken = whole.took.taken;
        forwards = all.forwards;
        posts = all.posts;
        by = all.by;
        waits = λ calm. round_counts w.waiting whole.after_ticks.0.waiting v.waiting (sum_by fires_of did.messages) (length did.messages) (fires_among did.took) (length did.took)
            (count_of_callbacks a) (count_of_callbacks whole.after_ticks.1) (count_of_callbacks whole.loops.end) (count_of_callbacks old.agenda) (count_of_callbacks new.agenda)
            (fires_by_jobs did.messages did.took up.messages.each) long (settled_count old.agenda) ended (kept.waits (loops.2.known calm)) (loops.2.waits calm);
        holds = subst (λ (x : AgendaSeen (GatherJob N)). HoldsScorings x) (sym whole.loops.ended) (settle_keeps whole.loops.end loops.0);
      }

  pub took_none : (w : GatheringSeen N) (old : BaseSeen (GatherJob N)) → HoldsScorings old.agenda → TookIn w old w old
  took_none w old h = record { took = []; taken = sym (append-nil old.queue.taken); forwards = 0; posts = []; by = nothing w; waits = λ calm. refl; holds = h }

  pub took_more : (w m v : GatheringSeen N) (old between new : BaseSeen (GatherJob N)) → TookIn w old m between → TookIn m between v new → TookIn w old v new
  took_more w m v old between new first second =
      let f = λ (x : Stamped (GatherJob N)). fires_at (gather_head x.message).id in
      let both = join (fires_among first.took) first.forwards (fires_among second.took) second.forwards first.posts second.posts w m v first.by second.by in record {
        took = first.took ++ second.took;
        taken = second.taken ∙ (ap (λ (l : List (Stamped (GatherJob N))). l ++ second.took) first.taken ∙ append_assoc old.queue.taken first.took second.took);
        forwards = first.forwards + second.forwards;
        posts = first.posts ++ second.posts;
        by = subst (λ (k : ℕ). GathersBy k (first.forwards + second.forwards) (first.posts ++ second.posts) w v) (sym (sum_by-append f first.took second.took)) both;
        waits = λ calm. more_counts w.waiting m.waiting v.waiting (fires_among first.took) (fires_among second.took) (fires_among (first.took ++ second.took))
            (length first.took) (length second.took) (length (first.took ++ second.took)) (count_of_callbacks old.agenda) (count_of_callbacks between.agenda) (count_of_callbacks new.agenda)
            (sum_by-append f first.took second.took) (length-append first.took second.took) (first.waits (second.by.known calm)) (second.waits calm);
        holds = second.holds;
      }

  -- the same of a base that looks as the first one, and of one that looks as the last one
  took_from : (w v : GatheringSeen N) (old looked new : BaseSeen (GatherJob N)) → looked.queue.taken ≡ old.queue.taken → looked.agenda ≡ old.agenda → TookIn w looked v new → TookIn w old v new
  took_from w v old looked new same agenda t = record {
    took = t.took;
    taken = t.taken ∙ ap (λ (l : List (Stamped (GatherJob N))). l ++ t.took) same;
    forwards = t.forwards;
    posts = t.posts;
    by = t.by;
    waits = λ calm. ap (λ (a : AgendaSeen (GatherJob N)). v.waiting + (length t.took + count_of_callbacks a)) (sym agenda) ∙ t.waits calm;
    holds = t.holds;
  }

  took_to : (w v : GatheringSeen N) (old last new : BaseSeen (GatherJob N)) → new.queue.taken ≡ last.queue.taken → HoldsScorings new.agenda
      → count_of_callbacks new.agenda ≡ count_of_callbacks last.agenda → TookIn w old v last → TookIn w old v new
  took_to w v old last new same h held t = record {
    took = t.took;
    taken = same ∙ t.taken;
    forwards = t.forwards;
    posts = t.posts;
    by = t.by;
    waits = λ calm. t.waits calm ∙ ap (λ (k : ℕ). w.waiting + (fires_among t.took + k)) (sym held);
    holds = h;
  }

  behind_look : (w : GatheringSeen N) (old : BaseSeen (GatherJob N)) (did : Phases (GatherJob N)) (v : GatheringSeen N) (new : BaseSeen (GatherJob N)) → HoldsScorings old.agenda
      → IsRoundBehindLook gather_head Runs w old did v new → TookIn w old v new
  behind_look w old did v new h one =
      let same : HoldsScorings one.looked.agenda = subst (λ (a : AgendaSeen (GatherJob N)). HoldsScorings a) (sym one.looks.agenda) h in
      took_from w v old one.looked new one.looks.same.2 one.looks.agenda (round_took w one.looked one.round did v new same one.whole)

  rounds_took : (w : GatheringSeen N) (old : BaseSeen (GatherJob N)) (list : List (Phases (GatherJob N))) (v : GatheringSeen N) (new : BaseSeen (GatherJob N)) → HoldsScorings old.agenda
      → RoundsThrough gather_head Runs w old list v new → TookIn w old v new
  rounds_took w old [] v new h all =
      subst (λ (u : GatheringSeen N). TookIn w old u new) (sym all.0) (subst (λ (b : BaseSeen (GatherJob N)). TookIn w old w b) (sym all.1) (took_none w old h))
  rounds_took w old (did ∷ more) v new h all =
      let first = behind_look w old did all.0 all.1 h all.2 in
      took_more w all.0 v old all.1 new first (rounds_took all.0 all.1 more v new first.holds all.4)

  ended : (why : Why) (w v : GatheringSeen N) (old last new : BaseSeen (GatherJob N)) → EndsFor why last new → TookIn w old v last → TookIn w old v new
  ended Closed w v old last new ends t = subst (λ (b : BaseSeen (GatherJob N)). TookIn w old v b) (sym ends.1) t
  ended Terminated w v old last new ends t =
      let h = t.holds in
      let off : HoldsScorings (record last.agenda { terminating = false }) = record { before = h.before; timers = h.timers; loops = h.loops; later = h.later } in
      subst (λ (b : BaseSeen (GatherJob N)). TookIn w old v b) (sym ends.1) (took_to w v old last (record last { agenda = record last.agenda { terminating = false } }) refl off refl t)

  pub loop_took : (rounds : ℕ) (why : Why) (w : GatheringSeen N) (old : BaseSeen (GatherJob N)) (v : GatheringSeen N) (new : BaseSeen (GatherJob N)) → HoldsScorings old.agenda
      → IsLoop gather_head Runs rounds why w old v new → TookIn w old v new
  loop_took rounds why w old v new h all =
      let first = rounds_took w old all.earlier all.m all.before_last h all.ran.through in
      let second = behind_look all.m all.before_last all.did v all.last first.holds all.last_round in
      ended why w v old all.last new all.ends (took_more w all.m v old all.before_last all.last first second)

  pub cut_loop_took : (fault : RoundMemory) (w : GatheringSeen N) (old : BaseSeen (GatherJob N)) (v : GatheringSeen N) (new : BaseSeen (GatherJob N)) → HoldsScorings old.agenda
      → IsCutLoop gather_head Runs fault w old v new → TookIn w old v new
  cut_loop_took fault w old v new h all =
      let first = rounds_took w old all.earlier v all.before_last h all.ran.through in
      let looked : HoldsScorings all.looked.agenda = subst (λ (a : AgendaSeen (GatherJob N)). HoldsScorings a) (sym all.looks.agenda) first.holds in
      subst (λ (b : BaseSeen (GatherJob N)). TookIn w old v b) (sym all.not_begun.base) (took_to w v old all.before_last all.looked all.looks.same.2 looked (ap count_of_callbacks all.looks.agenda) first)
