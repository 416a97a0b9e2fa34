-- The turns of a round as runs that lead from place to place.
use Rattle.std.proofs.Common.{◌≡◌, ℕ, inl, inr, List, [], ◌∷◌, ◌++◌, refl, sym, subst, ap, ◌∙◌}
use Rattle.std.specs.List.{flat_map}
use Rattle.fan_base.specs.declared.number.JobId.{JobId}
use Rattle.fan_base.specs.declared.number.Mark.{Mark}
use Rattle.job_trait.specs.declared.job.Head.{Head}
use Rattle.job_trait.specs.Runs.{Ran}
use Rattle.event_base.specs.declared.round.Round.{Round}
use Rattle.event_base.specs.Seen.{AgendaSeen, BaseSeen, settled}
use Rattle.event_base.specs.Turns.{Turn, Place, LeavesAgenda, TakesBefore, TakesLoop, TurnsThrough}
use Rattle.event_base.specs.Rounds.{Phases, in_phase, ticked, TicksThrough, IsWholeRound}
use Rattle.event_base.specs.Laws.{BaseStep, ticks, begins, settles, after_step, after_steps, IsBasePart, TakesJob, RunsBehind, ran_of, ran_in, LeadsUpTo}

module _ {J : Type 0} where
  part_same : (a : AgendaSeen J) → IsBasePart a a
  part_same a = record { steps = []; after = refl }

  part_one : (step : BaseStep) (a b : AgendaSeen J) → b ≡ after_step step a → IsBasePart a b
  part_one step a b e = record { steps = step ∷ []; after = e }

  steps_join : (a : AgendaSeen J) (xs ys : List BaseStep) → after_steps (after_steps a xs) ys ≡ after_steps a (xs ++ ys)
  steps_join a [] ys = refl
  steps_join a (x ∷ xs) ys = steps_join (after_step x a) xs ys

  part_join : (a b c : AgendaSeen J) → IsBasePart a b → IsBasePart b c → IsBasePart a c
  part_join a b c first second = record {
    steps = first.steps ++ second.steps;
    after = second.after ∙ ap (λ (m : AgendaSeen J). after_steps m second.steps) first.after ∙ steps_join a first.steps second.steps;
  }

module _ {W J : Type 0} (head : J → Head) (runs : JobId → Place W J → Mark → Place W J → Type 0) where
  upto_none : (w : W) (a b : AgendaSeen J) → IsBasePart a b → LeadsUpTo head runs (w, a) [] (w, b)
  upto_none w a b part = record { end = a; leads = record { through = refl }; part = part }

  -- one run and then others
  upto_more : (p m q : Place W J) (id : JobId) (mark : Mark) (list : List Ran) → RunsBehind head runs id p mark m → LeadsUpTo head runs m list q → LeadsUpTo head runs p ((id, mark) ∷ list) q
  upto_more p m q id mark list ran rest =
      record { end = rest.end; leads = record { through = (m, ran, rest.leads.through) }; part = rest.part }

  -- a run behind a part more
  run_behind : (w : W) (a b : AgendaSeen J) (id : JobId) (mark : Mark) (q : Place W J) → IsBasePart a b → RunsBehind head runs id (w, b) mark q → RunsBehind head runs id (w, a) mark q
  run_behind w a b id mark q part ran = record {
    job = ran.job;
    is_job = ran.is_job;
    ready = ran.ready;
    between = ran.between;
    part = part_join a b ran.ready part ran.part;
    taken = ran.taken;
    ran = ran.ran;
  }

  -- runs behind the base's own part
  upto_behind : (w : W) (a b : AgendaSeen J) (list : List Ran) (q : Place W J) → IsBasePart a b → LeadsUpTo head runs (w, b) list q → LeadsUpTo head runs (w, a) list q
  upto_behind w a b [] q part rest =
      let same = ap (λ (u : Place W J). u.0) rest.leads.through in
      let ends = ap (λ (u : Place W J). u.1) rest.leads.through in
      record {
        end = a;
        leads = record { through = ap (λ (u : W). (u, a)) same };
        part = part_join a b q.1 part (subst (λ (x : AgendaSeen J). IsBasePart x q.1) (sym ends) rest.part);
      }
  upto_behind w a b (x ∷ xs) q part rest =
      let all = rest.leads.through in
      record {
        end = rest.end;
        leads = record { through = (all.0, run_behind w a b x.0 x.1 all.0 part all.1, all.2) };
        part = rest.part;
      }

  upto-append : (p m q : Place W J) (xs ys : List Ran) → LeadsUpTo head runs p xs m → LeadsUpTo head runs m ys q → LeadsUpTo head runs p (xs ++ ys) q
  upto-append p m q [] ys first second =
      let same = ap (λ (u : Place W J). u.0) first.leads.through in
      let ends = ap (λ (u : Place W J). u.1) first.leads.through in
      upto_behind p.0 p.1 m.1 ys q (subst (λ (x : AgendaSeen J). IsBasePart x m.1) (sym ends) first.part) (subst (λ (u : W). LeadsUpTo head runs (u, m.1) ys q) (sym same) second)
  upto-append p m q (x ∷ xs) ys first second =
      let all = first.leads.through in
      upto_more p all.0 q x.0 x.1 (xs ++ ys) all.1 (upto-append all.0 m q xs ys (record { end = first.end; leads = record { through = all.2 }; part = first.part }) second)

module _ {W J : Type 0} (step : J → AgendaSeen J → AgendaSeen J → Type 0) (head : J → Head) (runs : JobId → Place W J → Mark → Place W J → Type 0) where
  turns_lead : ((job : J) (a b : AgendaSeen J) → step job a b → TakesJob job a b) → (p q : Place W J) (turns : List (Turn J)) → TurnsThrough step head runs p turns q → LeadsUpTo head runs p (ran_of head turns) q
  turns_lead takes p q [] all = subst (λ (u : Place W J). LeadsUpTo head runs p [] u) all (upto_none head runs p.0 p.1 p.1 (part_same p.1))
  turns_lead takes p q (turn ∷ turns) all =
      let ran : RunsBehind head runs (head turn.job).id p turn.mark all.0 = record {
        job = turn.job;
        is_job = refl;
        ready = p.1;
        between = all.1.between;
        part = part_same p.1;
        taken = takes turn.job p.1 all.1.between all.1.stepped;
        ran = all.1.ran;
      } in
      upto_more head runs p all.0 q (head turn.job).id turn.mark (ran_of head turns) ran (turns_lead takes all.0 q turns all.2)

module _ {W J : Type 0} (head : J → Head) (runs : JobId → Place W J → Mark → Place W J → Type 0) where
  ticks_lead : (p q : Place W J) (made : List (List (Turn J))) → TicksThrough head runs p made q → LeadsUpTo head runs p (flat_map (ran_of head) made) q
  ticks_lead p q [] all = subst (λ (u : Place W J). LeadsUpTo head runs p [] u) all (upto_none head runs p.0 p.1 p.1 (part_same p.1))
  ticks_lead p q (turns ∷ more) all =
      let one = turns_lead LeavesAgenda head runs (λ job a b h. inl h) (p.0, ticked p.1) all.0 turns all.1.ran.through in
      let behind = upto_behind head runs p.0 p.1 (ticked p.1) (ran_of head turns) all.0 (part_one ticks p.1 (ticked p.1) refl) one in
      upto-append head runs p all.0 q (ran_of head turns) (flat_map (ran_of head) more) behind (ticks_lead all.0 q more all.2)

  pub round_leads : (count : ℕ) (w : W) (old : BaseSeen J) (round : Round) (did : Phases J) (v : W) (new : BaseSeen J) → IsWholeRound head runs count w old round did v new
      → LeadsUpTo head runs (w, old.agenda) (ran_in head did) (v, new.agenda)
  round_leads count w old round did v new whole =
      let up = whole.up_to_ticks in
      let a = whole.after_ticks in
      let loops = whole.loops in
      let begun = turns_lead TakesBefore head runs (λ job a b h. inr (inl h)) (w, settled old.agenda) up.after_before did.before up.before.ran.through in
      let before = upto_behind head runs w old.agenda (settled old.agenda) (ran_of head did.before) up.after_before (part_one settles old.agenda (settled old.agenda) refl) begun in
      let messages = turns_lead LeavesAgenda head runs (λ job a b h. inl h) up.after_before up.after_messages did.messages up.messages.ran.through in
      let timers = ticks_lead up.after_messages a did.ticks up.ticks.through in
      let ran = turns_lead TakesLoop head runs (λ job a b h. inr (inr h)) (a.0, in_phase a.1) (v, loops.end) did.loops loops.ran.through in
      let phase = upto_behind head runs a.0 a.1 (in_phase a.1) (ran_of head did.loops) (v, loops.end) (part_one begins a.1 (in_phase a.1) refl) ran in
      let last : LeadsUpTo head runs a (ran_of head did.loops) (v, new.agenda) = record { end = phase.end; leads = phase.leads; part = part_join phase.end loops.end new.agenda phase.part (part_one settles loops.end new.agenda loops.ended) } in
      upto-append head runs _ _ _ _ _ before (upto-append head runs _ _ _ _ _ messages (upto-append head runs _ _ _ _ _ timers last))
