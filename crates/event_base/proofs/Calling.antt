-- What calls on an agenda keep, and lists of them.
use Rattle.std.proofs.Common.{◌≡◌, ℕ, ◌<◌, ◌≤◌, true, List, [], ◌∷◌, ◌++◌, None, Ok, Err, Result, OnOk, IfErr, ◌↔◌, refl, sym, subst, ap, ◌∙◌, append_assoc, arith, if◌then◌else◌}
use Rattle.std.specs.List.{flat_map}
use Rattle.std.proofs.lemmas.List.{append-nil}
use Rattle.std.specs.Prelude.{OnErr}
use Rattle.job_trait.specs.declared.job.Head.{Head}
use Rattle.tick_wheel.specs.declared.timer.ScheduleFault.{ScheduleFault}
use Rattle.tick_wheel.specs.declared.timer.ScheduleFault.TheVariants.{ZeroDelay, DelayTooLong}
use Rattle.tick_wheel.specs.TimerList.{timer_at, handed_back}
use Rattle.event_base.specs.Seen.{AgendaSeen}
use Rattle.event_base.specs.Calls.{Call, with_timer, after_call, after_calls, IsAllowed, AreAllowed, Makes, IsReached}
use Rattle.event_base.specs.Turns.{for_this_phase, for_next_phase}

ok_not_err : {T E : Type 0} (r : Result T E) (x : T) (e : E) → r ≡ Ok x → r ≡ Err e → ⊥
ok_not_err r x e ok err = absurd (cc)

not_zero : (n : ℕ) → (n ≡ 0 → ⊥) → 1 ≤ n
not_zero n h = omega (arith, h)

not_long : (n : ℕ) → (4294967295 < n → ⊥) → n ≤ 4294967295
not_long n h = omega (arith, h)

module _ {J : Type 0} (head : J → Head) where
  pub reached_same : (a b : AgendaSeen J) → b ≡ a → IsReached head a b
  reached_same a b e = record { calls = []; makes = record { allowed = tt; after = e } }

  pub reached_one : (a b : AgendaSeen J) (call : Call J) → IsAllowed head a call → b ≡ after_call head a call → IsReached head a b
  reached_one a b call may e = record { calls = call ∷ []; makes = record { allowed = (may, tt); after = e } }

  -- a call that is refused changes nothing
  pub reached_if : {T E : Type 0} (P : E → Type 0) (a b : AgendaSeen J) (call : Call J) (result : Result T E) → IsAllowed head a call → OnOk result (b ≡ after_call head a call) → IfErr result (λ e. P e × (b ≡ a)) → IsReached head a b
  reached_if P a b call (Ok x) may ok err = reached_one a b call may ok
  reached_if P a b call (Err e) may ok err = reached_same a b err.1

  pub reached_or_same : {T E : Type 0} (a b : AgendaSeen J) (call : Call J) (result : Result T E) → IsAllowed head a call → OnOk result (b ≡ after_call head a call) → OnErr result (b ≡ a) → IsReached head a b
  reached_or_same a b call (Ok x) may ok err = reached_one a b call may ok
  reached_or_same a b call (Err e) may ok err = reached_same a b err

  pub reached_schedule : {T : Type 0} (a b : AgendaSeen J) (delay : ℕ) (job : J) (result : Result T (ScheduleFault J)) → (head job).exec ≡ a.exec → timer_at (head job).id.0 a.wheel.timers ≡ None
      → OnOk result (b ≡ with_timer a delay (head job).id.0 job) → (result ≡ Err (ZeroDelay job)) ↔ (delay ≡ 0) → (result ≡ Err (DelayTooLong job)) ↔ (4294967295 < delay)
      → IfErr result (λ fault. (handed_back fault ≡ job) × (b ≡ a)) → IsReached head a b
  reached_schedule a b delay job (Ok x) exec free ok zero long err =
      reached_one a b (Call.schedule delay job) (exec, not_zero delay (λ e. ok_not_err (Ok x) x (ZeroDelay job) refl (zero.1 e)), not_long delay (λ l. ok_not_err (Ok x) x (DelayTooLong job) refl (long.1 l)), free) ok
  reached_schedule a b delay job (Err e) exec free ok zero long err = reached_same a b err.1

  after_calls-append : (a : AgendaSeen J) (xs ys : List (Call J)) → after_calls head a (xs ++ ys) ≡ after_calls head (after_calls head a xs) ys
  after_calls-append a [] ys = refl
  after_calls-append a (x ∷ xs) ys = after_calls-append (after_call head a x) xs ys

  are_allowed-append : (a : AgendaSeen J) (xs ys : List (Call J)) → AreAllowed head a xs → AreAllowed head (after_calls head a xs) ys → AreAllowed head a (xs ++ ys)
  are_allowed-append a [] ys first second = second
  are_allowed-append a (x ∷ xs) ys first second = (first.0, are_allowed-append (after_call head a x) xs ys first.1 second)

  -- calls after calls
  pub reached-join : (a b c : AgendaSeen J) → IsReached head a b → IsReached head b c → IsReached head a c
  reached-join a b c first second =
      let xs = first.calls in
      let ys = second.calls in
      let at = first.makes.after in
      record {
        calls = xs ++ ys;
        makes = record {
          allowed = are_allowed-append a xs ys first.makes.allowed (subst (λ (m : AgendaSeen J). AreAllowed head m ys) at second.makes.allowed);
          after = second.makes.after ∙ ap (λ (m : AgendaSeen J). after_calls head m ys) at ∙ sym (after_calls-append a xs ys);
        };
      }

  -- each call keeps the executor and the number of ticks
  call_keeps : (a : AgendaSeen J) (call : Call J) → ((after_call head a call).exec ≡ a.exec) × ((after_call head a call).wheel.tick ≡ a.wheel.tick) × ((after_call head a call).in_loop ≡ a.in_loop)
  call_keeps a (Call.run_in_loop job) = (refl, refl, refl)
  call_keeps a (Call.run_this_iteration job) = (refl, refl, refl)
  call_keeps a (Call.run_before_loop job) = (refl, refl, refl)
  call_keeps a (Call.schedule delay job) = (refl, refl, refl)
  call_keeps a (Call.cancel_timer id) = (refl, refl, refl)
  call_keeps a Call.cancel_timers = (refl, refl, refl)
  call_keeps a Call.terminate_soon = (refl, refl, refl)

  calls_keep : (a : AgendaSeen J) (calls : List (Call J)) → ((after_calls head a calls).exec ≡ a.exec) × ((after_calls head a calls).wheel.tick ≡ a.wheel.tick) × ((after_calls head a calls).in_loop ≡ a.in_loop)
  calls_keep a [] = (refl, refl, refl)
  calls_keep a (call ∷ calls) =
      let one = call_keeps a call in
      let rest = calls_keep (after_call head a call) calls in
      (rest.0 ∙ one.0, rest.1 ∙ one.1, rest.2 ∙ one.2)

  pub makes_keep : (a : AgendaSeen J) (calls : List (Call J)) (b : AgendaSeen J) → Makes head a calls b → (b.exec ≡ a.exec) × (b.wheel.tick ≡ a.wheel.tick) × (b.in_loop ≡ a.in_loop)
  makes_keep a calls b makes =
      let all = calls_keep a calls in
      let at = makes.after in
      (ap (λ (m : AgendaSeen J). m.exec) at ∙ all.0, ap (λ (m : AgendaSeen J). m.wheel.tick) at ∙ all.1, ap (λ (m : AgendaSeen J). m.in_loop) at ∙ all.2)

  -- what was held for the beginning of a round still stands in front
  call_extends : (a : AgendaSeen J) (call : Call J) → (extra : List J) × ((after_call head a call).before ≡ a.before ++ extra)
  call_extends a (Call.run_in_loop job) = ([], sym (append-nil a.before))
  call_extends a (Call.run_this_iteration job) = ([], sym (append-nil a.before))
  call_extends a (Call.run_before_loop job) = (job ∷ [], refl)
  call_extends a (Call.schedule delay job) = ([], sym (append-nil a.before))
  call_extends a (Call.cancel_timer id) = ([], sym (append-nil a.before))
  call_extends a Call.cancel_timers = ([], sym (append-nil a.before))
  call_extends a Call.terminate_soon = ([], sym (append-nil a.before))

  calls_extend : (a : AgendaSeen J) (calls : List (Call J)) → (extra : List J) × ((after_calls head a calls).before ≡ a.before ++ extra)
  calls_extend a [] = ([], sym (append-nil a.before))
  calls_extend a (call ∷ calls) =
      let one = call_extends a call in
      let rest = calls_extend (after_call head a call) calls in
      (one.0 ++ rest.0, rest.1 ∙ ap (λ (l : List J). l ++ rest.0) one.1 ∙ append_assoc a.before one.0 rest.0)

  pub makes_extend : (a : AgendaSeen J) (calls : List (Call J)) (b : AgendaSeen J) → Makes head a calls b → (extra : List J) × (b.before ≡ a.before ++ extra)
  makes_extend a calls b makes =
      let all = calls_extend a calls in
      (all.0, ap (λ (m : AgendaSeen J). m.before) makes.after ∙ all.1)

  -- in a loop phase: what is added to it, and what stands behind
  call_adds : (a : AgendaSeen J) (call : Call J) → a.in_loop ≡ true
      → ((after_call head a call).loops ≡ a.loops ++ for_this_phase call) × ((after_call head a call).later ≡ a.later ++ for_next_phase call)
  call_adds a (Call.run_in_loop job) on = (
    ap (λ b. if b then a.loops else a.loops ++ job ∷ []) on ∙ sym (append-nil a.loops),
    ap (λ b. if b then a.later ++ job ∷ [] else a.later) on,
  )
  call_adds a (Call.run_this_iteration job) on = (refl, sym (append-nil a.later))
  call_adds a (Call.run_before_loop job) on = (sym (append-nil a.loops), sym (append-nil a.later))
  call_adds a (Call.schedule delay job) on = (sym (append-nil a.loops), sym (append-nil a.later))
  call_adds a (Call.cancel_timer id) on = (sym (append-nil a.loops), sym (append-nil a.later))
  call_adds a Call.cancel_timers on = (sym (append-nil a.loops), sym (append-nil a.later))
  call_adds a Call.terminate_soon on = (sym (append-nil a.loops), sym (append-nil a.later))

  calls_add : (a : AgendaSeen J) (calls : List (Call J)) → a.in_loop ≡ true
      → ((after_calls head a calls).loops ≡ a.loops ++ flat_map for_this_phase calls) × ((after_calls head a calls).later ≡ a.later ++ flat_map for_next_phase calls)
  calls_add a [] on = (sym (append-nil a.loops), sym (append-nil a.later))
  calls_add a (call ∷ calls) on =
      let one = call_adds a call on in
      let rest = calls_add (after_call head a call) calls ((call_keeps a call).2 ∙ on) in (
        rest.0 ∙ ap (λ (l : List J). l ++ flat_map for_this_phase calls) one.0 ∙ append_assoc a.loops (for_this_phase call) (flat_map for_this_phase calls),
        rest.1 ∙ ap (λ (l : List J). l ++ flat_map for_next_phase calls) one.1 ∙ append_assoc a.later (for_next_phase call) (flat_map for_next_phase calls),
      )

  pub makes_add : (a : AgendaSeen J) (calls : List (Call J)) (b : AgendaSeen J) → Makes head a calls b → a.in_loop ≡ true
      → (b.loops ≡ a.loops ++ flat_map for_this_phase calls) × (b.later ≡ a.later ++ flat_map for_next_phase calls)
  makes_add a calls b makes on =
      let all = calls_add a calls on in
      (ap (λ (m : AgendaSeen J). m.loops) makes.after ∙ all.0, ap (λ (m : AgendaSeen J). m.later) makes.after ∙ all.1)
