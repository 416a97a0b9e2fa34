-- How steps of a gathering base add up.
use Rattle.std.proofs.Common.{◌≡◌, ℕ, zero, suc, ◌+◌, true, false, List, [], ◌∷◌, ◌++◌, length, refl, sym, ap, ◌∙◌, subst, arith}
use Rattle.std.proofs.lemmas.List.{append-nil, append_assoc, length-append}
use Rattle.std.proofs.lemmas.List.Elements.{All-append, All-cons, All-nil}
use Rattle.core_word.specs.Count.{Counts, raised}
use Rattle.event_base.specs.Looping.{count_of_callbacks}
use Rattle.event_base.specs.Seen.{AgendaSeen}
use Rattle.fan_parts.specs.declared.jobs.GatherJob.{GatherJob}
use Rattle.fan_parts.specs.declared.jobs.PrintJob.{PrintJob}
use Rattle.fan_parts.specs.Seen.{PlacedSeen, PosterSeen}
use Rattle.fan_base.specs.declared.outcome.Try.{Try}
use Rattle.notify_queue.specs.Ends.{with_put}
use Rattle.run_gathering.specs.Seen.{GatheringSeen}
use Rattle.run_gathering.specs.Gathering.{raised_times, counted, FiredWith, GathersBy, HasAnswer, HoldsFor, PutsFire}

raised_join : (a b n : ℕ) → raised_times a (raised_times b n) ≡ raised_times (a + b) n
raised_join zero b n = let e : b ≡ 0 + b = omega arith in ap (λ (k : ℕ). raised_times k n) e
raised_join (suc a) b n = let e : suc (a + b) ≡ suc a + b = omega arith in ap raised (raised_join a b n) ∙ ap (λ (k : ℕ). raised_times k n) e

raised_later : (a b n : ℕ) → raised_times a (raised_times b n) ≡ raised_times (b + a) n
raised_later a b n = let e : a + b ≡ b + a = omega arith in raised_join a b n ∙ ap (λ (k : ℕ). raised_times k n) e

raised_both : (p w p' w' n : ℕ) → raised_times (p + w) (raised_times (p' + w') n) ≡ raised_times ((p' + p) + (w' + w)) n
raised_both p w p' w' n = let e : (p + w) + (p' + w') ≡ (p' + p) + (w' + w) = omega arith in raised_join (p + w) (p' + w') n ∙ ap (λ (k : ℕ). raised_times k n) e

counts_join : (f w p f' w' p' : ℕ) (c : Counts) → counted f w p (counted f' w' p' c) ≡ counted (f' + f) (w' + w) (p' + p) c
counts_join f w p f' w' p' c = λ i. record {
  made = raised_later w w' c.made i;
  handed = raised_later f f' c.handed i;
  forwarded = raised_later w w' c.forwarded i;
  freed = raised_both p w p' w' c.freed i;
  reopened = c.reopened;
}

module _ {N : Type 0} where
  pub nothing : (w : GatheringSeen N) → GathersBy 0 0 [] w w
  nothing w = record { sent = sym (append-nil w.printer.sender.sent); same = (refl, refl, refl); known = λ e. e; tally = λ e. refl; answers = λ e. All-nil HasAnswer }

  -- nothing but the scorings was changed by a world that is seen as `now`
  pub kept : (inside now : GatheringSeen N) (waiting : ℕ) → inside ≡ now → GathersBy 0 0 [] now (record inside { waiting = waiting })
  kept inside now waiting is =
      let same : GathersBy 0 0 [] inside (record inside { waiting = waiting }) = record { sent = sym (append-nil inside.printer.sender.sent); same = (refl, refl, refl); known = λ e. e; tally = λ e. refl; answers = λ e. All-nil HasAnswer } in
      subst (λ (a : GatheringSeen N). GathersBy 0 0 [] a (record inside { waiting = waiting })) is same

  -- one step behind another
  pub join : (f w f' w' : ℕ) (ps ps' : List (PrintJob N)) (a b c : GatheringSeen N) → GathersBy f w ps a b → GathersBy f' w' ps' b c → GathersBy (f + f') (w + w') (ps ++ ps') a c
  join f w f' w' ps ps' a b c first second = record {
    sent = second.sent ∙ (ap (λ (l : List (PrintJob N)). l ++ ps') first.sent ∙ append_assoc a.printer.sender.sent ps ps');
    same = (second.same.0 ∙ first.same.0, second.same.1 ∙ first.same.1, second.same.2 ∙ first.same.2);
    known = λ e. first.known (second.known e);
    tally = λ e. second.tally e ∙ (ap (counted f' w' (length ps')) (first.tally (second.known e))
        ∙ (counts_join f' w' (length ps') f w (length ps) a.tally
        ∙ ap (λ (k : ℕ). counted (f + f') (w + w') k a.tally) (sym (length-append ps ps'))));
    answers = λ e. All-append HasAnswer ps ps' (first.answers (second.known e)) (second.answers e);
  }

  -- only the tally changed
  pub tallied : (f w : ℕ) (a : GatheringSeen N) → GathersBy f w [] a (record a { tally = counted f w 0 a.tally })
  tallied f w a = record { sent = sym (append-nil a.printer.sender.sent); same = (refl, refl, refl); known = λ e. e; tally = λ e. refl; answers = λ e. All-nil HasAnswer }

  -- memory was refused
  pub refusing : (f w : ℕ) (a : GatheringSeen N) (t : Counts) → GathersBy f w [] a (record a { tally = t; refused = true })
  refusing f w a t = record { sent = sym (append-nil a.printer.sender.sent); same = (refl, refl, refl); known = λ e. absurd cc; tally = λ e. absurd cc; answers = λ e. absurd cc }

  -- a core was freed, and its fire posted
  pub posting : (a : GatheringSeen N) (job : PrintJob N) → (a.refused ≡ false → HasAnswer job) → GathersBy 0 0 (job ∷ []) a (record {
    printer = record { sender = with_put a.printer.sender job; exec = a.printer.exec };
    tally = record a.tally { freed = raised a.tally.freed };
    refused = a.refused;
    waiting = a.waiting;
  })
  posting a job answer = record { sent = refl; same = (refl, refl, refl); known = λ e. e; tally = λ e. refl; answers = λ e. All-cons HasAnswer job [] (answer e) (All-nil HasAnswer) }

  -- a fire was posted by a world that is seen as `now`
  pub posted : (inside now : GatheringSeen N) (printer : PosterSeen (PrintJob N)) (t : Counts) (job : PrintJob N) → inside ≡ now
      → printer ≡ record { sender = with_put inside.printer.sender job; exec = inside.printer.exec }
      → t ≡ record inside.tally { freed = raised inside.tally.freed }
      → (now.refused ≡ false → HasAnswer job)
      → (posts : List (PrintJob N)) × GathersBy 0 0 posts now (record { printer = printer; tally = t; refused = inside.refused; waiting = inside.waiting })
      × (inside.refused ≡ false → length posts ≡ 1)
  posted inside now printer t job is put freed answer = (
    job ∷ [],
    subst (λ (a : GatheringSeen N). GathersBy 0 0 (job ∷ []) a (record { printer = printer; tally = t; refused = inside.refused; waiting = inside.waiting })) is
        (subst (λ (q : PosterSeen (PrintJob N)). GathersBy 0 0 (job ∷ []) inside (record { printer = q; tally = t; refused = inside.refused; waiting = inside.waiting })) (sym put)
        (subst (λ (u : Counts). GathersBy 0 0 (job ∷ []) inside (record { printer = record { sender = with_put inside.printer.sender job; exec = inside.printer.exec }; tally = u; refused = inside.refused; waiting = inside.waiting })) (sym freed) (posting inside job (λ e. answer (ap (λ (a : GatheringSeen N). a.refused) (sym is) ∙ e))))),
    λ calm. refl,
  )

  -- the fire that a world put that is seen as `now`
  pub put_fire : (inside now : GatheringSeen N) (printer : PosterSeen (PrintJob N)) (t : Counts) (job : PrintJob N) (outcome : Try PlacedSeen) → inside ≡ now
      → printer ≡ record { sender = with_put inside.printer.sender job; exec = inside.printer.exec } → FiredWith outcome job
      → PutsFire outcome now (record { printer = printer; tally = t; refused = inside.refused; waiting = inside.waiting })
  put_fire inside now printer t job outcome is put fired =
      let whole : PutsFire outcome inside (record { printer = printer; tally = t; refused = inside.refused; waiting = inside.waiting }) =
      record { job = job; sent = ap (λ (q : PosterSeen (PrintJob N)). q.sender.sent) put; fired = fired } in
      subst (λ (a : GatheringSeen N). PutsFire outcome a (record { printer = printer; tally = t; refused = inside.refused; waiting = inside.waiting })) is whole

  -- its post was refused
  pub unposted : (inside now : GatheringSeen N) (printer : PosterSeen (PrintJob N)) (t : Counts) → inside ≡ now → printer ≡ inside.printer
      → (posts : List (PrintJob N)) × GathersBy 0 0 posts now (record { printer = printer; tally = t; refused = true; waiting = inside.waiting })
      × (true ≡ false → length posts ≡ 1)
  unposted inside now printer t is same = (
    [],
    subst (λ (a : GatheringSeen N). GathersBy 0 0 [] a (record { printer = printer; tally = t; refused = true; waiting = inside.waiting })) is
        (subst (λ (q : PosterSeen (PrintJob N)). GathersBy 0 0 [] inside (record { printer = q; tally = t; refused = true; waiting = inside.waiting })) (sym same) (refusing 0 0 inside t)),
    λ calm. absurd cc,
  )

  -- a fire of a task was unpacked, and nothing was scheduled
  pub fired : (inside now : GatheringSeen N) (t : Counts) (a : AgendaSeen (GatherJob N)) → inside ≡ now → t ≡ record inside.tally { handed = raised inside.tally.handed }
      → (forwards : ℕ) × (posts : List (PrintJob N)) × GathersBy 1 forwards posts now (record { printer = inside.printer; tally = t; refused = inside.refused; waiting = inside.waiting })
      × HoldsFor forwards posts (now, a) (record { printer = inside.printer; tally = t; refused = inside.refused; waiting = inside.waiting }, a)
  fired inside now t a is handed = (
    0,
    [],
    subst (λ (a : GatheringSeen N). GathersBy 1 0 [] a (record { printer = inside.printer; tally = t; refused = inside.refused; waiting = inside.waiting })) is
        (subst (λ (u : Counts). GathersBy 1 0 [] inside (record { printer = inside.printer; tally = u; refused = inside.refused; waiting = inside.waiting })) (sym handed) (tallied 1 0 inside)),
    λ calm. (omega arith, omega arith),
  )

  -- a reply's core was forwarded, nothing was posted then, and a callback more is held
  pub forwarded : (inside now next : GatheringSeen N) (t : Counts) (a b : AgendaSeen (GatherJob N)) → inside ≡ now
      → t ≡ record inside.tally { made = raised inside.tally.made; forwarded = raised inside.tally.forwarded; freed = raised inside.tally.freed }
      → GathersBy 0 0 [] (record { printer = inside.printer; tally = t; refused = inside.refused; waiting = inside.waiting }) next
      → (next.refused ≡ false → count_of_callbacks b ≡ count_of_callbacks a + 1)
      → (forwards : ℕ) × (posts : List (PrintJob N)) × GathersBy 0 forwards posts now next × HoldsFor forwards posts (now, a) (next, b)
  forwarded inside now next t a b is counts second held =
      let mid : GatheringSeen N = record { printer = inside.printer; tally = t; refused = inside.refused; waiting = inside.waiting } in
      let first : GathersBy 0 1 [] inside mid =
      subst (λ (u : Counts). GathersBy 0 1 [] inside (record { printer = inside.printer; tally = u; refused = inside.refused; waiting = inside.waiting })) (sym counts) (tallied 0 1 inside) in
      (1, [], subst (λ (a : GatheringSeen N). GathersBy 0 1 [] a next) is (join 0 1 0 0 [] [] inside mid next first second), λ calm. (omega arith, held calm))
