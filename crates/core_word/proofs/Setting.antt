-- A producer's steps up to its act.
use Rattle.std.proofs.Common.{◌≡◌, ◌≢◌, ℕ, inl, inr, List, [], ◌∷◌, refl, sym, ap, ◌∙◌, subst, Some, None, arith}
use Rattle.std.specs.Prelude.{Bool, true, false, ◌==◌, slice_index}
use prog.Atomic.{either}
use Rattle.core_state.specs.declared.schedule.Offer.TheVariants as offered
use Rattle.core_state.specs.declared.schedule.Demand.TheVariants as demanded
use Rattle.core_state.specs.Table.{code_of, waiting_state}
use Rattle.atomic_table.specs.Table.{keeps, takes, gives, Allows}
use Rattle.core_word.specs.declared.view.Departure.{Departure}
use Rattle.core_word.specs.declared.view.Departure.TheVariants as departed
use Rattle.fan_base.specs.declared.outcome.Try.{Try}
use Rattle.core_word.specs.declared.view.Item.TheVariants as item
use Rattle.core_word.specs.declared.view.Sight.{Sight}
use Rattle.core_word.specs.declared.view.Sight.TheVariants as seen
use Rattle.core_word.specs.declared.view.Learned.{Learned}
use Rattle.core_word.specs.declared.view.ProducerSlot.{ProducerSlot}
use Rattle.core_word.specs.declared.view.ProducerSlot.TheVariants as slot
use Rattle.core_word.specs.declared.view.ProducerPhase.{ProducerPhase}
use Rattle.core_word.specs.declared.view.ProducerPhase.TheVariants as producer
use Rattle.core_word.specs.declared.view.ConsumerPhase.{ConsumerPhase}
use Rattle.core_word.specs.declared.view.ConsumerPhase.TheVariants as consumer
use Rattle.core_word.specs.declared.view.View.TheVariants as view
use Rattle.core_word.specs.Views.{use_of, learned_of, with_callback, consumer_left, IsAwaited}
use Rattle.core_word.specs.Rule.{Held, Fit, Waits, SightFits, words_of, StandsFor}
use Rattle.core_word.specs.Plays.{Standing, producer_ready, producer_holding, producer_aware, takes_producer_slot, none_seen, leave_seen, stay_seen, callback_seen, looks_for_callback, looks_for_leave, sees_waiting, tries_first, sets_first, sets_second}
use Rattle.core_word.proofs.Owing.{ProducerOwes, ProducerRow, producer_steps, producer_looks, beside_producer, allows_also}

-- Start is no state of a callback that waits
never_start : (a : Bool) → 0 ≡ code_of (waiting_state a) → ⊥
never_start true e = absurd (omega arith)
never_start false e = absurd (omega arith)

waits_high : (a : Bool) → code_of (waiting_state a) ≢ 0
waits_high true e = absurd (omega arith)
waits_high false e = absurd (omega arith)

module _ {T C P : Type 0} where
  abbrev ready : ProducerPhase T C P
  ready = producer.Ready

  -- a producer that has seen a callback, and hasn't acted, doesn't find Start
  awaited_waits : (c : ConsumerPhase T C P) (inline : Bool) → Waits inline c → slice_index (words_of ready c) 0 ≢ 0
  awaited_waits consumer.Ready inline w = absurd w
  awaited_waits consumer.Holding inline w = absurd w
  awaited_waits (consumer.Aware s) inline w = absurd w
  awaited_waits (consumer.Acted demanded.Nothing got left) inline w = absurd w
  awaited_waits (consumer.Acted (demanded.Callback c) got left) inline w = waits_high c.inline

  awaited_finds : (c : ConsumerPhase T C P) (sight : Sight) → SightFits sight c → IsAwaited sight → slice_index (words_of ready c) 0 ≢ 0
  awaited_finds c seen.Unseen sees awaited = absurd awaited
  awaited_finds c seen.NoCallback sees awaited = absurd awaited
  awaited_finds c seen.Callback sees awaited = awaited_waits c sees.0 sees.1
  awaited_finds c seen.CallbackLeft sees awaited = awaited_waits c sees.0.0 sees.0.1

  -- what a producer knows that has seen a callback
  awaited_callback : (c : ConsumerPhase T C P) (sight : Sight) → SightFits sight c → IsAwaited sight → (inline : Bool) × Waits inline c
  awaited_callback c seen.Unseen sees awaited = absurd awaited
  awaited_callback c seen.NoCallback sees awaited = absurd awaited
  awaited_callback c seen.Callback sees awaited = sees
  awaited_callback c seen.CallbackLeft sees awaited = sees.0

  sees_still : (c : ConsumerPhase T C P) (sight : Sight) → SightFits sight c → (inline : Bool) × Waits inline c → SightFits (with_callback sight) c
  sees_still c seen.Unseen sees waits = waits
  sees_still c seen.NoCallback sees waits = waits
  sees_still c seen.Callback sees waits = sees
  sees_still c seen.CallbackLeft sees waits = sees

  -- what the two looks of a producer find
  sees_callback : (u : ℕ) (learned : Learned) (c : ConsumerPhase T C P) → Fit producer.Ready c → SightFits learned.sight c
      → (new : Learned) × SightFits new.sight c × looks_for_callback {T = T} {C = C} {P = P} (producer_ready u learned) (slice_index (words_of ready c) 0) (view.Producer u producer.Ready new, [])
  sees_callback u learned consumer.Ready fit sees = (none_seen learned, tt, ((λ e. refl), (λ ne. absurd (ne refl)), awaited_finds _ learned.sight sees))
  sees_callback u learned consumer.Holding fit sees = (none_seen learned, tt, ((λ e. refl), (λ ne. absurd (ne refl)), awaited_finds _ learned.sight sees))
  sees_callback u learned (consumer.Aware s) fit sees = absurd fit.0
  sees_callback u learned (consumer.Acted demanded.Nothing got left) fit sees = (none_seen learned, tt, ((λ e. refl), (λ ne. absurd (ne refl)), awaited_finds _ learned.sight sees))
  sees_callback u learned (consumer.Acted (demanded.Callback c) got left) fit sees =
      (callback_seen learned, sees_still _ learned.sight sees (c.inline, (refl, fit.0)), ((λ e. absurd (waits_high c.inline e)), (λ ne. refl), awaited_finds _ learned.sight sees))

  left_alone : (c : ConsumerPhase T C P) (sight : Sight) → SightFits sight c → sight ≡ seen.CallbackLeft → consumer_left c ≡ departed.First
  left_alone c sight sees e = (subst (λ y. SightFits y c) e sees).1

  sees_leave : (u : ℕ) (learned : Learned) → IsAwaited learned.sight → (c : ConsumerPhase T C P) → Fit producer.Ready c → SightFits learned.sight c
      → (new : Learned) × SightFits new.sight c × looks_for_leave {T = T} {C = C} {P = P} (producer_ready u learned) (slice_index (words_of ready c) 1) (view.Producer u producer.Ready new, [])
  sees_leave u learned awaited consumer.Ready fit sees = absurd (awaited_callback _ learned.sight sees awaited).1
  sees_leave u learned awaited consumer.Holding fit sees = absurd (awaited_callback _ learned.sight sees awaited).1
  sees_leave u learned awaited (consumer.Aware s) fit sees = absurd (awaited_callback _ learned.sight sees awaited).1
  sees_leave u learned awaited (consumer.Acted demand got departed.No) fit sees =
      (stay_seen learned, awaited_callback _ learned.sight sees awaited, ((λ e. absurd (omega arith)), (λ ne. refl), λ e. let clash = left_alone _ learned.sight sees e in cc))
  sees_leave u learned awaited (consumer.Acted demand got departed.First) fit sees =
      (leave_seen learned, (awaited_callback _ learned.sight sees awaited, refl), ((λ e. refl), (λ ne. absurd (ne refl)), λ e. refl))
  sees_leave u learned awaited (consumer.Acted demand got departed.Last) fit sees = absurd fit.1

module _ {T C P : Type 0} (id u : ℕ) (learned : Learned) where
  abbrev Owes : List (ℕ × Held T C P) → ℕ → (ℕ → ℕ) → (ℕ → Standing T C P → Type 0) → ProducerPhase T C P → Type 0
  Owes = ProducerOwes id u learned

  abbrev Row : List (ℕ × Held T C P) → ℕ → (ℕ → ℕ) → (ℕ → Standing T C P → Type 0) → ProducerPhase T C P → ConsumerPhase T C P → Type 0
  Row = ProducerRow id u learned

  result_slot : Owes [] 0 (λ n. n) (takes_producer_slot slot.Result (producer_ready u learned)) producer.Ready
  result_slot consumer.Ready fit low = (producer.Holding slot.Result, takes 0 None, refl, refl, refl, fit, refl)
  result_slot consumer.Holding fit low = (producer.Holding slot.Result, takes 0 None, refl, refl, refl, fit, refl)
  result_slot (consumer.Aware s) fit low = absurd fit.0
  result_slot (consumer.Acted demanded.Nothing offered.Nothing left) fit low = (producer.Holding slot.Result, takes 0 None, refl, refl, refl, fit, refl)
  result_slot (consumer.Acted (demanded.Callback c) offered.Nothing left) fit low = (producer.Holding slot.Result, takes 0 None, refl, refl, refl, fit, refl)
  result_slot (consumer.Acted demand (offered.Result r) left) fit low = let e = fit.0 in cc
  result_slot (consumer.Acted demand (offered.Proxy k) left) fit low = let e = fit.0 in cc

  pub takes_result_slot : (slots : ℕ) (me : Standing T C P) → me ≡ producer_ready u learned → Allows StandsFor slots id me 0 (λ n. n) (takes_producer_slot slot.Result me)
  takes_result_slot slots me e = subst (λ m. Allows StandsFor slots id m 0 (λ n. n) (takes_producer_slot slot.Result m)) (sym e)
      (producer_steps id u learned [] 0 (λ n. n) (takes_producer_slot slot.Result (producer_ready u learned)) producer.Ready (λ n. cc) slots result_slot)

  result_seen : (r : Try T) (c : C) (a : Bool) (left : Departure) → Fit {T = T} {C = C} {P = P} (producer.Holding slot.Result) (consumer.Acted (demanded.Callback record { callback = c; inline = a }) offered.Nothing left)
      → Row ((0, Some (item.Outcome r)) ∷ []) 0 (λ n. n) (sees_waiting slot.Result (producer_holding u learned slot.Result (Some (item.Outcome r)))) (producer.Holding slot.Result) (consumer.Acted (demanded.Callback record { callback = c; inline = a }) offered.Nothing left)
  result_seen r c true left fit = (producer.Aware slot.Result true, keeps, tt, refl, refl, ((refl, fit.0), fit.1), ((λ e. absurd (omega arith)), other, inr (true, refl)))
    where
      other : (b : Bool) → 6 ≡ code_of (waiting_state b) → ◌≡◌ {A = Standing T C P} (view.Producer u (producer.Aware slot.Result true) learned, (0, Some (item.Outcome r)) ∷ []) (view.Producer u (producer.Aware slot.Result b) learned, (0, Some (item.Outcome r)) ∷ [])
      other true e = refl
      other false e = absurd (omega arith)
  result_seen r c false left fit = (producer.Aware slot.Result false, keeps, tt, refl, refl, ((refl, fit.0), fit.1), ((λ e. absurd (omega arith)), other, inr (false, refl)))
    where
      other : (b : Bool) → 2 ≡ code_of (waiting_state b) → ◌≡◌ {A = Standing T C P} (view.Producer u (producer.Aware slot.Result false) learned, (0, Some (item.Outcome r)) ∷ []) (view.Producer u (producer.Aware slot.Result b) learned, (0, Some (item.Outcome r)) ∷ [])
      other true e = absurd (omega arith)
      other false e = refl

  result_look : (r : Try T) → Owes ((0, Some (item.Outcome r)) ∷ []) 0 (λ n. n) (sees_waiting slot.Result (producer_holding u learned slot.Result (Some (item.Outcome r)))) (producer.Holding slot.Result)
  result_look r consumer.Ready fit low = (producer.Holding slot.Result, keeps, tt, refl, refl, fit, ((λ _. refl), (λ b e. absurd (never_start b e)), inl refl))
  result_look r consumer.Holding fit low = (producer.Holding slot.Result, keeps, tt, refl, refl, fit, ((λ _. refl), (λ b e. absurd (never_start b e)), inl refl))
  result_look r (consumer.Aware s) fit low = absurd fit.0
  result_look r (consumer.Acted demanded.Nothing offered.Nothing left) fit low = (producer.Holding slot.Result, keeps, tt, refl, refl, fit, ((λ _. refl), (λ b e. absurd (never_start b e)), inl refl))
  result_look r (consumer.Acted (demanded.Callback c) offered.Nothing left) fit low = result_seen r c.callback c.inline left fit
  result_look r (consumer.Acted demand (offered.Result q) left) fit low = let e = fit.0 in cc
  result_look r (consumer.Acted demand (offered.Proxy q) left) fit low = let e = fit.0 in cc

  pub looks_before_result : (slots : ℕ) (r : Try T) (me : Standing T C P) → me ≡ producer_holding u learned slot.Result (Some (item.Outcome r)) → Allows StandsFor slots id me 0 (λ n. n) (sees_waiting slot.Result me)
  looks_before_result slots r me e = subst (λ m. Allows StandsFor slots id m 0 (λ n. n) (sees_waiting slot.Result m)) (sym e)
      (producer_steps id u learned ((0, Some (item.Outcome r)) ∷ []) 0 (λ n. n) (sees_waiting slot.Result (producer_holding u learned slot.Result (Some (item.Outcome r)))) (producer.Holding slot.Result) (λ n. cc) slots (result_look r))

  result_waits : (r : Try T) (c : C) (a : Bool) (left : Departure) → Fit {T = T} {C = C} {P = P} (producer.Holding slot.Result) (consumer.Acted (demanded.Callback record { callback = c; inline = a }) offered.Nothing left)
      → Row ((0, Some (item.Outcome r)) ∷ []) 0 (λ n. either (n == 0) 1 n) (tries_first slot.Result (producer_holding u learned slot.Result (Some (item.Outcome r)))) (producer.Holding slot.Result) (consumer.Acted (demanded.Callback record { callback = c; inline = a }) offered.Nothing left)
  result_waits r c true left fit = (producer.Aware slot.Result true, keeps, tt, refl, refl, ((refl, fit.0), fit.1), ((λ e. absurd (omega arith)), other, inr (true, refl)))
    where
      other : (b : Bool) → 6 ≡ code_of (waiting_state b) → ◌≡◌ {A = Standing T C P} (view.Producer u (producer.Aware slot.Result true) learned, (0, Some (item.Outcome r)) ∷ []) (view.Producer u (producer.Aware slot.Result b) learned, (0, Some (item.Outcome r)) ∷ [])
      other true e = refl
      other false e = absurd (omega arith)
  result_waits r c false left fit = (producer.Aware slot.Result false, keeps, tt, refl, refl, ((refl, fit.0), fit.1), ((λ e. absurd (omega arith)), other, inr (false, refl)))
    where
      other : (b : Bool) → 2 ≡ code_of (waiting_state b) → ◌≡◌ {A = Standing T C P} (view.Producer u (producer.Aware slot.Result false) learned, (0, Some (item.Outcome r)) ∷ []) (view.Producer u (producer.Aware slot.Result b) learned, (0, Some (item.Outcome r)) ∷ [])
      other true e = absurd (omega arith)
      other false e = refl

  result_first : (r : Try T) → Owes ((0, Some (item.Outcome r)) ∷ []) 0 (λ n. either (n == 0) 1 n) (tries_first slot.Result (producer_holding u learned slot.Result (Some (item.Outcome r)))) (producer.Holding slot.Result)
  result_first r consumer.Ready fit low = (producer.Acted (offered.Result r) demanded.Nothing departed.No, gives, tt, refl, refl, ((tt, tt), fit.1), ((λ _. refl), (λ b e. absurd (never_start b e)), inl refl))
  result_first r consumer.Holding fit low = (producer.Acted (offered.Result r) demanded.Nothing departed.No, gives, tt, refl, refl, ((tt, tt), fit.1), ((λ _. refl), (λ b e. absurd (never_start b e)), inl refl))
  result_first r (consumer.Aware s) fit low = absurd fit.0
  result_first r (consumer.Acted demanded.Nothing offered.Nothing left) fit low = (producer.Acted (offered.Result r) demanded.Nothing departed.No, gives, tt, refl, refl, ((tt, refl), fit.1), ((λ _. refl), (λ b e. absurd (never_start b e)), inl refl))
  result_first r (consumer.Acted (demanded.Callback c) offered.Nothing left) fit low = result_waits r c.callback c.inline left fit
  result_first r (consumer.Acted demand (offered.Result q) left) fit low = let e = fit.0 in cc
  result_first r (consumer.Acted demand (offered.Proxy q) left) fit low = let e = fit.0 in cc

  pub sets_result_first : (slots old new : ℕ) (r : Try T) (me : Standing T C P) → old ≡ 0 → new ≡ 1 → me ≡ producer_holding u learned slot.Result (Some (item.Outcome r))
      → Allows StandsFor slots id me 0 (λ n. either (n == old) new n) (sets_first slot.Result me)
  sets_result_first slots old new r me eo en e =
      subst (λ (z : ℕ × ℕ × Standing T C P). Allows StandsFor slots id z.2 0 (λ n. either (n == z.0) z.1 n) (sets_first slot.Result z.2)) (λ i. (sym eo i, sym en i, sym e i))
      (allows_also slots id (producer_holding u learned slot.Result (Some (item.Outcome r))) 0 (λ n. either (n == 0) 1 n) (tries_first slot.Result (producer_holding u learned slot.Result (Some (item.Outcome r)))) (λ found. IsAwaited learned.sight → found ≢ 0)
      (λ s holds at. let b = beside_producer s id u (producer.Holding slot.Result) learned (λ n. cc) at holds in λ awaited. subst (λ ws. slice_index ws 0 ≢ 0) (sym b.words) (awaited_finds b.c learned.sight b.sees awaited))
      (producer_steps id u learned ((0, Some (item.Outcome r)) ∷ []) 0 (λ n. either (n == 0) 1 n) (tries_first slot.Result (producer_holding u learned slot.Result (Some (item.Outcome r)))) (producer.Holding slot.Result) (λ n. cc) slots (result_first r)))

  result_takes : (r : Try T) (c : C) (b a : Bool) (left : Departure) → Fit {T = T} {C = C} {P = P} (producer.Aware slot.Result a) (consumer.Acted (demanded.Callback record { callback = c; inline = b }) offered.Nothing left)
      → Row ((0, Some (item.Outcome r)) ∷ []) 0 (λ n. either (n == code_of (waiting_state a)) 4 n) (sets_second (producer_aware u learned slot.Result a (Some (item.Outcome r)))) (producer.Aware slot.Result a) (consumer.Acted (demanded.Callback record { callback = c; inline = b }) offered.Nothing left)
  result_takes r c true true left fit =
      (producer.Acted (offered.Result r) (demanded.Callback record { callback = c; inline = true }) departed.No, takes 1 (Some (item.Callback record { callback = c; inline = true })), refl, refl, refl, ((tt, (refl, refl)), fit.1), (record { callback = c; inline = true }, refl))
  result_takes r c false false left fit =
      (producer.Acted (offered.Result r) (demanded.Callback record { callback = c; inline = false }) departed.No, takes 1 (Some (item.Callback record { callback = c; inline = false })), refl, refl, refl, ((tt, (refl, refl)), fit.1), (record { callback = c; inline = false }, refl))
  result_takes r c true false left fit = let e = fit.0.0 in cc
  result_takes r c false true left fit = let e = fit.0.0 in cc

  result_second : (r : Try T) (a : Bool) → Owes ((0, Some (item.Outcome r)) ∷ []) 0 (λ n. either (n == code_of (waiting_state a)) 4 n) (sets_second (producer_aware u learned slot.Result a (Some (item.Outcome r)))) (producer.Aware slot.Result a)
  result_second r a consumer.Ready fit low = absurd fit.0
  result_second r a consumer.Holding fit low = absurd fit.0
  result_second r a (consumer.Aware s) fit low = absurd fit.0
  result_second r a (consumer.Acted demanded.Nothing got left) fit low = absurd fit.0
  result_second r a (consumer.Acted (demanded.Callback c) offered.Nothing left) fit low = result_takes r c.callback c.inline a left fit
  result_second r a (consumer.Acted (demanded.Callback c) (offered.Result q) left) fit low = let e = fit.0.1 in cc
  result_second r a (consumer.Acted (demanded.Callback c) (offered.Proxy q) left) fit low = let e = fit.0.1 in cc

  pub sets_result_second : (slots old new : ℕ) (r : Try T) (a : Bool) (me : Standing T C P) → old ≡ code_of (waiting_state a) → new ≡ 4 → me ≡ producer_aware u learned slot.Result a (Some (item.Outcome r))
      → Allows StandsFor slots id me 0 (λ n. either (n == old) new n) (sets_second me)
  sets_result_second slots old new r a me eo en e =
      subst (λ (z : ℕ × ℕ × Standing T C P). Allows StandsFor slots id z.2 0 (λ n. either (n == z.0) z.1 n) (sets_second z.2)) (λ i. (sym eo i, sym en i, sym e i))
      (producer_steps id u learned ((0, Some (item.Outcome r)) ∷ []) 0 (λ n. either (n == code_of (waiting_state a)) 4 n) (sets_second (producer_aware u learned slot.Result a (Some (item.Outcome r)))) (producer.Aware slot.Result a) (λ n. cc) slots (result_second r a))

  proxy_slot : Owes [] 0 (λ n. n) (takes_producer_slot slot.Proxy (producer_ready u learned)) producer.Ready
  proxy_slot consumer.Ready fit low = (producer.Holding slot.Proxy, takes 2 None, refl, refl, refl, fit, refl)
  proxy_slot consumer.Holding fit low = (producer.Holding slot.Proxy, takes 2 None, refl, refl, refl, fit, refl)
  proxy_slot (consumer.Aware s) fit low = absurd fit.0
  proxy_slot (consumer.Acted demanded.Nothing offered.Nothing left) fit low = (producer.Holding slot.Proxy, takes 2 None, refl, refl, refl, fit, refl)
  proxy_slot (consumer.Acted (demanded.Callback c) offered.Nothing left) fit low = (producer.Holding slot.Proxy, takes 2 None, refl, refl, refl, fit, refl)
  proxy_slot (consumer.Acted demand (offered.Result r) left) fit low = let e = fit.0 in cc
  proxy_slot (consumer.Acted demand (offered.Proxy k) left) fit low = let e = fit.0 in cc

  pub takes_proxy_slot : (slots : ℕ) (me : Standing T C P) → me ≡ producer_ready u learned → Allows StandsFor slots id me 0 (λ n. n) (takes_producer_slot slot.Proxy me)
  takes_proxy_slot slots me e = subst (λ m. Allows StandsFor slots id m 0 (λ n. n) (takes_producer_slot slot.Proxy m)) (sym e)
      (producer_steps id u learned [] 0 (λ n. n) (takes_producer_slot slot.Proxy (producer_ready u learned)) producer.Ready (λ n. cc) slots proxy_slot)

  proxy_seen : (r : P) (c : C) (a : Bool) (left : Departure) → Fit {T = T} {C = C} {P = P} (producer.Holding slot.Proxy) (consumer.Acted (demanded.Callback record { callback = c; inline = a }) offered.Nothing left)
      → Row ((2, Some (item.Proxy r)) ∷ []) 0 (λ n. n) (sees_waiting slot.Proxy (producer_holding u learned slot.Proxy (Some (item.Proxy r)))) (producer.Holding slot.Proxy) (consumer.Acted (demanded.Callback record { callback = c; inline = a }) offered.Nothing left)
  proxy_seen r c true left fit = (producer.Aware slot.Proxy true, keeps, tt, refl, refl, ((refl, fit.0), fit.1), ((λ e. absurd (omega arith)), other, inr (true, refl)))
    where
      other : (b : Bool) → 6 ≡ code_of (waiting_state b) → ◌≡◌ {A = Standing T C P} (view.Producer u (producer.Aware slot.Proxy true) learned, (2, Some (item.Proxy r)) ∷ []) (view.Producer u (producer.Aware slot.Proxy b) learned, (2, Some (item.Proxy r)) ∷ [])
      other true e = refl
      other false e = absurd (omega arith)
  proxy_seen r c false left fit = (producer.Aware slot.Proxy false, keeps, tt, refl, refl, ((refl, fit.0), fit.1), ((λ e. absurd (omega arith)), other, inr (false, refl)))
    where
      other : (b : Bool) → 2 ≡ code_of (waiting_state b) → ◌≡◌ {A = Standing T C P} (view.Producer u (producer.Aware slot.Proxy false) learned, (2, Some (item.Proxy r)) ∷ []) (view.Producer u (producer.Aware slot.Proxy b) learned, (2, Some (item.Proxy r)) ∷ [])
      other true e = absurd (omega arith)
      other false e = refl

  proxy_look : (r : P) → Owes ((2, Some (item.Proxy r)) ∷ []) 0 (λ n. n) (sees_waiting slot.Proxy (producer_holding u learned slot.Proxy (Some (item.Proxy r)))) (producer.Holding slot.Proxy)
  proxy_look r consumer.Ready fit low = (producer.Holding slot.Proxy, keeps, tt, refl, refl, fit, ((λ _. refl), (λ b e. absurd (never_start b e)), inl refl))
  proxy_look r consumer.Holding fit low = (producer.Holding slot.Proxy, keeps, tt, refl, refl, fit, ((λ _. refl), (λ b e. absurd (never_start b e)), inl refl))
  proxy_look r (consumer.Aware s) fit low = absurd fit.0
  proxy_look r (consumer.Acted demanded.Nothing offered.Nothing left) fit low = (producer.Holding slot.Proxy, keeps, tt, refl, refl, fit, ((λ _. refl), (λ b e. absurd (never_start b e)), inl refl))
  proxy_look r (consumer.Acted (demanded.Callback c) offered.Nothing left) fit low = proxy_seen r c.callback c.inline left fit
  proxy_look r (consumer.Acted demand (offered.Result q) left) fit low = let e = fit.0 in cc
  proxy_look r (consumer.Acted demand (offered.Proxy q) left) fit low = let e = fit.0 in cc

  pub looks_before_proxy : (slots : ℕ) (r : P) (me : Standing T C P) → me ≡ producer_holding u learned slot.Proxy (Some (item.Proxy r)) → Allows StandsFor slots id me 0 (λ n. n) (sees_waiting slot.Proxy me)
  looks_before_proxy slots r me e = subst (λ m. Allows StandsFor slots id m 0 (λ n. n) (sees_waiting slot.Proxy m)) (sym e)
      (producer_steps id u learned ((2, Some (item.Proxy r)) ∷ []) 0 (λ n. n) (sees_waiting slot.Proxy (producer_holding u learned slot.Proxy (Some (item.Proxy r)))) (producer.Holding slot.Proxy) (λ n. cc) slots (proxy_look r))

  proxy_waits : (r : P) (c : C) (a : Bool) (left : Departure) → Fit {T = T} {C = C} {P = P} (producer.Holding slot.Proxy) (consumer.Acted (demanded.Callback record { callback = c; inline = a }) offered.Nothing left)
      → Row ((2, Some (item.Proxy r)) ∷ []) 0 (λ n. either (n == 0) 3 n) (tries_first slot.Proxy (producer_holding u learned slot.Proxy (Some (item.Proxy r)))) (producer.Holding slot.Proxy) (consumer.Acted (demanded.Callback record { callback = c; inline = a }) offered.Nothing left)
  proxy_waits r c true left fit = (producer.Aware slot.Proxy true, keeps, tt, refl, refl, ((refl, fit.0), fit.1), ((λ e. absurd (omega arith)), other, inr (true, refl)))
    where
      other : (b : Bool) → 6 ≡ code_of (waiting_state b) → ◌≡◌ {A = Standing T C P} (view.Producer u (producer.Aware slot.Proxy true) learned, (2, Some (item.Proxy r)) ∷ []) (view.Producer u (producer.Aware slot.Proxy b) learned, (2, Some (item.Proxy r)) ∷ [])
      other true e = refl
      other false e = absurd (omega arith)
  proxy_waits r c false left fit = (producer.Aware slot.Proxy false, keeps, tt, refl, refl, ((refl, fit.0), fit.1), ((λ e. absurd (omega arith)), other, inr (false, refl)))
    where
      other : (b : Bool) → 2 ≡ code_of (waiting_state b) → ◌≡◌ {A = Standing T C P} (view.Producer u (producer.Aware slot.Proxy false) learned, (2, Some (item.Proxy r)) ∷ []) (view.Producer u (producer.Aware slot.Proxy b) learned, (2, Some (item.Proxy r)) ∷ [])
      other true e = absurd (omega arith)
      other false e = refl

  proxy_first : (r : P) → Owes ((2, Some (item.Proxy r)) ∷ []) 0 (λ n. either (n == 0) 3 n) (tries_first slot.Proxy (producer_holding u learned slot.Proxy (Some (item.Proxy r)))) (producer.Holding slot.Proxy)
  proxy_first r consumer.Ready fit low = (producer.Acted (offered.Proxy r) demanded.Nothing departed.No, gives, tt, refl, refl, ((tt, tt), fit.1), ((λ _. refl), (λ b e. absurd (never_start b e)), inl refl))
  proxy_first r consumer.Holding fit low = (producer.Acted (offered.Proxy r) demanded.Nothing departed.No, gives, tt, refl, refl, ((tt, tt), fit.1), ((λ _. refl), (λ b e. absurd (never_start b e)), inl refl))
  proxy_first r (consumer.Aware s) fit low = absurd fit.0
  proxy_first r (consumer.Acted demanded.Nothing offered.Nothing left) fit low = (producer.Acted (offered.Proxy r) demanded.Nothing departed.No, gives, tt, refl, refl, ((tt, refl), fit.1), ((λ _. refl), (λ b e. absurd (never_start b e)), inl refl))
  proxy_first r (consumer.Acted (demanded.Callback c) offered.Nothing left) fit low = proxy_waits r c.callback c.inline left fit
  proxy_first r (consumer.Acted demand (offered.Result q) left) fit low = let e = fit.0 in cc
  proxy_first r (consumer.Acted demand (offered.Proxy q) left) fit low = let e = fit.0 in cc

  pub sets_proxy_first : (slots old new : ℕ) (r : P) (me : Standing T C P) → old ≡ 0 → new ≡ 3 → me ≡ producer_holding u learned slot.Proxy (Some (item.Proxy r))
      → Allows StandsFor slots id me 0 (λ n. either (n == old) new n) (sets_first slot.Proxy me)
  sets_proxy_first slots old new r me eo en e =
      subst (λ (z : ℕ × ℕ × Standing T C P). Allows StandsFor slots id z.2 0 (λ n. either (n == z.0) z.1 n) (sets_first slot.Proxy z.2)) (λ i. (sym eo i, sym en i, sym e i))
      (allows_also slots id (producer_holding u learned slot.Proxy (Some (item.Proxy r))) 0 (λ n. either (n == 0) 3 n) (tries_first slot.Proxy (producer_holding u learned slot.Proxy (Some (item.Proxy r)))) (λ found. IsAwaited learned.sight → found ≢ 0)
      (λ s holds at. let b = beside_producer s id u (producer.Holding slot.Proxy) learned (λ n. cc) at holds in λ awaited. subst (λ ws. slice_index ws 0 ≢ 0) (sym b.words) (awaited_finds b.c learned.sight b.sees awaited))
      (producer_steps id u learned ((2, Some (item.Proxy r)) ∷ []) 0 (λ n. either (n == 0) 3 n) (tries_first slot.Proxy (producer_holding u learned slot.Proxy (Some (item.Proxy r)))) (producer.Holding slot.Proxy) (λ n. cc) slots (proxy_first r)))

  proxy_takes : (r : P) (c : C) (b a : Bool) (left : Departure) → Fit {T = T} {C = C} {P = P} (producer.Aware slot.Proxy a) (consumer.Acted (demanded.Callback record { callback = c; inline = b }) offered.Nothing left)
      → Row ((2, Some (item.Proxy r)) ∷ []) 0 (λ n. either (n == code_of (waiting_state a)) 5 n) (sets_second (producer_aware u learned slot.Proxy a (Some (item.Proxy r)))) (producer.Aware slot.Proxy a) (consumer.Acted (demanded.Callback record { callback = c; inline = b }) offered.Nothing left)
  proxy_takes r c true true left fit =
      (producer.Acted (offered.Proxy r) (demanded.Callback record { callback = c; inline = true }) departed.No, takes 1 (Some (item.Callback record { callback = c; inline = true })), refl, refl, refl, ((tt, (refl, refl)), fit.1), (record { callback = c; inline = true }, refl))
  proxy_takes r c false false left fit =
      (producer.Acted (offered.Proxy r) (demanded.Callback record { callback = c; inline = false }) departed.No, takes 1 (Some (item.Callback record { callback = c; inline = false })), refl, refl, refl, ((tt, (refl, refl)), fit.1), (record { callback = c; inline = false }, refl))
  proxy_takes r c true false left fit = let e = fit.0.0 in cc
  proxy_takes r c false true left fit = let e = fit.0.0 in cc

  proxy_second : (r : P) (a : Bool) → Owes ((2, Some (item.Proxy r)) ∷ []) 0 (λ n. either (n == code_of (waiting_state a)) 5 n) (sets_second (producer_aware u learned slot.Proxy a (Some (item.Proxy r)))) (producer.Aware slot.Proxy a)
  proxy_second r a consumer.Ready fit low = absurd fit.0
  proxy_second r a consumer.Holding fit low = absurd fit.0
  proxy_second r a (consumer.Aware s) fit low = absurd fit.0
  proxy_second r a (consumer.Acted demanded.Nothing got left) fit low = absurd fit.0
  proxy_second r a (consumer.Acted (demanded.Callback c) offered.Nothing left) fit low = proxy_takes r c.callback c.inline a left fit
  proxy_second r a (consumer.Acted (demanded.Callback c) (offered.Result q) left) fit low = let e = fit.0.1 in cc
  proxy_second r a (consumer.Acted (demanded.Callback c) (offered.Proxy q) left) fit low = let e = fit.0.1 in cc

  pub sets_proxy_second : (slots old new : ℕ) (r : P) (a : Bool) (me : Standing T C P) → old ≡ code_of (waiting_state a) → new ≡ 5 → me ≡ producer_aware u learned slot.Proxy a (Some (item.Proxy r))
      → Allows StandsFor slots id me 0 (λ n. either (n == old) new n) (sets_second me)
  sets_proxy_second slots old new r a me eo en e =
      subst (λ (z : ℕ × ℕ × Standing T C P). Allows StandsFor slots id z.2 0 (λ n. either (n == z.0) z.1 n) (sets_second z.2)) (λ i. (sym eo i, sym en i, sym e i))
      (producer_steps id u learned ((2, Some (item.Proxy r)) ∷ []) 0 (λ n. either (n == code_of (waiting_state a)) 5 n) (sets_second (producer_aware u learned slot.Proxy a (Some (item.Proxy r)))) (producer.Aware slot.Proxy a) (λ n. cc) slots (proxy_second r a))

  pub looks_at_state : (slots : ℕ) (me : Standing T C P) → me ≡ producer_ready u learned → Allows StandsFor slots id me 0 (λ n. n) (looks_for_callback me)
  looks_at_state slots me e = subst (λ m. Allows StandsFor slots id m 0 (λ n. n) (looks_for_callback m)) (sym e) (producer_looks id u 0 learned (looks_for_callback (producer_ready u learned)) (sees_callback u learned) (λ c. refl) slots)

  pub looks_at_count : (slots : ℕ) (me : Standing T C P) → me ≡ producer_ready u learned → IsAwaited learned.sight → Allows StandsFor slots id me 1 (λ n. n) (looks_for_leave me)
  looks_at_count slots me e awaited = subst (λ m. Allows StandsFor slots id m 1 (λ n. n) (looks_for_leave m)) (sym e)
      (producer_looks id u 1 learned (looks_for_leave (producer_ready u learned)) (sees_leave u learned awaited) (λ c. refl) slots)

module _ {T C P : Type 0} where
  -- a producer that has seen a callback has what it is about to set
  pub made_aware : (o : ProducerSlot) (a : Bool) (me before : Standing T C P) (u : ℕ) (learned : Learned) (x : Held T C P)
      → me ≡ (view.Producer (use_of before.0) (producer.Aware o a) (learned_of before.0), before.1) → before ≡ producer_holding u learned o x → me ≡ producer_aware u learned o a x
  made_aware o a me before u learned x e was = e ∙ ap (λ (m : Standing T C P). (view.Producer (use_of m.0) (producer.Aware o a) (learned_of m.0), m.1)) was
