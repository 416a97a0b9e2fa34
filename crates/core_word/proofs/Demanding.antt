-- A consumer's steps up to its act.
use Rattle.std.proofs.Common.{◌≡◌, ℕ, List, [], ◌∷◌, refl, sym, ap, ◌∙◌, subst, Some, None, arith}
use Rattle.std.specs.Prelude.{◌==◌}
use prog.Atomic.{either}
use Rattle.core_state.specs.declared.table.State.TheVariants as state
use Rattle.core_state.specs.declared.schedule.Request.{Request}
use Rattle.core_state.specs.Table.{code_of, waiting_state}
use Rattle.core_state.specs.declared.schedule.Offer.TheVariants as offered
use Rattle.core_state.specs.declared.schedule.Demand.TheVariants as demanded
use Rattle.atomic_table.specs.Table.{rest, turned, keeps, takes, gives, Allows}
use Rattle.core_word.specs.declared.view.Item.TheVariants as item
use Rattle.core_word.specs.declared.view.Departure.TheVariants as departed
use Rattle.core_word.specs.declared.view.ProducerPhase.TheVariants as producer
use Rattle.core_word.specs.declared.view.View.{View}
use Rattle.core_word.specs.declared.view.ConsumerPhase.{ConsumerPhase}
use Rattle.core_word.specs.declared.view.ConsumerPhase.TheVariants as consumer
use Rattle.core_word.specs.Rule.{Held, StandsFor}
use Rattle.core_word.specs.Plays.{Standing, consumer_ready, consumer_holding, consumer_aware, takes_callback_slot, sees_offer, demands_first, demands_result, demands_proxy}
use Rattle.core_word.proofs.Owing.{ConsumerOwes, consumer_steps, second, unset_sight}

module _ {T C P : Type 0} (id u : ℕ) where
  abbrev Owes : List (ℕ × Held T C P) → ℕ → (ℕ → ℕ) → (ℕ → Standing T C P → Type 0) → ConsumerPhase T C P → Type 0
  Owes = ConsumerOwes id u

  callback_slot : Owes [] 0 (λ n. n) (takes_callback_slot (consumer_ready u)) consumer.Ready
  callback_slot producer.Ready fit low = (consumer.Holding, takes 1 None, refl, refl, refl, fit, unset_sight _ _ (λ i w. w), refl)
  callback_slot (producer.Holding o) fit low = (consumer.Holding, takes 1 None, refl, refl, refl, fit, unset_sight _ _ (λ i w. w), refl)
  callback_slot (producer.Aware o a) fit low = absurd fit.0
  callback_slot (producer.Acted offered.Nothing demanded.Nothing left) fit low = absurd fit.0.0
  callback_slot (producer.Acted (offered.Result r) demanded.Nothing left) fit low = (consumer.Holding, takes 1 None, refl, refl, refl, fit, unset_sight _ _ (λ i w. w), refl)
  callback_slot (producer.Acted (offered.Proxy k) demanded.Nothing left) fit low = (consumer.Holding, takes 1 None, refl, refl, refl, fit, unset_sight _ _ (λ i w. w), refl)
  callback_slot (producer.Acted offer (demanded.Callback d) left) fit low = absurd fit.0.1

  pub takes_the_callback_slot : (slots : ℕ) (me : Standing T C P) → me ≡ consumer_ready u → Allows StandsFor slots id me 0 (λ n. n) (takes_callback_slot me)
  takes_the_callback_slot slots me e = subst (λ m. Allows StandsFor slots id m 0 (λ n. n) (takes_callback_slot m)) (sym e)
      (consumer_steps id u [] 0 (λ n. n) (takes_callback_slot (consumer_ready u)) consumer.Ready (λ n. cc) slots callback_slot)

  look : (c : Request C) → Owes ((1, Some (item.Callback c)) ∷ []) 0 (λ n. n) (sees_offer (consumer_holding u (Some (item.Callback c)))) consumer.Holding
  look c producer.Ready fit low = (consumer.Holding, keeps, tt, refl, refl, fit, unset_sight _ _ (λ i w. w), ((λ _. refl), (λ e. absurd (omega arith)), λ ne no. absurd (ne refl)))
  look c (producer.Holding o) fit low = (consumer.Holding, keeps, tt, refl, refl, fit, unset_sight _ _ (λ i w. w), ((λ _. refl), (λ e. absurd (omega arith)), λ ne no. absurd (ne refl)))
  look c (producer.Aware o a) fit low = absurd fit.0
  look c (producer.Acted offered.Nothing demanded.Nothing left) fit low = absurd fit.0.0
  look c (producer.Acted (offered.Result r) demanded.Nothing left) fit low = (consumer.Aware state.OnlyResult, keeps, tt, refl, refl, ((tt, refl), fit.1), unset_sight _ _ (λ i w. w), ((λ e. absurd (omega arith)), (λ _. refl), λ ne no. absurd (no refl)))
  look c (producer.Acted (offered.Proxy k) demanded.Nothing left) fit low = (consumer.Aware state.Proxy, keeps, tt, refl, refl, ((tt, refl), fit.1), unset_sight _ _ (λ i w. w), ((λ e. absurd (omega arith)), (λ e. absurd (omega arith)), λ ne no. refl))
  look c (producer.Acted offer (demanded.Callback d) left) fit low = absurd fit.0.1

  pub looks_at_first : (slots : ℕ) (c : Request C) (me : Standing T C P) → me ≡ consumer_holding u (Some (item.Callback c)) → Allows StandsFor slots id me 0 (λ n. n) (sees_offer me)
  looks_at_first slots c me e = subst (λ m. Allows StandsFor slots id m 0 (λ n. n) (sees_offer m)) (sym e)
      (consumer_steps id u ((1, Some (item.Callback c)) ∷ []) 0 (λ n. n) (sees_offer (consumer_holding u (Some (item.Callback c)))) consumer.Holding (λ n. cc) slots (look c))

  first : (c : Request C) → Owes ((1, Some (item.Callback c)) ∷ []) 0 (λ n. either (n == 0) (code_of (waiting_state c.inline)) n) (demands_first (consumer_holding u (Some (item.Callback c)))) consumer.Holding
  first c producer.Ready fit low = (consumer.Acted (demanded.Callback c) offered.Nothing departed.No, gives, tt, refl, refl, (refl, fit.1), unset_sight _ _ (λ i w. w), ((λ _. refl), (λ e. absurd (omega arith)), λ ne no. absurd (ne refl)))
  first c (producer.Holding o) fit low = (consumer.Acted (demanded.Callback c) offered.Nothing departed.No, gives, tt, refl, refl, (refl, fit.1), unset_sight _ _ (λ i w. w), ((λ _. refl), (λ e. absurd (omega arith)), λ ne no. absurd (ne refl)))
  first c (producer.Aware o a) fit low = absurd fit.0
  first c (producer.Acted offered.Nothing demanded.Nothing left) fit low = absurd fit.0.0
  first c (producer.Acted (offered.Result r) demanded.Nothing left) fit low = (consumer.Aware state.OnlyResult, keeps, tt, refl, refl, ((tt, refl), fit.1), unset_sight _ _ (λ i w. w), ((λ e. absurd (omega arith)), (λ _. refl), λ ne no. absurd (no refl)))
  first c (producer.Acted (offered.Proxy k) demanded.Nothing left) fit low = (consumer.Aware state.Proxy, keeps, tt, refl, refl, ((tt, refl), fit.1), unset_sight _ _ (λ i w. w), ((λ e. absurd (omega arith)), (λ e. absurd (omega arith)), λ ne no. refl))
  first c (producer.Acted offer (demanded.Callback d) left) fit low = absurd fit.0.1

  pub demands_at_first : (slots old new : ℕ) (c : Request C) (me : Standing T C P) → old ≡ 0 → new ≡ code_of (waiting_state c.inline) → me ≡ consumer_holding u (Some (item.Callback c))
      → Allows StandsFor slots id me 0 (λ n. either (n == old) new n) (demands_first me)
  demands_at_first slots old new c me eo en e =
      subst (λ (z : ℕ × ℕ × Standing T C P). Allows StandsFor slots id z.2 0 (λ n. either (n == z.0) z.1 n) (demands_first z.2)) (λ i. (sym eo i, sym en i, sym e i))
      (consumer_steps id u ((1, Some (item.Callback c)) ∷ []) 0 (λ n. either (n == 0) (code_of (waiting_state c.inline)) n) (demands_first (consumer_holding u (Some (item.Callback c)))) consumer.Holding (λ n. cc) slots (first c))

  result_second : (c : Request C) → Owes ((1, Some (item.Callback c)) ∷ []) 0 (λ n. either (n == 1) 4 n) (demands_result (consumer_aware u state.OnlyResult (Some (item.Callback c)))) (consumer.Aware state.OnlyResult)
  result_second c producer.Ready fit low = absurd fit.0
  result_second c (producer.Holding o) fit low = absurd fit.0
  result_second c (producer.Aware o a) fit low = absurd fit.0
  result_second c (producer.Acted offered.Nothing demanded.Nothing left) fit low = absurd fit.0.0
  result_second c (producer.Acted (offered.Result r) demanded.Nothing left) fit low =
      (consumer.Acted (demanded.Callback c) (offered.Result r) departed.No, takes 0 (Some (item.Outcome r)), refl, refl, refl, ((tt, refl), fit.1), unset_sight _ _ (λ i w. w), (r, refl))
  result_second c (producer.Acted (offered.Proxy k) demanded.Nothing left) fit low = let e = fit.0.1 in cc
  result_second c (producer.Acted offer (demanded.Callback d) left) fit low = absurd fit.0.1

  pub demands_the_result : (slots old new : ℕ) (c : Request C) (me : Standing T C P) → old ≡ 1 → new ≡ 4 → me ≡ consumer_aware u state.OnlyResult (Some (item.Callback c))
      → Allows StandsFor slots id me 0 (λ n. either (n == old) new n) (demands_result me)
  demands_the_result slots old new c me eo en e =
      subst (λ (z : ℕ × ℕ × Standing T C P). Allows StandsFor slots id z.2 0 (λ n. either (n == z.0) z.1 n) (demands_result z.2)) (λ i. (sym eo i, sym en i, sym e i))
      (consumer_steps id u ((1, Some (item.Callback c)) ∷ []) 0 (λ n. either (n == 1) 4 n) (demands_result (consumer_aware u state.OnlyResult (Some (item.Callback c)))) (consumer.Aware state.OnlyResult) (λ n. cc) slots (result_second c))

  proxy_second : (c : Request C) → Owes ((1, Some (item.Callback c)) ∷ []) 0 (λ n. either (n == 3) 5 n) (demands_proxy (consumer_aware u state.Proxy (Some (item.Callback c)))) (consumer.Aware state.Proxy)
  proxy_second c producer.Ready fit low = absurd fit.0
  proxy_second c (producer.Holding o) fit low = absurd fit.0
  proxy_second c (producer.Aware o a) fit low = absurd fit.0
  proxy_second c (producer.Acted offered.Nothing demanded.Nothing left) fit low = absurd fit.0.0
  proxy_second c (producer.Acted (offered.Proxy r) demanded.Nothing left) fit low =
      (consumer.Acted (demanded.Callback c) (offered.Proxy r) departed.No, takes 2 (Some (item.Proxy r)), refl, refl, refl, ((tt, refl), fit.1), unset_sight _ _ (λ i w. w), (r, refl))
  proxy_second c (producer.Acted (offered.Result k) demanded.Nothing left) fit low = let e = fit.0.1 in cc
  proxy_second c (producer.Acted offer (demanded.Callback d) left) fit low = absurd fit.0.1

  pub demands_the_proxy : (slots old new : ℕ) (c : Request C) (me : Standing T C P) → old ≡ 3 → new ≡ 5 → me ≡ consumer_aware u state.Proxy (Some (item.Callback c))
      → Allows StandsFor slots id me 0 (λ n. either (n == old) new n) (demands_proxy me)
  demands_the_proxy slots old new c me eo en e =
      subst (λ (z : ℕ × ℕ × Standing T C P). Allows StandsFor slots id z.2 0 (λ n. either (n == z.0) z.1 n) (demands_proxy z.2)) (λ i. (sym eo i, sym en i, sym e i))
      (consumer_steps id u ((1, Some (item.Callback c)) ∷ []) 0 (λ n. either (n == 3) 5 n) (demands_proxy (consumer_aware u state.Proxy (Some (item.Callback c)))) (consumer.Aware state.Proxy) (λ n. cc) slots (proxy_second c))

module _ {T C P : Type 0} where
  -- once what was taken is out and its slot is behind, the callback's slot is in front
  pub then_callback : (me₀ me₁ me₂ before : Standing T C P) (w v : View T C P) (k : ℕ) (x b : Held T C P) → me₀ ≡ (w, (k, x) ∷ before.1) → before ≡ (v, (1, b) ∷ [])
      → me₁ ≡ (me₀.0, (k, None) ∷ rest me₀.1) → me₂ ≡ (me₁.0, turned me₁.1) → me₂.1 ≡ (1, b) ∷ rest me₂.1
  then_callback me₀ me₁ me₂ before w v k x b e₀ e e₁ e₂ =
      let slots : me₀.1 ≡ (k, x) ∷ (1, b) ∷ [] = ap (λ (m : Standing T C P). m.1) e₀ ∙ ap (λ (m : Standing T C P). (k, x) ∷ m.1) e in
      second k 1 None x b me₀.1 me₁.1 me₂.1 slots (ap (λ (m : Standing T C P). m.1) e₁) (ap (λ (m : Standing T C P). m.1) e₂)
