-- A half leaves.
use Rattle.std.proofs.Common.{◌≡◌, ℕ, ◌+◌, ◌-◌, ◌%◌, ◌^◌, inl, inr, List, [], refl, sym, ap, subst, arith}
use Rattle.std.specs.Prelude.{slice_index}
use mathlib.Core.Option as maybe
use lib.ListN.{get_elem?}
use Rattle.fan_base.specs.declared.outcome.Try.{Try}
use Rattle.core_state.specs.declared.schedule.Request.{Request}
use Rattle.core_word.specs.declared.view.Learned.{Learned}
use Rattle.core_word.specs.declared.view.Sight.TheVariants as seen
use Rattle.core_word.specs.Views.{attached}
use Rattle.core_state.specs.declared.schedule.Offer.{Offer}
use Rattle.core_state.specs.declared.schedule.Offer.TheVariants as offered
use Rattle.core_state.specs.declared.schedule.Demand.{Demand}
use Rattle.core_state.specs.declared.schedule.Demand.TheVariants as demanded
use Rattle.atomic_table.specs.Table.{keeps, gives, chain, Allows}
use Rattle.core_word.specs.declared.view.Departure.TheVariants as departed
use Rattle.core_word.specs.declared.view.ProducerPhase.{ProducerPhase}
use Rattle.core_word.specs.declared.view.ProducerPhase.TheVariants as producer
use Rattle.core_word.specs.declared.view.ConsumerPhase.{ConsumerPhase}
use Rattle.core_word.specs.declared.view.ConsumerPhase.TheVariants as consumer
use Rattle.core_word.specs.Rule.{Held, TableState, IsSet, SightFits, StandsFor}
use Rattle.core_word.specs.Plays.{Standing, producer_acted, producer_slots, consumer_ready, consumer_acted, consumer_slots, departs, leaves, IsLeaving}
use Rattle.core_word.proofs.Owing.{ProducerOwes, ConsumerOwes, producer_steps, consumer_steps, beside_producer, allows_also, unset_sight, left_sight}

-- one less
abbrev pub less : ℕ → ℕ
less n = (n + (2 ^ 64 - 1)) % 2 ^ 64

module _ {T C P : Type 0} (id u : ℕ) (learned : Learned) where
  abbrev Owes : List (ℕ × Held T C P) → ℕ → (ℕ → ℕ) → (ℕ → Standing T C P → Type 0) → ProducerPhase T C P → Type 0
  Owes = ProducerOwes id u learned

  result_leaves : (r : Try T) → Owes [] 1 less (departs (producer_acted u learned (offered.Result r) demanded.Nothing)) (producer.Acted (offered.Result r) demanded.Nothing departed.No)
  result_leaves r consumer.Ready fit low = (producer.Acted (offered.Result r) demanded.Nothing departed.First, keeps, tt, refl, refl, (fit.0, tt), ((λ e. absurd (omega arith)), λ ne. (refl, refl)))
  result_leaves r consumer.Holding fit low = (producer.Acted (offered.Result r) demanded.Nothing departed.First, keeps, tt, refl, refl, (fit.0, tt), ((λ e. absurd (omega arith)), λ ne. (refl, refl)))
  result_leaves r (consumer.Aware s) fit low = (producer.Acted (offered.Result r) demanded.Nothing departed.First, keeps, tt, refl, refl, (fit.0, tt), ((λ e. absurd (omega arith)), λ ne. (refl, refl)))
  result_leaves r (consumer.Acted demand got departed.No) fit low = (producer.Acted (offered.Result r) demanded.Nothing departed.First, keeps, tt, refl, refl, (fit.0, tt), ((λ e. absurd (omega arith)), λ ne. (refl, refl)))
  result_leaves r (consumer.Acted demand got departed.First) fit low = (producer.Acted (offered.Result r) demanded.Nothing departed.Last, keeps, tt, refl, refl, (fit.0, tt), ((λ e. refl), λ ne. absurd (ne refl)))
  result_leaves r (consumer.Acted demand got departed.Last) fit low = absurd fit.1

  result_met_leaves : (r : Try T) (c : Request C) → Owes (producer_slots (offered.Result r) (demanded.Callback c)) 1 less (departs (producer_acted u learned (offered.Result r) (demanded.Callback c))) (producer.Acted (offered.Result r) (demanded.Callback c) departed.No)
  result_met_leaves r c consumer.Ready fit low = absurd fit.0.1
  result_met_leaves r c consumer.Holding fit low = absurd fit.0.1
  result_met_leaves r c (consumer.Aware s) fit low = absurd fit.0.1
  result_met_leaves r c (consumer.Acted demanded.Nothing got left) fit low = absurd fit.0.1
  result_met_leaves r c (consumer.Acted (demanded.Callback d) (offered.Result q) left) fit low = let e = fit.0.1.1 in cc
  result_met_leaves r c (consumer.Acted (demanded.Callback d) (offered.Proxy q) left) fit low = let e = fit.0.1.1 in cc
  result_met_leaves r c (consumer.Acted (demanded.Callback d) offered.Nothing departed.No) fit low = (producer.Acted (offered.Result r) (demanded.Callback c) departed.First, chain gives gives, (tt, tt), refl, refl, (fit.0, tt), ((λ e. absurd (omega arith)), λ ne. (refl, refl)))
  result_met_leaves r c (consumer.Acted (demanded.Callback d) offered.Nothing departed.First) fit low = (producer.Acted (offered.Result r) (demanded.Callback c) departed.Last, chain gives gives, (tt, tt), refl, refl, (fit.0, tt), ((λ e. refl), λ ne. absurd (ne refl)))
  result_met_leaves r c (consumer.Acted (demanded.Callback d) offered.Nothing departed.Last) fit low = absurd fit.1

  proxy_leaves : (r : P) → Owes [] 1 less (departs (producer_acted u learned (offered.Proxy r) demanded.Nothing)) (producer.Acted (offered.Proxy r) demanded.Nothing departed.No)
  proxy_leaves r consumer.Ready fit low = (producer.Acted (offered.Proxy r) demanded.Nothing departed.First, keeps, tt, refl, refl, (fit.0, tt), ((λ e. absurd (omega arith)), λ ne. (refl, refl)))
  proxy_leaves r consumer.Holding fit low = (producer.Acted (offered.Proxy r) demanded.Nothing departed.First, keeps, tt, refl, refl, (fit.0, tt), ((λ e. absurd (omega arith)), λ ne. (refl, refl)))
  proxy_leaves r (consumer.Aware s) fit low = (producer.Acted (offered.Proxy r) demanded.Nothing departed.First, keeps, tt, refl, refl, (fit.0, tt), ((λ e. absurd (omega arith)), λ ne. (refl, refl)))
  proxy_leaves r (consumer.Acted demand got departed.No) fit low = (producer.Acted (offered.Proxy r) demanded.Nothing departed.First, keeps, tt, refl, refl, (fit.0, tt), ((λ e. absurd (omega arith)), λ ne. (refl, refl)))
  proxy_leaves r (consumer.Acted demand got departed.First) fit low = (producer.Acted (offered.Proxy r) demanded.Nothing departed.Last, keeps, tt, refl, refl, (fit.0, tt), ((λ e. refl), λ ne. absurd (ne refl)))
  proxy_leaves r (consumer.Acted demand got departed.Last) fit low = absurd fit.1

  proxy_met_leaves : (r : P) (c : Request C) → Owes (producer_slots (offered.Proxy r) (demanded.Callback c)) 1 less (departs (producer_acted u learned (offered.Proxy r) (demanded.Callback c))) (producer.Acted (offered.Proxy r) (demanded.Callback c) departed.No)
  proxy_met_leaves r c consumer.Ready fit low = absurd fit.0.1
  proxy_met_leaves r c consumer.Holding fit low = absurd fit.0.1
  proxy_met_leaves r c (consumer.Aware s) fit low = absurd fit.0.1
  proxy_met_leaves r c (consumer.Acted demanded.Nothing got left) fit low = absurd fit.0.1
  proxy_met_leaves r c (consumer.Acted (demanded.Callback d) (offered.Result q) left) fit low = let e = fit.0.1.1 in cc
  proxy_met_leaves r c (consumer.Acted (demanded.Callback d) (offered.Proxy q) left) fit low = let e = fit.0.1.1 in cc
  proxy_met_leaves r c (consumer.Acted (demanded.Callback d) offered.Nothing departed.No) fit low = (producer.Acted (offered.Proxy r) (demanded.Callback c) departed.First, chain gives gives, (tt, tt), refl, refl, (fit.0, tt), ((λ e. absurd (omega arith)), λ ne. (refl, refl)))
  proxy_met_leaves r c (consumer.Acted (demanded.Callback d) offered.Nothing departed.First) fit low = (producer.Acted (offered.Proxy r) (demanded.Callback c) departed.Last, chain gives gives, (tt, tt), refl, refl, (fit.0, tt), ((λ e. refl), λ ne. absurd (ne refl)))
  proxy_met_leaves r c (consumer.Acted (demanded.Callback d) offered.Nothing departed.Last) fit low = absurd fit.1

  producer_leaves : (slots : ℕ) (offer : Offer (Try T) P) (got : Demand C) → IsSet offer → Allows StandsFor slots id (producer_acted u learned offer got) 1 less (departs (producer_acted u learned offer got))
  producer_leaves slots offered.Nothing got set = absurd set
  producer_leaves slots (offered.Result r) demanded.Nothing set = producer_steps id u learned [] 1 less (departs (producer_acted u learned (offered.Result r) demanded.Nothing)) (producer.Acted (offered.Result r) demanded.Nothing departed.No) (λ e. cc) slots (result_leaves r)
  producer_leaves slots (offered.Result r) (demanded.Callback c) set = producer_steps id u learned _ 1 less (departs (producer_acted u learned (offered.Result r) (demanded.Callback c))) (producer.Acted (offered.Result r) (demanded.Callback c) departed.No) (λ e. cc) slots (result_met_leaves r c)
  producer_leaves slots (offered.Proxy k) demanded.Nothing set = producer_steps id u learned [] 1 less (departs (producer_acted u learned (offered.Proxy k) demanded.Nothing)) (producer.Acted (offered.Proxy k) demanded.Nothing departed.No) (λ e. cc) slots (proxy_leaves k)
  producer_leaves slots (offered.Proxy k) (demanded.Callback c) set = producer_steps id u learned _ 1 less (departs (producer_acted u learned (offered.Proxy k) (demanded.Callback c))) (producer.Acted (offered.Proxy k) (demanded.Callback c) departed.No) (λ e. cc) slots (proxy_met_leaves k c)

  -- a producer that has seen its consumer leave finds one half attached
  producer_alone : (offer : Offer (Try T) P) (got : Demand C) (s : TableState T C P) → StandsFor s → get_elem? s.views id ≡ maybe.some (producer_acted u learned offer got).0
      → learned.sight ≡ seen.CallbackLeft → slice_index s.words 1 ≡ 1
  producer_alone offer got s holds at left =
      let b = beside_producer s id u (producer.Acted offer got departed.No) learned (λ e. cc) at holds in
      let sees : SightFits seen.CallbackLeft b.c = subst (λ y. SightFits y b.c) left b.sees in
      subst (λ ws. slice_index ws 1 ≡ 1) (sym b.words) (ap (λ d. attached departed.No + attached d) sees.1)

  pub producer_goes : (slots : ℕ) (offer : Offer (Try T) P) (got : Demand C) → IsSet offer → Allows StandsFor slots id (producer_acted u learned offer got) 1 less (leaves (producer_acted u learned offer got))
  producer_goes slots offer got set = allows_also slots id (producer_acted u learned offer got) 1 less (departs (producer_acted u learned offer got)) (λ found. learned.sight ≡ seen.CallbackLeft → found ≡ 1)
      (producer_alone offer got) (producer_leaves slots offer got set)

module _ {T C P : Type 0} (id u : ℕ) where
  abbrev DemandOwes : List (ℕ × Held T C P) → ℕ → (ℕ → ℕ) → (ℕ → Standing T C P → Type 0) → ConsumerPhase T C P → Type 0
  DemandOwes = ConsumerOwes id u

  gives_up : DemandOwes [] 1 less (departs (consumer_ready u)) consumer.Ready
  gives_up producer.Ready fit low = (consumer.Acted demanded.Nothing offered.Nothing departed.First, keeps, tt, refl, refl, (refl, tt), unset_sight _ _ (λ i w. w), ((λ e. absurd (omega arith)), λ ne. (refl, refl)))
  gives_up (producer.Holding o) fit low = (consumer.Acted demanded.Nothing offered.Nothing departed.First, keeps, tt, refl, refl, (refl, tt), unset_sight _ _ (λ i w. w), ((λ e. absurd (omega arith)), λ ne. (refl, refl)))
  gives_up (producer.Aware o a) fit low = absurd fit.0
  gives_up (producer.Acted offer demanded.Nothing departed.No) fit low = (consumer.Acted demanded.Nothing offered.Nothing departed.First, keeps, tt, refl, refl, ((fit.0.0, refl), tt), unset_sight _ _ (λ i w. w), ((λ e. absurd (omega arith)), λ ne. (refl, refl)))
  gives_up (producer.Acted offer demanded.Nothing departed.First) fit low = (consumer.Acted demanded.Nothing offered.Nothing departed.Last, keeps, tt, refl, refl, ((fit.0.0, refl), tt), unset_sight _ _ (λ i w. w), ((λ e. refl), λ ne. absurd (ne refl)))
  gives_up (producer.Acted offer demanded.Nothing departed.Last) fit low = absurd fit.1
  gives_up (producer.Acted offer (demanded.Callback d) left) fit low = absurd fit.0.1

  callback_leaves : (c : Request C) → DemandOwes [] 1 less (departs (consumer_acted u (demanded.Callback c) offered.Nothing)) (consumer.Acted (demanded.Callback c) offered.Nothing departed.No)
  callback_leaves c producer.Ready fit low = (consumer.Acted (demanded.Callback c) offered.Nothing departed.First, keeps, tt, refl, refl, (fit.0, tt), left_sight _ _ _, ((λ e. absurd (omega arith)), λ ne. (refl, refl)))
  callback_leaves c (producer.Holding o) fit low = (consumer.Acted (demanded.Callback c) offered.Nothing departed.First, keeps, tt, refl, refl, (fit.0, tt), left_sight _ _ _, ((λ e. absurd (omega arith)), λ ne. (refl, refl)))
  callback_leaves c (producer.Aware o a) fit low = (consumer.Acted (demanded.Callback c) offered.Nothing departed.First, keeps, tt, refl, refl, (fit.0, tt), left_sight _ _ _, ((λ e. absurd (omega arith)), λ ne. (refl, refl)))
  callback_leaves c (producer.Acted offered.Nothing demanded.Nothing left) fit low = absurd fit.0.0
  callback_leaves c (producer.Acted (offered.Result r) demanded.Nothing left) fit low = let e = fit.0.1 in cc
  callback_leaves c (producer.Acted (offered.Proxy k) demanded.Nothing left) fit low = let e = fit.0.1 in cc
  callback_leaves c (producer.Acted offer (demanded.Callback d) departed.No) fit low = (consumer.Acted (demanded.Callback c) offered.Nothing departed.First, keeps, tt, refl, refl, (fit.0, tt), left_sight _ _ _, ((λ e. absurd (omega arith)), λ ne. (refl, refl)))
  callback_leaves c (producer.Acted offer (demanded.Callback d) departed.First) fit low = (consumer.Acted (demanded.Callback c) offered.Nothing departed.Last, keeps, tt, refl, refl, (fit.0, tt), left_sight _ _ _, ((λ e. refl), λ ne. absurd (ne refl)))
  callback_leaves c (producer.Acted offer (demanded.Callback d) departed.Last) fit low = absurd fit.1

  got_result_leaves : (c : Request C) (r : Try T) → DemandOwes (consumer_slots (offered.Result r)) 1 less (departs (consumer_acted u (demanded.Callback c) (offered.Result r))) (consumer.Acted (demanded.Callback c) (offered.Result r) departed.No)
  got_result_leaves c r producer.Ready fit low = let e = fit.0 in cc
  got_result_leaves c r (producer.Holding o) fit low = let e = fit.0 in cc
  got_result_leaves c r (producer.Aware o a) fit low = let e = fit.0 in cc
  got_result_leaves c r (producer.Acted offered.Nothing demanded.Nothing left) fit low = absurd fit.0.0
  got_result_leaves c r (producer.Acted (offered.Result x) demanded.Nothing departed.No) fit low = (consumer.Acted (demanded.Callback c) (offered.Result r) departed.First, chain gives gives, (tt, tt), refl, refl, (fit.0, tt), left_sight _ _ _, ((λ e. absurd (omega arith)), λ ne. (refl, refl)))
  got_result_leaves c r (producer.Acted (offered.Result x) demanded.Nothing departed.First) fit low = (consumer.Acted (demanded.Callback c) (offered.Result r) departed.Last, chain gives gives, (tt, tt), refl, refl, (fit.0, tt), left_sight _ _ _, ((λ e. refl), λ ne. absurd (ne refl)))
  got_result_leaves c r (producer.Acted (offered.Result x) demanded.Nothing departed.Last) fit low = absurd fit.1
  got_result_leaves c r (producer.Acted (offered.Proxy x) demanded.Nothing left) fit low = let e = fit.0.1 in cc
  got_result_leaves c r (producer.Acted offer (demanded.Callback d) left) fit low = let e = fit.0.1.1 in cc

  got_proxy_leaves : (c : Request C) (r : P) → DemandOwes (consumer_slots (offered.Proxy r)) 1 less (departs (consumer_acted u (demanded.Callback c) (offered.Proxy r))) (consumer.Acted (demanded.Callback c) (offered.Proxy r) departed.No)
  got_proxy_leaves c r producer.Ready fit low = let e = fit.0 in cc
  got_proxy_leaves c r (producer.Holding o) fit low = let e = fit.0 in cc
  got_proxy_leaves c r (producer.Aware o a) fit low = let e = fit.0 in cc
  got_proxy_leaves c r (producer.Acted offered.Nothing demanded.Nothing left) fit low = absurd fit.0.0
  got_proxy_leaves c r (producer.Acted (offered.Proxy x) demanded.Nothing departed.No) fit low = (consumer.Acted (demanded.Callback c) (offered.Proxy r) departed.First, chain gives gives, (tt, tt), refl, refl, (fit.0, tt), left_sight _ _ _, ((λ e. absurd (omega arith)), λ ne. (refl, refl)))
  got_proxy_leaves c r (producer.Acted (offered.Proxy x) demanded.Nothing departed.First) fit low = (consumer.Acted (demanded.Callback c) (offered.Proxy r) departed.Last, chain gives gives, (tt, tt), refl, refl, (fit.0, tt), left_sight _ _ _, ((λ e. refl), λ ne. absurd (ne refl)))
  got_proxy_leaves c r (producer.Acted (offered.Proxy x) demanded.Nothing departed.Last) fit low = absurd fit.1
  got_proxy_leaves c r (producer.Acted (offered.Result x) demanded.Nothing left) fit low = let e = fit.0.1 in cc
  got_proxy_leaves c r (producer.Acted offer (demanded.Callback d) left) fit low = let e = fit.0.1.1 in cc

  consumer_leaves : (slots : ℕ) (demand : Demand C) (got : Offer (Try T) P) → Allows StandsFor slots id (consumer_acted u demand got) 1 less (departs (consumer_acted u demand got))
  consumer_leaves slots demanded.Nothing got = consumer_steps id u [] 1 less (departs (consumer_ready u)) consumer.Ready (λ e. cc) slots gives_up
  consumer_leaves slots (demanded.Callback c) offered.Nothing = consumer_steps id u [] 1 less (departs (consumer_acted u (demanded.Callback c) offered.Nothing)) (consumer.Acted (demanded.Callback c) offered.Nothing departed.No) (λ e. cc) slots (callback_leaves c)
  consumer_leaves slots (demanded.Callback c) (offered.Result r) = consumer_steps id u _ 1 less (departs (consumer_acted u (demanded.Callback c) (offered.Result r))) (consumer.Acted (demanded.Callback c) (offered.Result r) departed.No) (λ e. cc) slots (got_result_leaves c r)
  consumer_leaves slots (demanded.Callback c) (offered.Proxy k) = consumer_steps id u _ 1 less (departs (consumer_acted u (demanded.Callback c) (offered.Proxy k))) (consumer.Acted (demanded.Callback c) (offered.Proxy k) departed.No) (λ e. cc) slots (got_proxy_leaves c k)

  pub consumer_goes : (slots : ℕ) (demand : Demand C) (got : Offer (Try T) P) → Allows StandsFor slots id (consumer_acted u demand got) 1 less (leaves (consumer_acted u demand got))
  consumer_goes slots demanded.Nothing got = allows_also slots id (consumer_ready u) 1 less (departs (consumer_ready u)) (λ found. seen.Unseen ≡ seen.CallbackLeft → found ≡ 1)
      (λ s holds at e. cc) (consumer_leaves slots demanded.Nothing got)
  consumer_goes slots (demanded.Callback c) got = allows_also slots id (consumer_acted u (demanded.Callback c) got) 1 less (departs (consumer_acted u (demanded.Callback c) got)) (λ found. seen.Unseen ≡ seen.CallbackLeft → found ≡ 1)
      (λ s holds at e. cc) (consumer_leaves slots (demanded.Callback c) got)

-- a half that may leave leaves
pub half_leaves : {T C P : Type 0} (slots id : ℕ) (me : Standing T C P) → IsLeaving me → Allows StandsFor slots id me 1 less (leaves me)
half_leaves slots id me (inl t) = subst (λ m. Allows StandsFor slots id m 1 less (leaves m)) (sym t.5) (producer_goes id t.0 t.1 slots t.2 t.3 t.4)
half_leaves slots id me (inr t) = subst (λ m. Allows StandsFor slots id m 1 less (leaves m)) (sym t.3) (consumer_goes id t.0 slots t.1 t.2)
