-- The last leaver reads the state and takes all slots.
use Rattle.std.proofs.Common.{◌≡◌, ℕ, inl, inr, List, [], refl, sym, ap, ◌∙◌, subst, Some, None}
use Rattle.fan_base.specs.declared.outcome.Try.{Try}
use Rattle.core_state.specs.declared.schedule.Offer.{Offer}
use Rattle.core_state.specs.declared.schedule.Offer.TheVariants as offered
use Rattle.core_state.specs.declared.schedule.Demand.{Demand}
use Rattle.core_state.specs.declared.schedule.Request.{Request}
use Rattle.core_word.specs.declared.view.Learned.{Learned}
use Rattle.core_state.specs.declared.schedule.Demand.TheVariants as demanded
use Rattle.atomic_table.specs.Table.{takes, chain, Allows}
use Rattle.core_word.specs.declared.view.Item.TheVariants as item
use Rattle.core_word.specs.declared.view.Departure.TheVariants as departed
use Rattle.core_word.specs.declared.view.ProducerPhase.{ProducerPhase}
use Rattle.core_word.specs.declared.view.ProducerPhase.TheVariants as producer
use Rattle.core_word.specs.declared.view.ConsumerPhase.{ConsumerPhase}
use Rattle.core_word.specs.declared.view.ConsumerPhase.TheVariants as consumer
use Rattle.core_word.specs.Rule.{StandsFor}
use Rattle.core_word.specs.Plays.{Standing}
use Rattle.atomic_table.proofs.Lists.{set_here, set_else}
use Rattle.core_word.specs.declared.view.View.{View}
use Rattle.core_word.specs.declared.view.View.TheVariants as view
use Rattle.core_word.specs.Views.{producer_left, consumer_left}
use Rattle.core_word.specs.Rule.{Home, words_of, homes_of, Fit, LeavesFit}
use Rattle.core_word.specs.Plays.{Standing, reads_end, IsLast}
use Rattle.core_word.specs.declared.view.Departure.{Departure}
use Rattle.core_word.proofs.Firsts.{once_plain}
use Rattle.core_word.proofs.Owing.{ReadsAll, placed, within, beside_producer, beside_consumer}

only_first : (d : Departure) → LeavesFit departed.Last d → d ≡ departed.First
only_first departed.No fit = absurd fit
only_first departed.First fit = refl
only_first departed.Last fit = absurd fit

first_only : (d : Departure) → LeavesFit d departed.Last → d ≡ departed.First
first_only departed.No fit = absurd fit
first_only departed.First fit = refl
first_only departed.Last fit = absurd fit

module _ {T C P : Type 0} where
  module _ (id u : ℕ) where
    abbrev Reads : View T C P → View T C P → List ℕ → List (Home T C P) → Type 0
    Reads v w = ReadsAll id [] 0 (λ n. n) (reads_end (v, [])) u w

    producer_reads : (learned : Learned) (offer : Offer (Try T) P) (got : Demand C) (c : ConsumerPhase T C P) → Fit (producer.Acted offer got departed.Last) c
        → Reads (view.Producer u (producer.Acted offer got departed.Last) learned) (view.Consumer u c) (words_of (producer.Acted offer got departed.Last) c) (homes_of (producer.Acted offer got departed.Last) c)
    producer_reads learned offer got consumer.Ready fit = absurd fit.1
    producer_reads learned offer got consumer.Holding fit = absurd fit.1
    producer_reads learned offer got (consumer.Aware s) fit = absurd fit.1
    producer_reads learned offer got (consumer.Acted demand got' departed.No) fit = absurd fit.1
    producer_reads learned offer got (consumer.Acted demand got' departed.Last) fit = absurd fit.1
    producer_reads learned offered.Nothing demanded.Nothing (consumer.Acted demand got' departed.First) fit = absurd fit.0.0
    producer_reads learned offered.Nothing (demanded.Callback x) (consumer.Acted demand got' departed.First) fit = absurd fit.0.0
    producer_reads learned (offered.Result r) demanded.Nothing (consumer.Acted demanded.Nothing offered.Nothing departed.First) fit = (offered.Result r, demanded.Nothing, chain (takes 0 (Some (item.Outcome r))) (chain (takes 1 None) (takes 2 None)), (refl, (refl, refl)), refl, refl, tt, (refl, tt), (offered.Result r, demanded.Nothing, tt, (refl, tt), refl))
    producer_reads learned (offered.Result r) demanded.Nothing (consumer.Acted demanded.Nothing (offered.Result q) departed.First) fit = let e = fit.0.1 in cc
    producer_reads learned (offered.Result r) demanded.Nothing (consumer.Acted demanded.Nothing (offered.Proxy q) departed.First) fit = let e = fit.0.1 in cc
    producer_reads learned (offered.Result r) demanded.Nothing (consumer.Acted (demanded.Callback c) (offered.Result q) departed.First) fit = (offered.Result r, demanded.Callback c, chain (takes 0 None) (chain (takes 1 None) (takes 2 None)), (refl, (refl, refl)), refl, refl, tt, (refl, sym fit.0.1), (offered.Result r, demanded.Callback c, tt, (refl, tt), refl))
    producer_reads learned (offered.Result r) demanded.Nothing (consumer.Acted (demanded.Callback c) offered.Nothing departed.First) fit = let e = fit.0.1 in cc
    producer_reads learned (offered.Result r) demanded.Nothing (consumer.Acted (demanded.Callback c) (offered.Proxy q) departed.First) fit = let e = fit.0.1 in cc
    producer_reads learned (offered.Result r) (demanded.Callback x) (consumer.Acted demanded.Nothing got' departed.First) fit = absurd fit.0.1
    producer_reads learned (offered.Result r) (demanded.Callback x) (consumer.Acted (demanded.Callback c) offered.Nothing departed.First) fit = (offered.Result r, demanded.Callback c, chain (takes 0 None) (chain (takes 1 None) (takes 2 None)), (refl, (refl, refl)), refl, refl, tt, (refl, tt), (offered.Result r, demanded.Callback c, tt, (refl, ap (λ (y : Request C). demanded.Callback y) fit.0.1.0), refl))
    producer_reads learned (offered.Result r) (demanded.Callback x) (consumer.Acted (demanded.Callback c) (offered.Result q) departed.First) fit = let e = fit.0.1.1 in cc
    producer_reads learned (offered.Result r) (demanded.Callback x) (consumer.Acted (demanded.Callback c) (offered.Proxy q) departed.First) fit = let e = fit.0.1.1 in cc
    producer_reads learned (offered.Proxy r) demanded.Nothing (consumer.Acted demanded.Nothing offered.Nothing departed.First) fit = (offered.Proxy r, demanded.Nothing, chain (takes 0 None) (chain (takes 1 None) (takes 2 (Some (item.Proxy r)))), (refl, (refl, refl)), refl, refl, tt, (refl, tt), (offered.Proxy r, demanded.Nothing, tt, (refl, tt), refl))
    producer_reads learned (offered.Proxy r) demanded.Nothing (consumer.Acted demanded.Nothing (offered.Result q) departed.First) fit = let e = fit.0.1 in cc
    producer_reads learned (offered.Proxy r) demanded.Nothing (consumer.Acted demanded.Nothing (offered.Proxy q) departed.First) fit = let e = fit.0.1 in cc
    producer_reads learned (offered.Proxy r) demanded.Nothing (consumer.Acted (demanded.Callback c) (offered.Proxy q) departed.First) fit = (offered.Proxy r, demanded.Callback c, chain (takes 0 None) (chain (takes 1 None) (takes 2 None)), (refl, (refl, refl)), refl, refl, tt, (refl, sym fit.0.1), (offered.Proxy r, demanded.Callback c, tt, (refl, tt), refl))
    producer_reads learned (offered.Proxy r) demanded.Nothing (consumer.Acted (demanded.Callback c) offered.Nothing departed.First) fit = let e = fit.0.1 in cc
    producer_reads learned (offered.Proxy r) demanded.Nothing (consumer.Acted (demanded.Callback c) (offered.Result q) departed.First) fit = let e = fit.0.1 in cc
    producer_reads learned (offered.Proxy r) (demanded.Callback x) (consumer.Acted demanded.Nothing got' departed.First) fit = absurd fit.0.1
    producer_reads learned (offered.Proxy r) (demanded.Callback x) (consumer.Acted (demanded.Callback c) offered.Nothing departed.First) fit = (offered.Proxy r, demanded.Callback c, chain (takes 0 None) (chain (takes 1 None) (takes 2 None)), (refl, (refl, refl)), refl, refl, tt, (refl, tt), (offered.Proxy r, demanded.Callback c, tt, (refl, ap (λ (y : Request C). demanded.Callback y) fit.0.1.0), refl))
    producer_reads learned (offered.Proxy r) (demanded.Callback x) (consumer.Acted (demanded.Callback c) (offered.Result q) departed.First) fit = let e = fit.0.1.1 in cc
    producer_reads learned (offered.Proxy r) (demanded.Callback x) (consumer.Acted (demanded.Callback c) (offered.Proxy q) departed.First) fit = let e = fit.0.1.1 in cc

    consumer_reads : (demand : Demand C) (got : Offer (Try T) P) (p : ProducerPhase T C P) (learned : Learned) → Fit p (consumer.Acted demand got departed.Last)
        → Reads (view.Consumer u (consumer.Acted demand got departed.Last)) (view.Producer u p learned) (words_of p (consumer.Acted demand got departed.Last)) (homes_of p (consumer.Acted demand got departed.Last))
    consumer_reads demand got producer.Ready learned fit = absurd fit.1
    consumer_reads demand got (producer.Holding o) learned fit = absurd fit.1
    consumer_reads demand got (producer.Aware o a) learned fit = absurd fit.1
    consumer_reads demand got (producer.Acted offer got' departed.No) learned fit = absurd fit.1
    consumer_reads demand got (producer.Acted offer got' departed.Last) learned fit = absurd fit.1
    consumer_reads demand got (producer.Acted offered.Nothing demanded.Nothing departed.First) learned fit = absurd fit.0.0
    consumer_reads demand got (producer.Acted offered.Nothing (demanded.Callback x) departed.First) learned fit = absurd fit.0.0
    consumer_reads demanded.Nothing offered.Nothing (producer.Acted (offered.Result r) demanded.Nothing departed.First) learned fit = (offered.Result r, demanded.Nothing, chain (takes 0 (Some (item.Outcome r))) (chain (takes 1 None) (takes 2 None)), (refl, (refl, refl)), refl, refl, tt, (refl, tt), (offered.Result r, demanded.Nothing, tt, (refl, tt), refl))
    consumer_reads demanded.Nothing (offered.Result q) (producer.Acted (offered.Result r) demanded.Nothing departed.First) learned fit = let e = fit.0.1 in cc
    consumer_reads demanded.Nothing (offered.Proxy q) (producer.Acted (offered.Result r) demanded.Nothing departed.First) learned fit = let e = fit.0.1 in cc
    consumer_reads (demanded.Callback c) offered.Nothing (producer.Acted (offered.Result r) demanded.Nothing departed.First) learned fit = let e = fit.0.1 in cc
    consumer_reads (demanded.Callback c) (offered.Result q) (producer.Acted (offered.Result r) demanded.Nothing departed.First) learned fit = (offered.Result r, demanded.Callback c, chain (takes 0 None) (chain (takes 1 None) (takes 2 None)), (refl, (refl, refl)), refl, refl, tt, (refl, tt), (offered.Result r, demanded.Callback c, tt, (refl, sym fit.0.1), refl))
    consumer_reads (demanded.Callback c) (offered.Proxy q) (producer.Acted (offered.Result r) demanded.Nothing departed.First) learned fit = let e = fit.0.1 in cc
    consumer_reads demanded.Nothing got (producer.Acted (offered.Result r) (demanded.Callback x) departed.First) learned fit = absurd fit.0.1
    consumer_reads (demanded.Callback c) offered.Nothing (producer.Acted (offered.Result r) (demanded.Callback x) departed.First) learned fit = (offered.Result r, demanded.Callback c, chain (takes 0 None) (chain (takes 1 None) (takes 2 None)), (refl, (refl, refl)), refl, refl, tt, (refl, ap (λ (y : Request C). demanded.Callback y) fit.0.1.0), (offered.Result r, demanded.Callback c, tt, (refl, tt), refl))
    consumer_reads (demanded.Callback c) (offered.Result q) (producer.Acted (offered.Result r) (demanded.Callback x) departed.First) learned fit = let e = fit.0.1.1 in cc
    consumer_reads (demanded.Callback c) (offered.Proxy q) (producer.Acted (offered.Result r) (demanded.Callback x) departed.First) learned fit = let e = fit.0.1.1 in cc
    consumer_reads demanded.Nothing offered.Nothing (producer.Acted (offered.Proxy r) demanded.Nothing departed.First) learned fit = (offered.Proxy r, demanded.Nothing, chain (takes 0 None) (chain (takes 1 None) (takes 2 (Some (item.Proxy r)))), (refl, (refl, refl)), refl, refl, tt, (refl, tt), (offered.Proxy r, demanded.Nothing, tt, (refl, tt), refl))
    consumer_reads demanded.Nothing (offered.Result q) (producer.Acted (offered.Proxy r) demanded.Nothing departed.First) learned fit = let e = fit.0.1 in cc
    consumer_reads demanded.Nothing (offered.Proxy q) (producer.Acted (offered.Proxy r) demanded.Nothing departed.First) learned fit = let e = fit.0.1 in cc
    consumer_reads (demanded.Callback c) offered.Nothing (producer.Acted (offered.Proxy r) demanded.Nothing departed.First) learned fit = let e = fit.0.1 in cc
    consumer_reads (demanded.Callback c) (offered.Proxy q) (producer.Acted (offered.Proxy r) demanded.Nothing departed.First) learned fit = (offered.Proxy r, demanded.Callback c, chain (takes 0 None) (chain (takes 1 None) (takes 2 None)), (refl, (refl, refl)), refl, refl, tt, (refl, tt), (offered.Proxy r, demanded.Callback c, tt, (refl, sym fit.0.1), refl))
    consumer_reads (demanded.Callback c) (offered.Result q) (producer.Acted (offered.Proxy r) demanded.Nothing departed.First) learned fit = let e = fit.0.1 in cc
    consumer_reads demanded.Nothing got (producer.Acted (offered.Proxy r) (demanded.Callback x) departed.First) learned fit = absurd fit.0.1
    consumer_reads (demanded.Callback c) offered.Nothing (producer.Acted (offered.Proxy r) (demanded.Callback x) departed.First) learned fit = (offered.Proxy r, demanded.Callback c, chain (takes 0 None) (chain (takes 1 None) (takes 2 None)), (refl, (refl, refl)), refl, refl, tt, (refl, ap (λ (y : Request C). demanded.Callback y) fit.0.1.0), (offered.Proxy r, demanded.Callback c, tt, (refl, tt), refl))
    consumer_reads (demanded.Callback c) (offered.Result q) (producer.Acted (offered.Proxy r) (demanded.Callback x) departed.First) learned fit = let e = fit.0.1.1 in cc
    consumer_reads (demanded.Callback c) (offered.Proxy q) (producer.Acted (offered.Proxy r) (demanded.Callback x) departed.First) learned fit = let e = fit.0.1.1 in cc

    producer_ends : (slots : ℕ) (learned : Learned) (offer : Offer (Try T) P) (got : Demand C) → Allows StandsFor slots id (view.Producer u (producer.Acted offer got departed.Last) learned, []) 0 (λ n. n) (reads_end (view.Producer u (producer.Acted offer got departed.Last) learned, []))
    producer_ends slots learned offer got s holds long at small =
        let p : ProducerPhase T C P = producer.Acted offer got departed.Last in
        let b = beside_producer s id u p learned (λ e. cc) at holds in
        let c = b.c in
        let r = producer_reads learned offer got c b.fit in
        let w : View T C P = view.Husk u r.0 r.1 in
        let first : consumer_left c ≡ departed.First = only_first (consumer_left c) b.fit.1 in
        placed id [] 0 (λ n. n) (reads_end (view.Producer u p learned, [])) s.words s.homes s.views (words_of p c) (homes_of p c) b.words b.homes (
          w,
          r.2,
          r.3,
          inr (inr (inl record {
            last = id;
            first = b.consumer;
            apart = b.apart;
            number = u;
            offer = r.0;
            demand = r.1;
            set = r.6;
            at_last = set_here s.views id w (within s.views id _ at);
            v = view.Consumer u c;
            at_first = set_else s.views id b.consumer w (λ e. b.apart (sym e)) ∙ b.at_c;
            left = (refl, first);
            knows = r.7;
            others = λ k v ne nc e. b.others k v ne nc (sym (set_else s.views id k w ne) ∙ e);
            words = r.4;
            homes = r.5;
            once = once_plain s.views id w (within s.views id _ at) b.once (λ n first. first);
          })),
          r.8,
        )

    consumer_ends : (slots : ℕ) (demand : Demand C) (got : Offer (Try T) P) → Allows StandsFor slots id (view.Consumer u (consumer.Acted demand got departed.Last), []) 0 (λ n. n) (reads_end (view.Consumer u (consumer.Acted demand got departed.Last), []))
    consumer_ends slots demand got s holds long at small =
        let c : ConsumerPhase T C P = consumer.Acted demand got departed.Last in
        let b = beside_consumer s id u c (λ e. cc) at holds in
        let p = b.p in
        let r = consumer_reads demand got p b.learned b.fit in
        let w : View T C P = view.Husk u r.0 r.1 in
        let first : producer_left p ≡ departed.First = first_only (producer_left p) b.fit.1 in
        placed id [] 0 (λ n. n) (reads_end (view.Consumer u c, [])) s.words s.homes s.views (words_of p c) (homes_of p c) b.words b.homes (
          w,
          r.2,
          r.3,
          inr (inr (inl record {
            last = id;
            first = b.producer;
            apart = λ e. b.apart (sym e);
            number = u;
            offer = r.0;
            demand = r.1;
            set = r.6;
            at_last = set_here s.views id w (within s.views id _ at);
            v = view.Producer u p b.learned;
            at_first = set_else s.views id b.producer w b.apart ∙ b.at_p;
            left = (refl, first);
            knows = r.7;
            others = λ k v ne np e. b.others k v np ne (sym (set_else s.views id k w ne) ∙ e);
            words = r.4;
            homes = r.5;
            once = once_plain s.views id w (within s.views id _ at) b.once (λ n first. first);
          })),
          r.8,
        )

-- the last leaver ends the use
pub last_reads : {T C P : Type 0} (slots id : ℕ) (me : Standing T C P) → me.1 ≡ [] → IsLast me.0 → Allows StandsFor slots id me 0 (λ n. n) (reads_end me)
last_reads slots id me none (inl t) = subst (λ m. Allows StandsFor slots id m 0 (λ n. n) (reads_end m)) (λ i. (sym t.4 i, sym none i)) (producer_ends id t.0 slots t.1 t.2 t.3)
last_reads slots id me none (inr t) = subst (λ m. Allows StandsFor slots id m 0 (λ n. n) (reads_end m)) (λ i. (sym t.3 i, sym none i)) (consumer_ends id t.0 slots t.1 t.2)
