-- A last leaver sets the state back, and attaches both halves of the next use.
use Rattle.std.proofs.Common.{◌≡◌, ℕ, suc, inl, inr, ⊎_elim, refl, sym, ap, ◌∙◌, subst}
use mathlib.Core.Option as maybe
use lib.ListN.{get_elem?}
use Rattle.std.specs.Prelude.{slice_set}
use Rattle.fan_base.specs.declared.outcome.Try.{Try}
use Rattle.core_state.specs.declared.schedule.Offer.{Offer}
use Rattle.core_state.specs.declared.schedule.Demand.{Demand}
use Rattle.atomic_table.specs.Table.{keeps, gives, chain, Allows, homes_after}
use Rattle.atomic_table.proofs.Lists.{set_here, set_else}
use Rattle.core_word.specs.declared.view.View.{View}
use Rattle.core_word.specs.declared.view.View.TheVariants as view
use Rattle.core_word.specs.Rule.{TableState, IsPast, Over, Reopening, StandsFor}
use Rattle.core_word.specs.Plays.{Standing, husk_at, reopening_at, sets_back, reopens}
use Rattle.core_word.proofs.Firsts.{once_plain}
use Rattle.core_word.proofs.Owing.{within, of_unbegun, of_begun, of_over, of_reopening, of_joined, over_others}

module _ {T C P : Type 0} where
  -- where a seat is a husk, its use is over
  pub husk_ends : (id u : ℕ) (offer : Offer (Try T) P) (demand : Demand C) (s : TableState T C P) → StandsFor s → get_elem? s.views id ≡ maybe.some (view.Husk u offer demand) → (b : Over s) × (id ≡ b.last) × (u ≡ b.number)
  husk_ends id u offer demand s (inl b) at = let r = of_unbegun s id _ at (λ n past. past) b in let e = r.1 in cc
  husk_ends id u offer demand s (inr (inl b)) at = ⊎_elim
      (λ (r : (id ≡ b.producer) × (view.Husk u offer demand ≡ view.Producer b.number b.p b.learned)). let e = r.1 in cc)
      (λ (r : (id ≡ b.consumer) × (view.Husk u offer demand ≡ view.Consumer b.number b.c)). let e = r.1 in cc)
      (of_begun s id _ at (λ n past. past) b)
  husk_ends id u offer demand s (inr (inr (inl b))) at = let r = of_over s id _ at (λ n past. past) b in let same = r.1 in let number : u ≡ b.number = cc in (b, r.0, number)
  husk_ends id u offer demand s (inr (inr (inr (inl b)))) at = let r = of_reopening s id _ at (λ n past. past) b in let e = r.1 in cc
  husk_ends id u offer demand s (inr (inr (inr (inr b)))) at = let r = of_joined s id _ at (λ n past. past) b in let e = r.1 in cc

  reopening_is : (id u : ℕ) (s : TableState T C P) → StandsFor s → get_elem? s.views id ≡ maybe.some (view.Reopening u) → (b : Reopening s) × (id ≡ b.seat) × (u ≡ b.number)
  reopening_is id u s (inl b) at = let r = of_unbegun s id _ at (λ n past. past) b in let e = r.1 in cc
  reopening_is id u s (inr (inl b)) at = ⊎_elim
      (λ (r : (id ≡ b.producer) × (view.Reopening u ≡ view.Producer b.number b.p b.learned)). let e = r.1 in cc)
      (λ (r : (id ≡ b.consumer) × (view.Reopening u ≡ view.Consumer b.number b.c)). let e = r.1 in cc)
      (of_begun s id _ at (λ n past. past) b)
  reopening_is id u s (inr (inr (inl b))) at = let r = of_over s id _ at (λ n past. past) b in let e = r.1 in cc
  reopening_is id u s (inr (inr (inr (inl b)))) at = let r = of_reopening s id _ at (λ n past. past) b in let same = r.1 in let number : u ≡ b.number = cc in (b, r.0, number)
  reopening_is id u s (inr (inr (inr (inr b)))) at = let r = of_joined s id _ at (λ n past. past) b in let e = r.1 in cc

  husk_sets_back : (slots id u : ℕ) (offer : Offer (Try T) P) (demand : Demand C) → Allows StandsFor slots id (husk_at u offer demand) 0 (λ _. 0) (sets_back (husk_at u offer demand))
  husk_sets_back slots id u offer demand s holds long at small =
      let r = husk_ends id u offer demand s holds at in
      let b = r.0 in
      let w : View T C P = view.Reopening u in (
        w,
        keeps,
        tt,
        inr (inr (inr (inl record {
          seat = id;
          number = u;
          at = set_here s.views id w (within s.views id _ at);
          others = λ k v ne e. subst (λ n. IsPast (suc n) v) (sym r.2) (over_others s b k v (λ x. ne (x ∙ sym r.1)) (sym (set_else s.views id k w ne) ∙ e));
          words = ap (λ ws. slice_set ws 0 0) b.words;
          homes = b.homes;
          once = once_plain s.views id w (within s.views id _ at) b.once (λ n first. first);
        }))),
        refl,
      )

  pub sets_state_back : (slots id new u : ℕ) (offer : Offer (Try T) P) (demand : Demand C) (me : Standing T C P) → new ≡ 0 → me ≡ husk_at u offer demand → Allows StandsFor slots id me 0 (λ _. new) (sets_back me)
  sets_state_back slots id new u offer demand me en e =
      subst (λ (z : ℕ × Standing T C P). Allows StandsFor slots id z.1 0 (λ _. z.0) (sets_back z.1)) (λ i. (sym en i, sym e i)) (husk_sets_back slots id u offer demand)

  reopening_reopens : (slots id u : ℕ) → Allows StandsFor slots id (reopening_at {T = T} {C = C} {P = P} u) 1 (λ _. 2) (reopens (reopening_at u))
  reopening_reopens slots id u s holds long at small =
      let r = reopening_is id u s holds at in
      let b = r.0 in
      let w : View T C P = view.Key (suc u) in (
        w,
        chain gives (chain gives gives),
        (tt, (tt, tt)),
        inl record {
          seat = id;
          number = suc u;
          at = set_here s.views id w (within s.views id _ at);
          others = λ k v ne e. subst (λ n. IsPast (suc n) v) (sym r.2) (b.others k v (λ x. ne (x ∙ sym r.1)) (sym (set_else s.views id k w ne) ∙ e));
          words = ap (λ ws. slice_set ws 1 2) b.words;
          homes = ap (λ hs. homes_after hs (reopening_at {T = T} {C = C} {P = P} u).1 (chain gives (chain gives gives))) b.homes;
          once = once_plain s.views id w (within s.views id _ at) b.once (λ n first. first);
        },
        refl,
      )

  pub attaches_both : (slots id u : ℕ) (me : Standing T C P) → me ≡ reopening_at u → Allows StandsFor slots id me 1 (λ _. 2) (reopens me)
  attaches_both slots id u me e = subst (λ (m : Standing T C P). Allows StandsFor slots id m 1 (λ _. 2) (reopens m)) (sym e) (reopening_reopens slots id u)
