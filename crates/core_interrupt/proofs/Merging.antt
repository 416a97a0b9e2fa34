-- A history with one call more.
use Rattle.std.proofs.Common.{◌≡◌, ◌⊎◌, inl, inr, ⊎_elim, List, [], ◌∷◌, ◌++◌, Option, Some, refl, sym, ap, ◌∙◌, subst}
use Rattle.core_interrupt.specs.declared.state.State.{State}
use Rattle.core_interrupt.specs.declared.history.RaiseEvent.{RaiseEvent}
use Rattle.core_interrupt.specs.declared.history.HearEvent.{HearEvent}
use Rattle.core_interrupt.specs.declared.history.Event.{Event}
use Rattle.core_interrupt.specs.declared.history.Event.TheVariants.{Hears, Raises}
use Rattle.core_interrupt.specs.History.{found_by_raise, found_by_hearer, state_from, hears_in, raises_in, GotBefore, FitsAfter, IsLawful, InterruptHistory}

module _ {A : Type 0} where
  nothing_behind : (front back : List A) (e : A) → [] ≡ front ++ e ∷ back → ⊥
  nothing_behind [] back e same = cc
  nothing_behind (f ∷ fs) back e same = cc

  -- a place in a list with one more at its end is the end, or a place in the list
  split_last : (past front back : List A) (x e : A) → past ++ x ∷ [] ≡ front ++ e ∷ back → ((front ≡ past) × (e ≡ x)) ⊎ ((rest : List A) × (past ≡ front ++ e ∷ rest))
  split_last [] [] back x e same = inl (refl, cc)
  split_last [] (f ∷ fs) back x e same = let tail : [] ≡ fs ++ e ∷ back = cc in absurd (nothing_behind fs back e tail)
  split_last (p ∷ ps) [] back x e same = let head : p ≡ e = cc in inr (ps, ap (λ (y : A). y ∷ ps) head)
  split_last (p ∷ ps) (f ∷ fs) back x e same =
      let head : p ≡ f = cc in
      let tail : ps ++ x ∷ [] ≡ fs ++ e ∷ back = cc in
      ⊎_elim (λ (r : (fs ≡ ps) × (e ≡ x)). inl ((λ i. sym head i ∷ r.0 i), r.1))
      (λ (r : (rest : List A) × (ps ≡ fs ++ e ∷ rest)). inr (r.0, λ i. head i ∷ r.1 i))
      (split_last ps fs back x e tail)

module _ {H I : Type 0} where
  hears_more : (past : List (Event H I)) (e : HearEvent H I) → hears_in (past ++ Hears e ∷ []) ≡ hears_in past ++ e ∷ []
  hears_more [] e = refl
  hears_more (Hears x ∷ es) e = ap (λ (l : List (HearEvent H I)). x ∷ l) (hears_more es e)
  hears_more (Raises x ∷ es) e = hears_more es e

  hears_same : (past : List (Event H I)) (e : RaiseEvent H I) → hears_in (past ++ Raises e ∷ []) ≡ hears_in past
  hears_same [] e = refl
  hears_same (Hears x ∷ es) e = ap (λ (l : List (HearEvent H I)). x ∷ l) (hears_same es e)
  hears_same (Raises x ∷ es) e = hears_same es e

  raises_more : (past : List (Event H I)) (e : RaiseEvent H I) → raises_in (past ++ Raises e ∷ []) ≡ raises_in past ++ e ∷ []
  raises_more [] e = refl
  raises_more (Hears x ∷ es) e = raises_more es e
  raises_more (Raises x ∷ es) e = ap (λ (l : List (RaiseEvent H I)). x ∷ l) (raises_more es e)

  raises_same : (past : List (Event H I)) (e : HearEvent H I) → raises_in (past ++ Hears e ∷ []) ≡ raises_in past
  raises_same [] e = refl
  raises_same (Hears x ∷ es) e = raises_same es e
  raises_same (Raises x ∷ es) e = ap (λ (l : List (RaiseEvent H I)). x ∷ l) (raises_same es e)

  lawful_more : (past : List (Event H I)) (x : Event H I) → IsLawful past → FitsAfter past x → IsLawful (past ++ x ∷ [])
  lawful_more past x lawful fits front back e same =
      ⊎_elim (λ (r : (front ≡ past) × (e ≡ x)). subst (λ (z : List (Event H I) × Event H I). FitsAfter z.0 z.1) (λ i. (sym r.0 i, sym r.1 i)) fits)
      (λ (r : (rest : List (Event H I)) × (past ≡ front ++ e ∷ rest)). lawful front r.0 e r.1)
      (split_last past front back x e same)

  -- the state that a history stands for, by its two parts
  state_is : (hs : List (HearEvent H I)) (rs : List (RaiseEvent H I)) (h : InterruptHistory hs rs) → state_from (hears_in h.past) (raises_in h.past) ≡ state_from hs rs
  state_is hs rs h = λ i. state_from (h.hears_are i) (h.raises_are i)

  -- the hearer acts
  pub hearer_acts : (hs : List (HearEvent H I)) (rs : List (RaiseEvent H I)) (e : HearEvent H I) → InterruptHistory hs rs → found_by_hearer e ≡ state_from hs rs
      → ((past : List (Event H I)) → hears_in past ≡ hs → raises_in past ≡ rs → GotBefore past (Hears e)) → InterruptHistory (hs ++ e ∷ []) rs
  hearer_acts hs rs e h found got = record {
    past = h.past ++ Hears e ∷ [];
    lawful = lawful_more h.past (Hears e) h.lawful record { found = found ∙ sym (state_is hs rs h); got = got h.past h.hears_are h.raises_are };
    hears_are = hears_more h.past e ∙ ap (λ (l : List (HearEvent H I)). l ++ e ∷ []) h.hears_are;
    raises_are = raises_same h.past e ∙ h.raises_are;
  }

  -- the raiser raises
  pub raiser_acts : (hs : List (HearEvent H I)) (rs : List (RaiseEvent H I)) (e : RaiseEvent H I) → InterruptHistory hs rs → found_by_raise e ≡ state_from hs rs
      → ((past : List (Event H I)) → hears_in past ≡ hs → raises_in past ≡ rs → GotBefore past (Raises e)) → InterruptHistory hs (rs ++ e ∷ [])
  raiser_acts hs rs e h found got = record {
    past = h.past ++ Raises e ∷ [];
    lawful = lawful_more h.past (Raises e) h.lawful record { found = found ∙ sym (state_is hs rs h); got = got h.past h.hears_are h.raises_are };
    hears_are = hears_same h.past e ∙ h.hears_are;
    raises_are = raises_more h.past e ∙ ap (λ (l : List (RaiseEvent H I)). l ++ e ∷ []) h.raises_are;
  }

  -- nothing was done
  pub nothing_done : InterruptHistory {H = H} {I = I} [] []
  nothing_done = record { past = []; lawful = λ front back e same. absurd (nothing_behind front back e same); hears_are = refl; raises_are = refl }
