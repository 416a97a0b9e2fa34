-- Where a seat stands that has put something into its slot, or taken it out, and what a test of two numbers says.
use Rattle.std.proofs.Common.{◌≡◌, ◌≢◌, ℕ, ⊎_elim, eqb, true, false, List, [], ◌∷◌, Option, None, Some, sym, ap, ◌∙◌, subst}
use Rattle.std.specs.Bool.{OnTrue, OnFalse}
use Rattle.std.proofs.lemmas.Bool.Decides.{eqb_tells}
use Rattle.atomic_table.specs.Table.{rest, turned}
use Rattle.core_interrupt.specs.declared.view.View.{View}
use Rattle.core_interrupt.specs.declared.view.View.TheVariants as view
use Rattle.core_interrupt.specs.declared.view.Hearing.TheVariants as hearing
use Rattle.core_interrupt.specs.Views.{Held, IfHearer, IsArmed}
use Rattle.core_interrupt.specs.Steps.{Standing, hearer_at, armed, empty_slot, with_handler, with_object}

pub on_true : (a b : ℕ) (P : Type 0) → (a ≡ b → P) → OnTrue (eqb a b) P
on_true a b P f = ⊎_elim (λ (t : (eqb a b ≡ true) × (a ≡ b)). subst (λ v. OnTrue v P) (sym t.0) (f t.1)) (λ (t : (eqb a b ≡ false) × (a ≢ b)). subst (λ v. OnTrue v P) (sym t.0) tt) (eqb_tells a b)

pub on_false : (a b : ℕ) (P : Type 0) → (a ≢ b → P) → OnFalse (eqb a b) P
on_false a b P f = ⊎_elim (λ (t : (eqb a b ≡ true) × (a ≡ b)). subst (λ v. OnFalse v P) (sym t.0) tt) (λ (t : (eqb a b ≡ false) × (a ≢ b)). subst (λ v. OnFalse v P) (sym t.0) (f t.1)) (eqb_tells a b)

module _ {H I : Type 0} where
  -- where a seat stands that has changed what its one slot holds
  pub filled : (me before : Standing H I) (v : View H I) (k : ℕ) (held x : Held H I) → me ≡ (before.0, (k, x) ∷ rest before.1) → before ≡ (v, (k, held) ∷ []) → me ≡ (v, (k, x) ∷ [])
  filled me before v k held x put was = put ∙ ap (λ (m : Standing H I). (m.0, (k, x) ∷ rest m.1)) was

  -- a seat with both slots has emptied the object's, turned to the handler's and emptied that
  pub both_emptied : (m₀ m₁ m₂ m₃ : Standing H I) (v : View H I) (h : H) (i : I) → m₀ ≡ (v, with_object i (with_handler h [])) → m₁ ≡ (m₀.0, empty_slot 1 (rest m₀.1)) → m₂ ≡ (m₁.0, turned m₁.1) → m₃ ≡ (m₂.0, empty_slot 0 (rest m₂.1))
      → m₃ ≡ (v, empty_slot 0 (empty_slot 1 []))
  both_emptied m₀ m₁ m₂ m₃ v h i p₀ p₁ p₂ p₃ =
      let e₁ : m₁ ≡ (v, empty_slot 1 (with_handler h [])) = p₁ ∙ ap (λ (m : Standing H I). (m.0, empty_slot 1 (rest m.1))) p₀ in
      let e₂ : m₂ ≡ (v, with_handler h (empty_slot 1 [])) = p₂ ∙ ap (λ (m : Standing H I). (m.0, turned m.1)) e₁ in
      p₃ ∙ ap (λ (m : Standing H I). (m.0, empty_slot 0 (rest m.1))) e₂

  -- a seat of a hearer that has set a handler stands so
  pub armed_stands : (me : Standing H I) → IfHearer me.0 IsArmed → me.1 ≡ [] → (h : H) × (got : Option I) × (me ≡ hearer_at (armed h got) [])
  armed_stands (view.Pair, cs) is none = absurd is
  armed_stands (view.Raiser r es, cs) is none = absurd is
  armed_stands (view.Both p es, cs) is none = absurd is
  armed_stands (view.Spent, cs) is none = absurd is
  armed_stands (view.Hearer hearing.Ready, cs) is none = absurd is
  armed_stands (view.Hearer hearing.Holding, cs) is none = absurd is
  armed_stands (view.Hearer hearing.Aware, cs) is none = absurd is
  armed_stands (view.Hearer (hearing.Set h), cs) is none = (h, None, λ k. (view.Hearer (hearing.Set h), none k))
  armed_stands (view.Hearer (hearing.Calling h i), cs) is none = absurd is
  armed_stands (view.Hearer (hearing.Called h i), cs) is none = (h, Some i, λ k. (view.Hearer (hearing.Called h i), none k))
  armed_stands (view.Hearer (hearing.Ending e), cs) is none = absurd is
  armed_stands (view.Hearer (hearing.Ended e), cs) is none = absurd is
