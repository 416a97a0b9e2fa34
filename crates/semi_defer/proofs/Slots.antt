-- Where a seat stands that has put a job into its slot, or taken it out.
use Rattle.std.proofs.Common.{◌≡◌, ℕ, [], ◌∷◌, Option, Some, sym, ap, ◌∙◌}
use Rattle.atomic_table.specs.Table.{rest}
use Rattle.semi_defer.specs.declared.view.View.{View}
use Rattle.semi_defer.specs.Steps.{Standing, slot_with}

module _ {J : Type 0} where
  -- where a seat stands that has changed what its one slot holds
  pub filled : (me before : Standing J) (v : View J) (k : ℕ) (held x : Option J) → me ≡ (before.0, (k, x) ∷ rest before.1) → before ≡ (v, (k, held) ∷ []) → me ≡ (v, (k, x) ∷ [])
  filled me before v k held x put was = put ∙ ap (λ (m : Standing J). (m.0, (k, x) ∷ rest m.1)) was

  pub has_job : (me : Standing J) (v : View J) (job : J) → me ≡ (v, slot_with (Some job)) → me.1 ≡ (0, Some job) ∷ rest me.1
  has_job me v job is = ap (λ (m : Standing J). m.1) is ∙ sym (ap (λ (m : Standing J). (0, Some job) ∷ rest m.1) is)
