-- The cores of replies, one turn further.
use Rattle.std.proofs.Common.{◌≡◌, ℕ, ◌+◌, ◌++◌, List, [], ◌∷◌, refl, sym, ap, ◌∙◌}
use Rattle.core_word.specs.Count.{Counts, raised}
use Rattle.query_model.specs.Order.{Asked}
use Rattle.fan_model.specs.Report.{Asking}
use Rattle.run_plan.specs.Turns.{begun_between}
use Rattle.run_desks.specs.Counted.{HasMade, made_by}

made_one_more : (queries : List Asked) (query : Asked) (made : ℕ) → made_by (queries ++ query ∷ []) made ≡ raised (made_by queries made)
made_one_more [] query made = refl
made_one_more (q ∷ queries) query made = made_one_more queries query (raised made)

pub counted_none : (asked : Asking) (place : ℕ) (first : Counts) → begun_between asked.lines place place ≡ [] → HasMade asked place place first first
counted_none asked place first none = record { are = ap (λ (qs : List Asked). record first { made = made_by qs first.made }) (sym none) }

pub counted_begun : (asked : Asking) (start place : ℕ) (query : Asked) (first old new : Counts)
    → begun_between asked.lines start (place + 1) ≡ begun_between asked.lines start place ++ query ∷ []
    → new ≡ record old { made = raised old.made } → HasMade asked start place first old → HasMade asked start (place + 1) first new
counted_begun asked start place query first old new behind is so_far =
    let before : List Asked = begun_between asked.lines start place in
    record {
      are = is ∙ (ap (λ (c : Counts). record c { made = raised c.made }) so_far.are
          ∙ (ap (λ (n : ℕ). record first { made = n }) (sym (made_one_more before query first.made))
          ∙ ap (λ (qs : List Asked). record first { made = made_by qs first.made }) (sym behind)));
    }

pub counted_same : (asked : Asking) (start place : ℕ) (first old new : Counts) → begun_between asked.lines start (place + 1) ≡ begun_between asked.lines start place
    → new ≡ old → HasMade asked start place first old → HasMade asked start (place + 1) first new
counted_same asked start place first old new behind is so_far =
    record { are = is ∙ (so_far.are ∙ ap (λ (qs : List Asked). record first { made = made_by qs first.made }) (sym behind)) }
