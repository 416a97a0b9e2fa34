-- What follows of jobs that ran one after another.
use Rattle.std.proofs.Common.{◌≡◌, List, [], ◌∷◌, ◌++◌, map, refl, subst, sym}
use Rattle.std.proofs.lemmas.List.Elements.{All-nil, All-cons}
use Rattle.fan_base.specs.declared.number.JobId.{JobId}
use Rattle.fan_base.specs.declared.number.Mark.{Mark}
use Rattle.job_trait.specs.declared.job.Head.{Head}
use Rattle.fan_base.specs.declared.number.Mark.TheVariants.{Done, Memory}
use Rattle.job_trait.specs.Marks.{IsMarkOf, IsDone}
use Rattle.job_trait.specs.Runs.{Ran, Through, Leads, AreMarksOf, RunsAll, done_of, IsKnownBackwards, HeldThroughout}

module _ {W : Type 0} (runs : JobId → W → Mark → W → Type 0) where
  -- no job changes nothing
  pub leads_empty : (w : W) → Leads runs w [] w
  leads_empty w = record { through = refl }

  -- where no job ran, nothing changed
  pub empty_leads : (w v : W) → Leads runs w [] v → w ≡ v
  empty_leads w v leads = leads.through

  through-append : (w m v : W) (xs ys : List Ran) → Through runs w xs m → Through runs m ys v → Through runs w (xs ++ ys) v
  through-append w m v [] ys first second = subst (λ (u : W). Through runs u ys v) (sym first) second
  through-append w m v (x ∷ xs) ys first second = (first.0, first.1, through-append first.0 m v xs ys first.2 second)

  -- a list after a list
  pub leads-append : (w m v : W) (xs ys : List Ran) → Leads runs w xs m → Leads runs m ys v → Leads runs w (xs ++ ys) v
  leads-append w m v xs ys first second = record { through = through-append w m v xs ys first.through second.through }

  through-part : (w v : W) (xs ys : List Ran) → Through runs w (xs ++ ys) v → (m : W) × Through runs w xs m × Through runs m ys v
  through-part w v [] ys all = (w, refl, all)
  through-part w v (x ∷ xs) ys all = let rest = through-part all.0 v xs ys all.2 in (rest.0, (all.0, all.1, rest.1), rest.2)

  -- a list comes apart at each place
  pub leads-part : (w v : W) (xs ys : List Ran) → Leads runs w (xs ++ ys) v → (m : W) × Leads runs w xs m × Leads runs m ys v
  leads-part w v xs ys all = let parts = through-part w v xs ys all.through in (parts.0, record { through = parts.1 }, record { through = parts.2 })

  -- one job
  pub leads_one : (w v : W) (id : JobId) (mark : Mark) → runs id w mark v → Leads runs w ((id, mark) ∷ []) v
  leads_one w v id mark ran = record { through = (v, ran, refl) }

  -- one more at the end
  pub leads_more : (w m v : W) (xs : List Ran) (id : JobId) (mark : Mark) → Leads runs w xs m → runs id m mark v → Leads runs w (xs ++ (id, mark) ∷ []) v
  leads_more w m v xs id mark leads ran = leads-append w m v xs ((id, mark) ∷ []) leads (leads_one m v id mark ran)

  -- the last one comes apart
  pub leads_last : (w v : W) (xs : List Ran) (id : JobId) (mark : Mark) → Leads runs w (xs ++ (id, mark) ∷ []) v → (m : W) × Leads runs w xs m × runs id m mark v
  leads_last w v xs id mark all =
      let parts = leads-part w v xs ((id, mark) ∷ []) all in
      let one = parts.2.through in
      (parts.0, parts.1, subst (λ (u : W). runs id parts.0 mark u) one.2 one.1)

  through_keeps : (P : W → Type 0) → ((id : JobId) (w : W) (mark : Mark) (v : W) → runs id w mark v → P w → P v) → (w v : W) (xs : List Ran) → Through runs w xs v → P w → P v
  through_keeps P each w v [] all here = subst P all here
  through_keeps P each w v (x ∷ xs) all here = through_keeps P each all.0 v xs all.2 (each x.0 w x.1 all.0 all.1 here)

  -- a fact that each run keeps, the list keeps
  pub leads_keeps : (P : W → Type 0) → ((id : JobId) (w : W) (mark : Mark) (v : W) → runs id w mark v → P w → P v) → (w v : W) (xs : List Ran) → Leads runs w xs v → P w → P v
  leads_keeps P each w v xs leads here = through_keeps P each w v xs leads.through here

module _ {W : Type 0} (runs : JobId → W → Mark → W → Type 0) where
  through_relates : (P : W → W → Type 0) → ((w : W) → P w w) → ((w m v : W) → P w m → P m v → P w v) → ((id : JobId) (w : W) (mark : Mark) (v : W) → runs id w mark v → P w v)
      → (w v : W) (xs : List Ran) → Through runs w xs v → P w v
  through_relates P at_rest joined each w v [] all = subst (P w) all (at_rest w)
  through_relates P at_rest joined each w v (x ∷ xs) all = joined w all.0 v (each x.0 w x.1 all.0 all.1) (through_relates P at_rest joined each all.0 v xs all.2)

  -- a relation of worlds that each run keeps, the list keeps
  pub leads_relates : (P : W → W → Type 0) → ((w : W) → P w w) → ((w m v : W) → P w m → P m v → P w v) → ((id : JobId) (w : W) (mark : Mark) (v : W) → runs id w mark v → P w v)
      → (w v : W) (xs : List Ran) → Leads runs w xs v → P w v
  leads_relates P at_rest joined each w v xs leads = through_relates P at_rest joined each w v xs leads.through

-- marks of a list after marks of a list
pub are_marks-append : (hs gs : List Head) (xs ys : List Ran) → AreMarksOf hs xs → AreMarksOf gs ys → AreMarksOf (hs ++ gs) (xs ++ ys)
are_marks-append [] gs [] ys first second = second
are_marks-append [] gs (x ∷ xs) ys first second = absurd first
are_marks-append (h ∷ hs) gs [] ys first second = absurd first
are_marks-append (h ∷ hs) gs (x ∷ xs) ys first second = (first.0, first.1, are_marks-append hs gs xs ys first.2 second)

module _ {W : Type 0} (runs : JobId → W → Mark → W → Type 0) where
  pub runs_none : (w : W) → RunsAll runs [] w w
  runs_none w = record { list = []; marks = tt; leads = leads_empty runs w }

  pub runs-append : (w m v : W) (hs gs : List Head) → RunsAll runs hs w m → RunsAll runs gs m v → RunsAll runs (hs ++ gs) w v
  runs-append w m v hs gs first second = record {
    list = first.list ++ second.list;
    marks = are_marks-append hs gs first.list second.list first.marks second.marks;
    leads = leads-append runs w m v first.list second.list first.leads second.leads;
  }

  pub runs_one : (w v : W) (h : Head) (mark : Mark) → IsMarkOf h.number mark → runs h.id w mark v → RunsAll runs (h ∷ []) w v
  runs_one w v h mark may ran = record { list = (h.id, mark) ∷ []; marks = (refl, may, tt); leads = leads_one runs w v h.id mark ran }

  pub runs_more : (w m v : W) (hs : List Head) (h : Head) (mark : Mark) → RunsAll runs hs w m → IsMarkOf h.number mark → runs h.id m mark v → RunsAll runs (hs ++ h ∷ []) w v
  runs_more w m v hs h mark first may ran =
      runs-append w m v hs (h ∷ []) first (runs_one m v h mark may ran)

module _ {W : Type 0} (runs : JobId → W → Mark → W → Type 0) (Fact : W → Type 0) (Other : JobId → Mark → Type 0) where
  through_tells : IsKnownBackwards runs Fact Other → (w v : W) (xs : List Ran) → Through runs w xs v → Fact v → HeldThroughout runs Fact Other w xs
  through_tells each w v [] all here = record { first = subst Fact (sym all) here; marks = All-nil (λ r. Other r.0 r.1) }
  through_tells each w v (x ∷ xs) all here =
      let rest = through_tells each all.0 v xs all.2 here in
      let one = each x.0 w x.1 all.0 all.1 rest.first in
      record { first = one.0; marks = All-cons (λ r. Other r.0 r.1) x xs one.1 rest.marks }

  -- a fact of the last world tells backwards
  pub leads_tells : IsKnownBackwards runs Fact Other → (w v : W) (xs : List Ran) → Leads runs w xs v → Fact v → HeldThroughout runs Fact Other w xs
  leads_tells each w v xs leads here = through_tells each w v xs leads.through here

module _ {W : Type 0} (runs : JobId → W → Mark → W → Type 0) (Fact : W → Type 0) where
  done_as : (h : Head) (r : Ran) → r.0 ≡ h.id → IsMarkOf h.number r.1 → IsDone r.1 → r ≡ done_of h
  done_as h (id, Done x) same mark done = λ i. (same i, Done (mark i))
  done_as h (id, Memory) same mark done = absurd done

  through_done : IsKnownBackwards runs Fact (λ _ mark. IsDone mark) → (w v : W) (hs : List Head) (xs : List Ran) → AreMarksOf hs xs → Through runs w xs v → Fact v → Fact w × (xs ≡ map done_of hs)
  through_done each w v [] [] marks all here = (subst Fact (sym all) here, refl)
  through_done each w v [] (x ∷ xs) marks all here = absurd marks
  through_done each w v (h ∷ hs) [] marks all here = absurd marks
  through_done each w v (h ∷ hs) (x ∷ xs) marks all here =
      let rest = through_done each all.0 v hs xs marks.2 all.2 here in
      let one = each x.0 w x.1 all.0 all.1 rest.0 in
      let same = done_as h x marks.0 marks.1 one.1 in
      (one.0, λ i. same i ∷ rest.1 i)

  -- each of these jobs was done
  pub runs_done : IsKnownBackwards runs Fact (λ _ mark. IsDone mark) → (w v : W) (hs : List Head) → RunsAll runs hs w v → Fact v → Leads runs w (map done_of hs) v
  runs_done each w v hs ran here = subst (λ (l : List Ran). Leads runs w l v) (through_done each w v hs ran.list ran.marks ran.leads.through here).1 ran.leads
