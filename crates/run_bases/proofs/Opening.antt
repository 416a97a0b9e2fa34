-- Bases that are opened, or given up, one by one.
use Rattle.std.proofs.Common.{◌≡◌, ℕ, ◌+◌, ◌<◌, List, [], ◌∷◌, ◌++◌, length, get_or, length-append, refl, sym, ap, ◌∙◌, subst, arith}
use Rattle.std.proofs.lemmas.List.{get_or_push, get_or_append_left}
use mathlib.Core.Logic.{dite}
use native.Mathlib.Decide.{ℕ_discrete}
use Rattle.job_trait.specs.declared.job.Head.{Head}
use Rattle.event_base.specs.Seen.{BaseSeen}
use Rattle.run_bases.specs.declared.making.Bases.{Bases}
use Rattle.run_bases.specs.declared.rows.Column.{Column}
use Rattle.run_bases.specs.Columns.{IsColumn, exec_at}
use Rattle.run_bases.specs.Making.{AreOpen, IsNewBase}

module _ {J : Type 0} (head : J → Head) (first senders : ℕ) where
  pub open_none : (m : Bases J) → m.bases.items ≡ [] → m.columns.items ≡ [] → AreOpen head first 0 senders m
  open_none m b c = record {
    as_many = ap length b;
    columns = ap length c;
    bases_are = λ k d below. absurd (omega (arith, below));
    columns_are = λ k d e below. absurd (omega (arith, below));
  }

  abbrev IsOpenAt : ℕ → BaseSeen J → Column J → Type 0
  IsOpenAt k b c = IsColumn head b.queue.queue (exec_at first k) senders senders senders c

  pub open_more : (count : ℕ) (m m' : Bases J) (b : BaseSeen J) (c : Column J) → AreOpen head first count senders m → m'.bases.items ≡ m.bases.items ++ b ∷ [] → m'.columns.items ≡ m.columns.items ++ c ∷ []
      → IsNewBase (exec_at first count) senders b → IsOpenAt count b c → AreOpen head first (count + 1) senders m'
  open_more count m m' b c o bs cs new column = record {
    as_many = omega (arith, ap length bs, length-append m.bases.items (b ∷ []), o.as_many);
    columns = omega (arith, ap length cs, length-append m.columns.items (c ∷ []), o.columns);
    bases_are = λ k d below. subst (λ (l : List (BaseSeen J)). IsNewBase (exec_at first k) senders (get_or l k d)) (sym bs) (dite (ℕ_discrete k count)
        (λ e. subst (λ (x : BaseSeen J). IsNewBase (exec_at first k) senders x) (sym (get_or_push m.bases.items b d k (o.as_many ∙ sym e))) (subst (λ (n : ℕ). IsNewBase (exec_at first n) senders b) (sym e) new))
        (λ n. subst (λ (x : BaseSeen J). IsNewBase (exec_at first k) senders x) (sym (get_or_append_left m.bases.items (b ∷ []) d k (omega (arith, below, n, o.as_many)))) (o.bases_are k d (omega (arith, below, n)))));
    columns_are = λ k d e below. subst (λ (l : List (BaseSeen J)). IsOpenAt k (get_or l k d) (get_or m'.columns.items k e)) (sym bs)
        (subst (λ (l : List (Column J)). IsOpenAt k (get_or (m.bases.items ++ b ∷ []) k d) (get_or l k e)) (sym cs) (dite (ℕ_discrete k count)
        (λ same. subst (λ (x : BaseSeen J). IsOpenAt k x (get_or (m.columns.items ++ c ∷ []) k e)) (sym (get_or_push m.bases.items b d k (o.as_many ∙ sym same)))
        (subst (λ (x : Column J). IsOpenAt k b x) (sym (get_or_push m.columns.items c e k (o.columns ∙ sym same))) (subst (λ (n : ℕ). IsOpenAt n b c) (sym same) column)))
        (λ n. subst (λ (x : BaseSeen J). IsOpenAt k x (get_or (m.columns.items ++ c ∷ []) k e)) (sym (get_or_append_left m.bases.items (b ∷ []) d k (omega (arith, below, n, o.as_many))))
        (subst (λ (x : Column J). IsOpenAt k (get_or m.bases.items k d) x) (sym (get_or_append_left m.columns.items (c ∷ []) e k (omega (arith, below, n, o.columns)))) (o.columns_are k d e (omega (arith, below, n)))))));
  }

  -- the last of them, and the others
  pub open_less : (count : ℕ) (m m' : Bases J) (b : BaseSeen J) (c : Column J) → AreOpen head first count senders m → m.bases.items ≡ m'.bases.items ++ b ∷ [] → m.columns.items ≡ m'.columns.items ++ c ∷ []
      → IsNewBase (exec_at first (length m'.bases.items)) senders b × (IsOpenAt (length m'.bases.items) b c × AreOpen head first (length m'.bases.items) senders m')
  open_less count m m' b c o bs cs =
      let long : length m'.bases.items + 1 ≡ count = omega (arith, ap length bs, length-append m'.bases.items (b ∷ []), o.as_many) in
      let wide : length m'.columns.items + 1 ≡ count = omega (arith, ap length cs, length-append m'.columns.items (c ∷ []), o.columns) in
      let last = length m'.bases.items in
      let b_at : get_or m.bases.items last b ≡ b = ap (λ (l : List (BaseSeen J)). get_or l last b) bs ∙ get_or_push m'.bases.items b b last refl in
      let c_at : get_or m.columns.items last c ≡ c = ap (λ (l : List (Column J)). get_or l last c) cs ∙ get_or_push m'.columns.items c c last (omega (arith, long, wide)) in
      let below : last < count = omega (arith, long) in (
        subst (λ (x : BaseSeen J). IsNewBase (exec_at first last) senders x) b_at (o.bases_are last b below),
        (
          subst (λ (x : BaseSeen J). IsOpenAt last x c) b_at (subst (λ (x : Column J). IsOpenAt last (get_or m.bases.items last b) x) c_at (o.columns_are last b c below)),
          record {
            as_many = refl;
            columns = omega (arith, long, wide);
            bases_are = λ k d lt. subst (λ (x : BaseSeen J). IsNewBase (exec_at first k) senders x)
                (ap (λ (l : List (BaseSeen J)). get_or l k d) bs ∙ get_or_append_left m'.bases.items (b ∷ []) d k lt) (o.bases_are k d (omega (arith, lt, long)));
            columns_are = λ k d e lt. subst (λ (x : BaseSeen J). IsOpenAt k x (get_or m'.columns.items k e))
                (ap (λ (l : List (BaseSeen J)). get_or l k d) bs ∙ get_or_append_left m'.bases.items (b ∷ []) d k lt)
                (subst (λ (x : Column J). IsOpenAt k (get_or m.bases.items k d) x) (ap (λ (l : List (Column J)). get_or l k e) cs ∙ get_or_append_left m'.columns.items (c ∷ []) e k (omega (arith, lt, long, wide)))
                (o.columns_are k d e (omega (arith, lt, long))));
          },
        ),
      )
