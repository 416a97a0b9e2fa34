-- A batch that is moved out.
use Rattle.std.proofs.Common.{◌≡◌, ℕ, ◌+◌, ◌<◌, ◌≤◌, List, [], ◌∷◌, ◌++◌, length, sym, refl, ap, ◌∙◌, subst, append_assoc, append-nil, arith}
use Rattle.std.specs.declared.alloc.Global.{Global}
use Rattle.std.proofs.lemmas.List.{length-append, nil_from_length}
use Rattle.crossbeam_queue.specs.declared.seg_queue.batch.SegBatch.{SegBatch}
use Rattle.crossbeam_queue.specs.SegBatches.{Holds}
use Rattle.crossbeam_queue.specs.SegTies.{SegId}
use Rattle.notify_queue.specs.declared.delivery.Knowledge.{Knowledge}
use Rattle.notify_queue.specs.declared.stamp.Stamped.{Stamped}
use Rattle.notify_queue.specs.Passes.{PassOf}

abbrev pub BatchOf : Type 0 → Type 0
BatchOf M = SegBatch (Stamped M) (Knowledge M) Global

first_of : {X : Type 0} (xs : List X) → 0 < length xs → (x : X) × (ys : List X) × (xs ≡ x ∷ ys)
first_of [] some = absurd (omega arith)
first_of (x ∷ xs) some = (x, xs, refl)

module _ {M : Type 0} (queue : SegId Global) where
  -- so many of the batch's messages stand behind the others, and the rest is still in it
  pub record MovedOut (pass : PassOf M) (batch : BatchOf M) (before after xs : List (Stamped M)) (count : ℕ) : Type 0 where
    pub moved : List (Stamped M)
    pub left : List (Stamped M)
    pub all : xs ≡ moved ++ left
    pub so_many : length moved ≡ count
    pub behind : after ≡ before ++ moved
    pub holds : Holds queue pass batch left

  pub none_moved : (pass : PassOf M) (batch : BatchOf M) (before xs : List (Stamped M)) → Holds queue pass batch xs → MovedOut pass batch before before xs 0
  none_moved pass batch before xs h = record { moved = []; left = xs; all = refl; so_many = refl; behind = sym (append-nil before); holds = h }

  -- the first of those that are left
  pub next_held : (pass : PassOf M) (batch : BatchOf M) (before after xs : List (Stamped M)) (count : ℕ) → MovedOut pass batch before after xs count → count < length xs
      → (x : Stamped M) × (ys : List (Stamped M)) × Holds queue pass batch (x ∷ ys)
  next_held pass batch before after xs count m more =
      let f = first_of m.left (omega (arith, more, ap length m.all, length-append m.moved m.left, m.so_many)) in
      (f.0, f.1, subst (Holds queue pass batch) f.2 m.holds)

  pub one_moved : (pass pass' : PassOf M) (batch batch' : BatchOf M) (before after xs : List (Stamped M)) (count : ℕ) (x : Stamped M) → MovedOut pass batch before after xs count → count < length xs
      → ((y : Stamped M) (ys : List (Stamped M)) → Holds queue pass batch (y ∷ ys) → (x ≡ y) × Holds queue pass' batch' ys) → MovedOut pass' batch' before (after ++ x ∷ []) xs (count + 1)
  one_moved pass pass' batch batch' before after xs count x m more next =
      let f = first_of m.left (omega (arith, more, ap length m.all, length-append m.moved m.left, m.so_many)) in
      let n = next f.0 f.1 (subst (Holds queue pass batch) f.2 m.holds) in
      record {
        moved = m.moved ++ x ∷ [];
        left = f.1;
        all = m.all ∙ ap (λ l. m.moved ++ l) (f.2 ∙ ap (λ y. y ∷ f.1) (sym n.0)) ∙ sym (append_assoc m.moved (x ∷ []) f.1);
        so_many = omega (arith, length-append m.moved (x ∷ []), m.so_many);
        behind = ap (λ l. l ++ x ∷ []) m.behind ∙ append_assoc before m.moved (x ∷ []);
        holds = n.1;
      }

  pub all_moved : (pass : PassOf M) (batch : BatchOf M) (before after xs : List (Stamped M)) (count : ℕ) → MovedOut pass batch before after xs count → length xs ≤ count
      → (after ≡ before ++ xs) × Holds queue pass batch []
  all_moved pass batch before after xs count m done =
      let none : m.left ≡ [] = nil_from_length m.left (omega (arith, done, ap length m.all, length-append m.moved m.left, m.so_many)) in
      (m.behind ∙ ap (λ l. before ++ l) (sym (m.all ∙ ap (λ l. m.moved ++ l) none ∙ append-nil m.moved)), subst (Holds queue pass batch) none m.holds)
