-- Rows that are taken and put back, column by column.
use Rattle.std.proofs.Common.{◌≡◌, ℕ, suc, ◌+◌, ◌<◌, ◌≤◌, List, [], ◌∷◌, ◌++◌, length, get_or, get_or-set_other, set, length-append, refl, sym, ap, ◌∙◌, subst, arith}
use Rattle.std.proofs.lemmas.List.{get_or_push, length-set, get_or_append_left}
use Rattle.std.proofs.lemmas.Grind.{get_or-set_at}
use mathlib.Core.Logic.{dite}
use native.Mathlib.Decide.{ℕ_discrete}
use Rattle.job_trait.specs.declared.job.Head.{Head}
use Rattle.notify_queue.specs.Ends.{QueueId, Sending, new_sender}
use Rattle.run_bases.specs.declared.rows.Column.{Column}
use Rattle.run_bases.specs.Columns.{AreColumns, IsColumn, IsEndOf, IsEndRow, IsRow, PutSoFar, TakenSoFar, exec_at}

-- some item of a list that has one at this place
pub pick : {X : Type 0} (xs : List X) (k : ℕ) → k < length xs → X
pick [] k below = absurd (omega (arith, below))
pick (x ∷ xs) k below = x

module _ {J : Type 0} (head : J → Head) (queues : List QueueId) (first senders left low : ℕ) where
  pub taken_none : (columns : List (Column J)) (row : List (Sending J)) → AreColumns head queues first senders (suc left) low columns → row ≡ [] → TakenSoFar head queues first senders left low 0 columns row
  taken_none columns row are none = record {
    as_many = are.as_many;
    long = ap length none;
    row_is = λ k d q below. absurd (omega (arith, below));
    taken = λ k d q below. absurd (omega (arith, below));
    rest = λ k d q from below. are.each k d q below;
  }

  pub taken_more : (place : ℕ) (columns : List (Column J)) (row row' : List (Sending J)) (c : Column J) (p : Sending J) → TakenSoFar head queues first senders left low place columns row
      → place < length queues → row' ≡ row ++ p ∷ [] → ((q : QueueId) → p ≡ new_sender (get_or queues place q) left)
      → ((q : QueueId) → IsColumn head (get_or queues place q) (exec_at first place) senders left low c) → TakenSoFar head queues first senders left low (place + 1) (set columns place c) row'
  taken_more place columns row row' c p t below is poster column = record {
    as_many = length-set columns place c ∙ t.as_many;
    long = omega (arith, ap length is, length-append row (p ∷ []), t.long);
    row_is = λ k d q lt. subst (λ (r : List (Sending J)). get_or r k d ≡ new_sender (get_or queues k q) left) (sym is) (dite (ℕ_discrete k place)
        (λ e. get_or_push row p d k (t.long ∙ sym e) ∙ subst (λ (n : ℕ). p ≡ new_sender (get_or queues n q) left) (sym e) (poster q))
        (λ n. get_or_append_left row (p ∷ []) d k (omega (arith, lt, n, t.long)) ∙ t.row_is k d q (omega (arith, lt, n))));
    taken = λ k d q lt. dite (ℕ_discrete k place)
        (λ e. subst (λ (x : Column J). IsColumn head (get_or queues k q) (exec_at first k) senders left low x) (sym (get_or-set_at columns place k c d e (omega (arith, below, t.as_many))))
        (subst (λ (n : ℕ). IsColumn head (get_or queues n q) (exec_at first n) senders left low c) (sym e) (column q)))
        (λ n. subst (λ (x : Column J). IsColumn head (get_or queues k q) (exec_at first k) senders left low x) (sym (get_or-set_other columns place k c d n)) (t.taken k d q (omega (arith, lt, n))));
    rest = λ k d q from lt. subst (λ (x : Column J). IsColumn head (get_or queues k q) (exec_at first k) senders (suc left) low x)
        (sym (get_or-set_other columns place k c d (λ e. omega (arith, from, e)))) (t.rest k d q (omega (arith, from)) lt);
  }

  pub taken_all : (place : ℕ) (columns : List (Column J)) (row : List (Sending J)) → TakenSoFar head queues first senders left low place columns row → length queues ≤ place → place ≤ length queues
      → IsRow queues left row × AreColumns head queues first senders left low columns
  taken_all place columns row t from to = (
    record { as_many = omega (arith, t.long, from, to); each = λ k d q below. t.row_is k d q (omega (arith, below, from)) },
    record { as_many = t.as_many; each = λ k d q below. t.taken k d q (omega (arith, below, from)) },
  )

  pub put_none : (columns : List (Column J)) (row : List (Sending J)) → AreColumns head queues first senders left (suc low) columns → IsEndRow head queues first low row
      → PutSoFar head queues first senders left low (length row) columns row
  put_none columns row are ends = record {
    as_many = are.as_many;
    within = omega (arith, ends.as_many);
    row_is = λ k d q below. ends.each k d q (omega (arith, below, ends.as_many));
    rest = λ k d q below. are.each k d q (omega (arith, below, ends.as_many));
    put = λ k d q from below. absurd (omega (arith, from, below, ends.as_many));
  }

  -- the end at the last place that is left
  pub end_at : (columns : List (Column J)) (row row' : List (Sending J)) (e : Sending J) (q : QueueId) → PutSoFar head queues first senders left low (length row) columns row → row ≡ row' ++ e ∷ []
      → IsEndOf head (get_or queues (length row') q) low (exec_at first (length row')) e
  end_at columns row row' e q t is =
      let at : get_or row (length row') e ≡ e = ap (λ (r : List (Sending J)). get_or r (length row') e) is ∙ get_or_push row' e e (length row') refl in
      subst (λ (x : Sending J). IsEndOf head (get_or queues (length row') q) low (exec_at first (length row')) x) at (t.row_is (length row') e q (omega (arith, ap length is, length-append row' (e ∷ []))))

  pub put_more : (place : ℕ) (columns : List (Column J)) (row row' : List (Sending J)) (e : Sending J) (c : Column J) → PutSoFar head queues first senders left low (length row) columns row → row ≡ row' ++ e ∷ []
      → place ≡ length row' → ((q : QueueId) → IsColumn head (get_or queues place q) (exec_at first place) senders left low c) → PutSoFar head queues first senders left low (length row') (set columns place c) row'
  put_more place columns row row' e c t is place_is column =
      let long : length row ≡ length row' + 1 = omega (arith, ap length is, length-append row' (e ∷ [])) in record {
        as_many = length-set columns place c ∙ t.as_many;
        within = omega (arith, t.within, long);
        row_is = λ k d q below. subst (λ (x : Sending J). IsEndOf head (get_or queues k q) low (exec_at first k) x)
            (ap (λ (r : List (Sending J)). get_or r k d) is ∙ get_or_append_left row' (e ∷ []) d k below) (t.row_is k d q (omega (arith, below, long)));
        rest = λ k d q below. subst (λ (x : Column J). IsColumn head (get_or queues k q) (exec_at first k) senders left (suc low) x)
            (sym (get_or-set_other columns place k c d (λ same. omega (arith, below, same, place_is)))) (t.rest k d q (omega (arith, below, long)));
        put = λ k d q from below. dite (ℕ_discrete k place)
            (λ same. subst (λ (x : Column J). IsColumn head (get_or queues k q) (exec_at first k) senders left low x) (sym (get_or-set_at columns place k c d same (omega (arith, below, same, t.as_many))))
            (subst (λ (n : ℕ). IsColumn head (get_or queues n q) (exec_at first n) senders left low c) (sym same) (column q)))
            (λ other. subst (λ (x : Column J). IsColumn head (get_or queues k q) (exec_at first k) senders left low x) (sym (get_or-set_other columns place k c d other))
            (t.put k d q (omega (arith, from, other, place_is, long)) below));
      }

  pub put_all : (columns : List (Column J)) (row : List (Sending J)) → PutSoFar head queues first senders left low (length row) columns row → length row ≡ 0 → AreColumns head queues first senders left low columns
  put_all columns row t none = record { as_many = t.as_many; each = λ k d q below. t.put k d q (omega (arith, none)) below }
