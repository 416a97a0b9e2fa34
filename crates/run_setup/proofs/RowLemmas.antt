-- The posters of one thread, told one by one, and their ends.
use Rattle.std.proofs.Common.{◌≡◌, ℕ, zero, suc, ◌+◌, ◌<◌, List, [], ◌∷◌, length, get_or, map, refl, sym, ap, ◌∙◌, subst, arith}
use Rattle.std.proofs.lemmas.List.{get_or-map, length-map}
use Rattle.fan_base.specs.declared.number.ExecId.{ExecId}
use Rattle.notify_queue.specs.Ends.{QueueId, Sending, new_sender}
use Rattle.fan_model.specs.Report.{Asking}
use Rattle.fan_parts.specs.declared.jobs.GatherJob.{GatherJob}
use Rattle.fan_parts.specs.Heads.{gather_head}
use Rattle.fan_parts.specs.Seen.{PosterSeen}
use Rattle.run_bases.specs.Columns.{IsEndOf, IsEndRow, exec_at}
use Rattle.run_tasks.specs.Worlds.{AreEndsFor, ArePostersOf, PosterTold, told_of}
use Rattle.run_setup.specs.Rows.{row_from, row_of}

-- the poster with this number to the base of this queue, with this executor
abbrev pub told : QueueId → ℕ → ℕ → PosterTold
told queue number exec = record { queue = queue; number = number; exec = record { 0 = exec } }

pub row-at : (first number : ℕ) (queues : List QueueId) (k : ℕ) (t : PosterTold) (q : QueueId) → k < length queues → get_or (row_from first number queues) k t ≡ told (get_or queues k q) number (first + k)
row-at first number [] k t q below = absurd (omega (arith, below))
row-at first number (x ∷ xs) zero t q below = ap (λ (n : ℕ). told x number n) (omega arith)
row-at first number (x ∷ xs) (suc k) t q below = row-at (suc first) number xs k t q (omega (arith, below)) ∙ ap (λ (n : ℕ). told (get_or xs k q) number n) (omega arith)

pub row-length : (first number : ℕ) (queues : List QueueId) → length (row_from first number queues) ≡ length queues
row-length first number [] = refl
row-length first number (q ∷ qs) = ap suc (row-length (suc first) number qs)

abbrev tell : QueueId → ℕ → ExecId → PosterTold
tell queue number exec = record { queue = queue; number = number; exec = exec }

module _ {J : Type 0} where
  -- an unused poster, told by its queue, its number and its base's executor
  pub told-new : (p : PosterSeen J) (queue : QueueId) (number exec : ℕ) → p.sender ≡ new_sender queue number → p.exec ≡ record { 0 = exec } → told_of p ≡ told queue number exec
  told-new p queue number exec sender is = ap (λ (s : Sending J). tell s.queue s.number p.exec) sender ∙ ap (λ (x : ExecId). tell queue number x) is

  -- posters that are told one by one are a row
  pub row-told : (first number : ℕ) (queues : List QueueId) (posters : List (PosterSeen J)) → length posters ≡ length queues
      → ((k : ℕ) (d : PosterSeen J) (q : QueueId) → k < length queues → told_of (get_or posters k d) ≡ told (get_or queues k q) number (first + k)) → map told_of posters ≡ row_from first number queues
  row-told first number [] [] many each = refl
  row-told first number [] (p ∷ ps) many each = absurd (omega (arith, many))
  row-told first number (q ∷ qs) [] many each = absurd (omega (arith, many))
  row-told first number (q ∷ qs) (p ∷ ps) many each =
      let head : told_of p ≡ told q number first = each 0 p q (omega arith) ∙ ap (λ (n : ℕ). told q number n) (omega arith) in
      let tail : map told_of ps ≡ row_from (suc first) number qs = row-told (suc first) number qs ps (omega (arith, many))
      (λ k d x below. each (suc k) d x (omega (arith, below)) ∙ ap (λ (n : ℕ). told (get_or qs k x) number n) (omega arith)) in
      ap (λ t. t ∷ map told_of ps) head ∙ ap (λ ts. told q number first ∷ ts) tail

  pub row-many : (number : ℕ) (queues : List QueueId) (posters : List (PosterSeen J)) → map told_of posters ≡ row_of number queues → length posters ≡ length queues
  row-many number queues posters is = omega (arith, ap length is, length-map posters told_of, row-length 1 number queues)

  -- the posters of a row have the executors of their bases
  pub row-posters : (asked : Asking) (number : ℕ) (queues : List QueueId) (posters : List (PosterSeen J)) → map told_of posters ≡ row_of number queues → length queues ≡ asked.bases → (q : QueueId) → ArePostersOf asked posters
  row-posters asked number queues posters is bases q = record {
    as_many = row-many number queues posters is ∙ bases;
    each = λ b d below.
        let at : get_or (map told_of posters) b (told_of d) ≡ told_of (get_or posters b d) = get_or-map told_of posters b d (told_of d) (omega (arith, below, row-many number queues posters is, bases)) in
        ap (λ (t : PosterTold). t.exec) (sym at ∙ ap (λ (ts : List PosterTold). get_or ts b (told_of d)) is ∙ row-at 1 number queues b (told_of d) q (omega (arith, below, bases)));
  }

module _ {N : Type 0} where
  end-at : (first number : ℕ) (q : QueueId) (qs : List QueueId) (e : Sending (GatherJob N)) (es : List (Sending (GatherJob N))) → IsEndOf gather_head q number (record { 0 = first }) e
      → IsEndRow gather_head qs (suc first) number es → (k : ℕ) (d : Sending (GatherJob N)) (x : QueueId) → k < length (q ∷ qs)
      → IsEndOf gather_head (get_or (q ∷ qs) k x) number (exec_at first k) (get_or (e ∷ es) k d)
  end-at first number q qs e es one rest zero d x below = subst (λ (n : ℕ). IsEndOf gather_head q number (record { 0 = n }) e) (omega arith) one
  end-at first number q qs e es one rest (suc k) d x below =
      subst (λ (n : ℕ). IsEndOf gather_head (get_or qs k x) number (record { 0 = n }) (get_or es k d)) (omega arith) (rest.each k d x (omega (arith, below)))

  -- the ends of a row of posters are a row of ends
  pub ends-row : (first number : ℕ) (queues : List QueueId) (ends : List (Sending (GatherJob N))) → AreEndsFor (row_from first number queues) ends → IsEndRow gather_head queues first number ends
  ends-row first number [] [] are = record { as_many = refl; each = λ k d q below. absurd (omega (arith, below)) }
  ends-row first number [] (e ∷ es) are = absurd are
  ends-row first number (q ∷ qs) [] are = absurd are
  ends-row first number (q ∷ qs) (e ∷ es) are =
      let rest = ends-row (suc first) number qs es are.3 in
      let one : IsEndOf gather_head q number (record { 0 = first }) e = record { queue_is = are.0; number_is = are.1; on_base = are.2 } in
      record { as_many = ap suc rest.as_many; each = end-at first number q qs e es one rest }
