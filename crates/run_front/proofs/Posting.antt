-- What is posted of cancelled queries, one turn further.
use Rattle.std.proofs.Common.{◌≡◌, ℕ, zero, suc, ◌+◌, ◌++◌, List, [], ◌∷◌, take, Some, sym, ap, ◌∙◌, append_assoc, append-nil, arith}
use Rattle.std.specs.List.{slice_get}
use Rattle.fan_model.specs.Comings.{Coming, comings_of}
use Rattle.fan_model.specs.Report.{Asking}
use Rattle.fan_parts.specs.declared.jobs.PrintJob.{PrintJob}
use Rattle.fan_parts.specs.Seen.{PosterSeen}
use Rattle.query_model.specs.Order.{Asked}
use Rattle.run_front.specs.Posted.{HasPosted, cancelled_from, cancelled_job}

module _ {N : Type 0} where
  one_more : (asked : Asking) (start k : ℕ) (comings : List Coming) (c : Coming) → slice_get comings k ≡ Some c
      → cancelled_from {N = N} asked start (take (suc k) comings) ≡ cancelled_from {N = N} asked start (take k comings) ++ cancelled_from {N = N} asked (start + k) (c ∷ [])
  one_more asked start k [] c at = absurd cc
  one_more asked start zero (d ∷ comings) c at =
      let same : d ≡ c = cc in
      let here : start ≡ start + 0 = omega (arith) in
      ap (λ (x : Coming). cancelled_from {N = N} asked start (x ∷ [])) same ∙ ap (λ (n : ℕ). cancelled_from {N = N} asked n (c ∷ [])) here
  one_more asked start (suc k) (Coming.begins query ∷ comings) c at =
      let next : (start + 1) + k ≡ start + suc k = omega (arith) in
      one_more asked (start + 1) k comings c at ∙ ap (λ (n : ℕ). cancelled_from {N = N} asked (start + 1) (take k comings) ++ cancelled_from {N = N} asked n (c ∷ [])) next
  one_more asked start (suc k) (Coming.cancels query ∷ comings) c at =
      let next : (start + 1) + k ≡ start + suc k = omega (arith) in
      ap (λ (l : List (PrintJob N)). cancelled_job asked start query.number ∷ l)
      (one_more asked (start + 1) k comings c at ∙ ap (λ (n : ℕ). cancelled_from {N = N} asked (start + 1) (take k comings) ++ cancelled_from {N = N} asked n (c ∷ [])) next)

  pub posted_begun : (asked : Asking) (place : ℕ) (query : Asked) (first : List (PrintJob N)) (old new : PosterSeen (PrintJob N))
      → slice_get (comings_of asked.lines) place ≡ Some (Coming.begins query) → new.sender.sent ≡ old.sender.sent
      → HasPosted asked place first old → HasPosted asked (place + 1) first new
  posted_begun asked place query first old new at same so_far =
      let all : List Coming = comings_of asked.lines in
      let next : suc place ≡ place + 1 = omega (arith) in
      let more = one_more asked 0 place all (Coming.begins query) at ∙ append-nil (cancelled_from {N = N} asked 0 (take place all)) in
      record {
        are = same ∙ (so_far.are ∙ (ap (λ (l : List (PrintJob N)). first ++ l) (sym more)
            ∙ ap (λ (n : ℕ). first ++ cancelled_from {N = N} asked 0 (take n all)) next));
      }

  pub posted_cancelled : (asked : Asking) (place number : ℕ) (query : Asked) (first : List (PrintJob N)) (old new : PosterSeen (PrintJob N))
      → slice_get (comings_of asked.lines) place ≡ Some (Coming.cancels query) → number ≡ query.number
      → new.sender.sent ≡ old.sender.sent ++ cancelled_job asked place number ∷ []
      → HasPosted asked place first old → HasPosted asked (place + 1) first new
  posted_cancelled asked place number query first old new at is posted so_far =
      let all : List Coming = comings_of asked.lines in
      let next : suc place ≡ place + 1 = omega (arith) in
      let here : place ≡ 0 + place = omega (arith) in
      let before : List (PrintJob N) = cancelled_from asked 0 (take place all) in
      let more = one_more asked 0 place all (Coming.cancels query) at in
      record {
        are = posted ∙ (ap (λ (l : List (PrintJob N)). l ++ cancelled_job asked place number ∷ []) so_far.are
            ∙ (append_assoc first before (cancelled_job asked place number ∷ [])
            ∙ (ap (λ (n : ℕ). first ++ (before ++ cancelled_job asked place n ∷ [])) is
            ∙ (ap (λ (n : ℕ). first ++ (before ++ cancelled_job asked n query.number ∷ [])) here
            ∙ (ap (λ (l : List (PrintJob N)). first ++ l) (sym more)
            ∙ ap (λ (n : ℕ). first ++ cancelled_from {N = N} asked 0 (take n all)) next)))));
      }
