-- One adder, or one worker or helper, more among those that were put together.
use Rattle.std.proofs.Common.{◌≡◌, ℕ, suc, ◌+◌, List, [], ◌∷◌, ◌++◌, length, length-append, map, refl, sym, ap, ◌∙◌, arith}
use Rattle.std.specs.List.{All}
use Rattle.std.specs.declared.alloc.Global.{Global}
use Rattle.std.proofs.lemmas.List.{map-append}
use Rattle.std.proofs.lemmas.List.Elements.{All-head, All-tail}
use Rattle.crossbeam_queue.specs.SegTies.{SegId}
use Rattle.pool_model.specs.Seen.{PassSeen, EndSeen, at_queue}
use Rattle.task_queue.specs.declared.view.Share.{Share}
use Rattle.task_queue.specs.Seen.{AdderSeen, TakerSeen, GatheredSeen, and_adder, and_taker}
use Rattle.task_queue.specs.Views.{share}
use Rattle.prio_pool.specs.Gathering.{gathered_at, gathered_from, and_adders, and_takers, only_adder}

module _ (whole : ℕ) (passes : List PassSeen) (ends : List EndSeen) where
  one_adder : (k : ℕ) (p : PassSeen) (a : AdderSeen) → (a.number ≡ p.number) → a.pushed ≡ at_queue p.pushed k → and_adder (gathered_at whole passes ends k a.queue) a ≡ gathered_at whole (passes ++ p ∷ []) ends k a.queue
  one_adder k p a number pushed =
      let count : (length passes + length ends) + 1 ≡ length (passes ++ p ∷ []) + length ends = omega (arith, length-append passes (p ∷ [])) in
      let more : share a.number a.pushed ≡ share p.number (at_queue p.pushed k) = (λ i. share (number i) (pushed i)) in
      let list = ap (λ (s : Share). map (λ (x : PassSeen). share x.number (at_queue x.pushed k)) passes ++ s ∷ []) more ∙ sym (map-append (λ (x : PassSeen). share x.number (at_queue x.pushed k)) passes (p ∷ [])) in
      (λ i. record { queue = a.queue; passes = whole; here = count i; added = list i; taken = map (λ (e : EndSeen). share e.number (at_queue e.popped k)) ends })

  pub adders_more : (k : ℕ) (p : PassSeen) (items : List AdderSeen) → All (λ a. (a.passes ≡ whole) × (a.number ≡ p.number)) items
      → ((j : ℕ) → at_queue (map (λ (a : AdderSeen). a.pushed) items) j ≡ at_queue p.pushed (k + j))
      → and_adders (gathered_from whole passes ends k (map (λ (a : AdderSeen). a.queue) items)) items ≡ gathered_from whole (passes ++ p ∷ []) ends k (map (λ (a : AdderSeen). a.queue) items)
  adders_more k p [] each pushed = refl
  adders_more k p (a ∷ rest) each pushed =
      let here = All-head (λ (x : AdderSeen). (x.passes ≡ whole) × (x.number ≡ p.number)) a rest each in
      let none : k + 0 ≡ k = omega arith in
      let one = one_adder k p a here.1 (pushed 0 ∙ ap (at_queue p.pushed) none) in
      let others = adders_more (k + 1) p rest (All-tail (λ (x : AdderSeen). (x.passes ≡ whole) × (x.number ≡ p.number)) a rest each) (λ j. pushed (suc j) ∙ ap (at_queue p.pushed) (omega arith)) in
      (λ i. one i ∷ others i)

  one_taker : (k : ℕ) (e : EndSeen) (t : TakerSeen) → (t.number ≡ e.number) → t.popped ≡ at_queue e.popped k → and_taker (gathered_at whole passes ends k t.queue) t ≡ gathered_at whole passes (ends ++ e ∷ []) k t.queue
  one_taker k e t number popped =
      let count : (length passes + length ends) + 1 ≡ length passes + length (ends ++ e ∷ []) = omega (arith, length-append ends (e ∷ [])) in
      let more : share t.number t.popped ≡ share e.number (at_queue e.popped k) = (λ i. share (number i) (popped i)) in
      let list = ap (λ (s : Share). map (λ (x : EndSeen). share x.number (at_queue x.popped k)) ends ++ s ∷ []) more ∙ sym (map-append (λ (x : EndSeen). share x.number (at_queue x.popped k)) ends (e ∷ [])) in
      (λ i. record { queue = t.queue; passes = whole; here = count i; added = map (λ (x : PassSeen). share x.number (at_queue x.pushed k)) passes; taken = list i })

  pub takers_more : (k : ℕ) (e : EndSeen) (items : List TakerSeen) → All (λ t. (t.passes ≡ whole) × (t.number ≡ e.number)) items
      → ((j : ℕ) → at_queue (map (λ (t : TakerSeen). t.popped) items) j ≡ at_queue e.popped (k + j))
      → and_takers (gathered_from whole passes ends k (map (λ (t : TakerSeen). t.queue) items)) items ≡ gathered_from whole passes (ends ++ e ∷ []) k (map (λ (t : TakerSeen). t.queue) items)
  takers_more k e [] each popped = refl
  takers_more k e (t ∷ rest) each popped =
      let here = All-head (λ (x : TakerSeen). (x.passes ≡ whole) × (x.number ≡ e.number)) t rest each in
      let none : k + 0 ≡ k = omega arith in
      let one = one_taker k e t here.1 (popped 0 ∙ ap (at_queue e.popped) none) in
      let others = takers_more (k + 1) e rest (All-tail (λ (x : TakerSeen). (x.passes ≡ whole) × (x.number ≡ e.number)) t rest each) (λ j. popped (suc j) ∙ ap (at_queue e.popped) (omega arith)) in
      (λ i. one i ∷ others i)

-- the queues of what was put together
pub queues_of : (whole : ℕ) (passes : List PassSeen) (ends : List EndSeen) (k : ℕ) (qs : List (SegId Global)) → map (λ (g : GatheredSeen). g.queue) (gathered_from whole passes ends k qs) ≡ qs
queues_of whole passes ends k [] = refl
queues_of whole passes ends k (q ∷ qs) = ap (λ (l : List (SegId Global)). q ∷ l) (queues_of whole passes ends (k + 1) qs)

-- the first adder's passes alone
pub first_adder : (whole k : ℕ) (p : PassSeen) (items : List AdderSeen) → All (λ a. (a.passes ≡ whole) × (a.number ≡ p.number)) items
    → ((j : ℕ) → at_queue (map (λ (a : AdderSeen). a.pushed) items) j ≡ at_queue p.pushed (k + j))
    → map only_adder items ≡ gathered_from whole (p ∷ []) [] k (map (λ (a : AdderSeen). a.queue) items)
first_adder whole k p [] each pushed = refl
first_adder whole k p (a ∷ rest) each pushed =
    let here = All-head (λ (x : AdderSeen). (x.passes ≡ whole) × (x.number ≡ p.number)) a rest each in
    let none : k + 0 ≡ k = omega arith in
    let own : a.pushed ≡ at_queue p.pushed k = pushed 0 ∙ ap (at_queue p.pushed) none in
    let one : only_adder a ≡ gathered_at whole (p ∷ []) [] k a.queue = (λ i. record { queue = a.queue; passes = here.0 i; here = 1; added = share (here.1 i) (own i) ∷ []; taken = [] }) in
    let others = first_adder whole (k + 1) p rest (All-tail (λ (x : AdderSeen). (x.passes ≡ whole) × (x.number ≡ p.number)) a rest each) (λ j. pushed (suc j) ∙ ap (at_queue p.pushed) (omega arith)) in
    (λ i. one i ∷ others i)
