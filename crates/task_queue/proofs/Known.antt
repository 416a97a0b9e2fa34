-- What a pass knows stays so while others step.
use Rattle.std.proofs.Common.{◌≡◌, ◌≢◌, ℕ, ◌*◌, ◌<◌, ◌≤◌, List, [], ◌∷◌, length, length-append, Some, sym, refl, ◌∙◌, arith}
use Rattle.std.specs.List.{All, sum_by}
use Rattle.std.proofs.lemmas.List.Elements.{All-head, All-tail, All-weaker}
use mathlib.Core.Option.{some}
use lib.ListN.{get_elem?}
use Rattle.job_trait.specs.declared.job.Head.{Head}
use Rattle.pool_model.specs.History.{accepts, lefts, accepted_by, taken_by}
use Rattle.pool_model.proofs.Lists.{sum_by-ones}
use Rattle.task_queue.specs.declared.rule.Queued.{Queued}
use Rattle.task_queue.specs.declared.view.Role.{Role}
use Rattle.task_queue.specs.declared.view.Role.TheVariants.{Maker, Adder, Taker, Gathered, Nobody}
use Rattle.task_queue.specs.declared.view.Share.{Share}
use Rattle.task_queue.specs.declared.view.View.{View}
use Rattle.task_queue.specs.Views.{entries_of, pushes_as, pops_as, room_as, pushes_of, pops_of, room_of, most}
use Rattle.task_queue.specs.Rule.{Facts, QueueHolds, KnowsAs, Knows, IsAdderShare, IsTakerShare}
use Rattle.queue_packets.proofs.Views.{some_is, none_some}
use Rattle.task_queue.proofs.Sums.{sum_two, sum_most, sum_at}

-- the passes p and q stepped, and this is how the facts have changed
pub record Steps (p q : ℕ) (f g : Facts) : Type 0 where
  pub whole : g.whole ≡ f.whole
  pub left : lefts g.history ≡ lefts f.history
  pub adders : f.adders ≤ g.adders
  pub takers : f.takers ≤ g.takers
  pub made : p ≢ 0 → (g.adders ≡ f.adders) × (g.takers ≡ f.takers)
  pub adder : (a : ℕ) → a < f.adders → f.adder_at a ≢ Some p → f.adder_at a ≢ Some q → (g.adder_at a ≡ f.adder_at a) × (accepted_by a g.history ≡ accepted_by a f.history)
  pub taker : (n : ℕ) → n < f.takers → f.taker_at n ≢ Some p → f.taker_at n ≢ Some q → (g.taker_at n ≡ f.taker_at n) × (taken_by n g.history ≡ taken_by n f.history)

module _ (p q : ℕ) (f g : Facts) (s : Steps p q f g) where
  pub adder_share : (x : Share) → IsAdderShare f x → IsAdderShare g x
  adder_share x is =
      let t = s.adder x.number is.made (λ e. none_some (sym is.gone ∙ e)) (λ e. none_some (sym is.gone ∙ e)) in
      record { gone = t.0 ∙ is.gone; made = let m = is.made in let le = s.adders in omega arith; list = t.1 ∙ is.list; short = is.short }

  pub taker_share : (x : Share) → IsTakerShare f x → IsTakerShare g x
  taker_share x is =
      let t = s.taker x.number is.made (λ e. none_some (sym is.gone ∙ e)) (λ e. none_some (sym is.gone ∙ e)) in
      record { gone = t.0 ∙ is.gone; made = let m = is.made in let le = s.takers in omega arith; list = t.1 ∙ is.list }

  knows_as : (r : Role) (j : ℕ) (u : View) → j ≢ p → j ≢ q → KnowsAs f r j u → KnowsAs g r j u
  knows_as Maker j u not_p not_q k =
      let same = s.made (λ e. not_p (k.first ∙ sym e)) in
      record { first = k.first; whole = k.whole ∙ sym s.whole; adders = k.adders ∙ sym same.0; takers = k.takers ∙ sym same.1; fresh = λ h. s.left ∙ k.fresh h }
  knows_as Adder j u not_p not_q k =
      let t = s.adder u.number k.made (λ e. not_p (some_is (sym k.own ∙ e))) (λ e. not_q (some_is (sym k.own ∙ e))) in
      record { parts = k.parts; whole = k.whole ∙ sym s.whole; own = t.0 ∙ k.own; made = let m = k.made in let le = s.adders in omega arith; list = t.1 ∙ k.list; short = k.short; none_left = s.left ∙ k.none_left }
  knows_as Taker j u not_p not_q k =
      let t = s.taker u.number k.made (λ e. not_p (some_is (sym k.own ∙ e))) (λ e. not_q (some_is (sym k.own ∙ e))) in
      record { parts = k.parts; whole = k.whole ∙ sym s.whole; own = t.0 ∙ k.own; made = let m = k.made in let le = s.takers in omega arith; list = t.1 ∙ k.list; none_left = s.left ∙ k.none_left }
  knows_as Gathered j u not_p not_q k = record {
    parts = k.parts;
    whole = k.whole ∙ sym s.whole;
    added = All-weaker (IsAdderShare f) (IsAdderShare g) adder_share u.added k.added;
    taken = All-weaker (IsTakerShare f) (IsTakerShare g) taker_share u.taken k.taken;
    left = s.left ∙ k.left;
  }
  knows_as Nobody j u not_p not_q k = k

  pub knows_still : (j : ℕ) (u : View) → j ≢ p → j ≢ q → Knows f j u → Knows g j u
  knows_still j u not_p not_q k = knows_as u.role j u not_p not_q k

-- a pass with no part has nothing to tell
none_as : (f : Facts) (r : Role) (j : ℕ) (u : View) → KnowsAs f r j u → u.parts ≡ 0 → (pushes_as r u ≡ []) × (pops_as r u ≡ [])
none_as f Maker j u k none = (refl, refl)
none_as f Adder j u k none = absurd (let one = k.parts in omega arith)
none_as f Taker j u k none = absurd (let one = k.parts in omega arith)
none_as f Gathered j u k none = absurd (let some_part = k.parts in omega arith)
none_as f Nobody j u k none = (refl, refl)

-- a pass with no part knows nothing that others could change, once there are parts
part_less_as : (f g : Facts) (r : Role) (j : ℕ) (u : View) → KnowsAs f r j u → u.parts ≡ 0 → g.whole ≡ f.whole → g.adders ≡ f.adders → g.takers ≡ f.takers → 0 < f.whole → KnowsAs g r j u
part_less_as f g Maker j u k none whole adders takers some_part = record {
  first = k.first;
  whole = k.whole ∙ sym whole;
  adders = k.adders ∙ sym adders;
  takers = k.takers ∙ sym takers;
  fresh = λ h. absurd (let w = h none in let is = k.whole in omega arith);
}
part_less_as f g Adder j u k none whole adders takers some_part = absurd (let one = k.parts in omega arith)
part_less_as f g Taker j u k none whole adders takers some_part = absurd (let one = k.parts in omega arith)
part_less_as f g Gathered j u k none whole adders takers some_part = absurd (let has = k.parts in omega arith)
part_less_as f g Nobody j u k none whole adders takers some_part = k

-- beside the maker only nobody has no part
nobody_as : (f g : Facts) (r : Role) (j : ℕ) (u : View) → j ≢ 0 → KnowsAs f r j u → u.parts ≡ 0 → KnowsAs g r j u
nobody_as f g Maker j u apart k none = absurd (apart k.first)
nobody_as f g Adder j u apart k none = absurd (let one = k.parts in omega arith)
nobody_as f g Taker j u apart k none = absurd (let one = k.parts in omega arith)
nobody_as f g Gathered j u apart k none = absurd (let has = k.parts in omega arith)
nobody_as f g Nobody j u apart k none = k

shares_short : (f : Facts) (xs : List Share) → All (IsAdderShare f) xs → length (entries_of xs) ≤ length xs * most
shares_short f [] all = omega arith
shares_short f (x ∷ xs) all =
    let first = (All-head (IsAdderShare f) x xs all).short in
    let rest = shares_short f xs (All-tail (IsAdderShare f) x xs all) in
    omega (arith, first, rest, length-append x.entries (entries_of xs))

short_as : (f : Facts) (r : Role) (j : ℕ) (u : View) → KnowsAs f r j u → length (pushes_as r u) ≤ room_as r u
short_as f Maker j u k = omega arith
short_as f Adder j u k = k.short
short_as f Taker j u k = omega arith
short_as f Gathered j u k = shares_short f u.added k.added
short_as f Nobody j u k = omega arith

module _ {J : Type 0} (head : J → Head) (items : List (Queued J)) (views : List View) (d : QueueHolds head items views) where
  module _ (i : ℕ) (v : View) (here : get_elem? views i ≡ some v) (all : v.parts ≡ d.facts.whole) where
    pub others_part_less : (j : ℕ) (u : View) → j ≢ i → get_elem? views j ≡ some u → u.parts ≡ 0
    others_part_less j u apart there =
        let two = sum_two (λ (x : View). x.parts) views i j v u apart here there in
        let whole = d.parts in
        omega arith

    pub others_tell_nothing : (j : ℕ) (u : View) → j ≢ i → get_elem? views j ≡ some u → (pushes_of u ≡ []) × (pops_of u ≡ [])
    others_tell_nothing j u apart there = none_as d.facts u.role j u (d.knows j u there) (others_part_less j u apart there)

    pub others_know_still : (g : Facts) → g.whole ≡ d.facts.whole → g.adders ≡ d.facts.adders → g.takers ≡ d.facts.takers → 0 < v.parts
        → (j : ℕ) (u : View) → j ≢ i → get_elem? views j ≡ some u → Knows g j u
    others_know_still g whole adders takers some_part j u apart there =
        part_less_as d.facts g u.role j u (d.knows j u there) (others_part_less j u apart there) whole adders takers (omega (arith, all, some_part))

    pub others_are_nobody : i ≡ 0 → (g : Facts) (j : ℕ) (u : View) → j ≢ i → get_elem? views j ≡ some u → Knows g j u
    others_are_nobody first g j u apart there = nobody_as d.facts g u.role j u (λ e. apart (e ∙ sym first)) (d.knows j u there) (others_part_less j u apart there)

  -- no more was accepted than the adders may push
  pub accepts_short : length (accepts d.facts.history) ≤ 64 * most
  accepts_short =
      let each : (j : ℕ) (u : View) → get_elem? views j ≡ some u → sum_by (λ _. 1) (pushes_of u) ≤ room_of u =
      λ j u there. let s = short_as d.facts u.role j u (d.knows j u there) in let n = sum_by-ones (pushes_of u) in omega (arith, s, n) in
      let all = sum_most (λ (u : View). sum_by (λ _. 1) (pushes_of u)) room_of views each in
      omega (arith, all, d.pushed (λ _. 1), d.room, sum_by-ones (accepts d.facts.history))

  -- the part of a pass is one of the whole
  pub whole_has_part : (j : ℕ) (u : View) → get_elem? views j ≡ some u → u.parts ≤ d.facts.whole
  whole_has_part j u there = let a = sum_at (λ (x : View). x.parts) views j u there in let w = d.parts in omega arith
