-- The scorings that wait and the callbacks that are held go side by side, over turns of a gathering base: so none of its messages is a callback.
use Rattle.std.proofs.Common.{◌≡◌, ℕ, ◌+◌, ◌≤◌, suc, Bool, true, false, List, [], ◌∷◌, length, refl, sym, subst, ap, ◌∙◌, arith}
use Rattle.std.specs.Prelude.{nat_lt, if◌then◌else◌}
use Rattle.std.specs.List.{sum_by}
use Rattle.std.proofs.lemmas.List.Sums.{sum_by-cons}
use Rattle.std.proofs.lemmas.List.{length-append}
use Rattle.notify_queue.specs.declared.stamp.Stamped.{Stamped}
use Rattle.event_base.specs.Looping.{HoldsNoCallback, count_of_callbacks}
use Rattle.event_base.specs.Seen.{AgendaSeen, settled}
use Rattle.event_base.specs.Turns.{Turn, Place, LeavesAgenda, TurnsThrough}
use Rattle.fan_parts.specs.declared.jobs.GatherJob.{GatherJob}
use Rattle.fan_parts.specs.Heads.{first_scoring, gather_head}
use Rattle.run_gathering.specs.Seen.{GatheringSeen}
use Rattle.run_gathering.specs.Gathering.{fires_at, fires_among, Runs, KeepsWaiting}

-- one turn before others
turn_first : (p r q f s sum n cp cr cq : ℕ) → sum ≡ f + s → r + (1 + cp) ≡ p + (f + cr) → q + (n + cr) ≡ r + (s + cq) → q + (suc n + cp) ≡ p + (sum + cq)
turn_first p r q f s sum n cp cr cq total first rest = omega (arith, total, first, rest)

-- one callback before others
pub callback_first : (p r q f c cp cr cq : ℕ) → cp ≡ suc c → f ≡ 0 → r + (1 + c) ≡ p + (f + cr) → q + (0 + cr) ≡ r + (0 + cq) → q + (0 + cp) ≡ p + (0 + cq)
callback_first p r q f c cp cr cq taken none first rest = omega (arith, taken, none, first, rest)

-- messages, and then a loop phase, in one round
pub round_counts : (w m v s n fires took a b c old new : ℕ) → s ≡ fires → n ≡ took → a ≡ old → new ≡ c → m + (n + a) ≡ w + (s + b) → v + (0 + b) ≡ m + (0 + c) → v + (took + old) ≡ w + (fires + new)
round_counts w m v s n fires took a b c old new sums long begun ended first second = omega (arith, sums, long, begun, ended, first, second)

-- one run of messages behind another
pub more_counts : (w m v f g fires n k took a b c : ℕ) → fires ≡ f + g → took ≡ n + k → m + (n + a) ≡ w + (f + b) → v + (k + b) ≡ m + (g + c) → v + (took + a) ≡ w + (fires + c)
more_counts w m v f g fires n k took a b c sums long first second = omega (arith, sums, long, first, second)

one_at_most : (b : Bool) → (if b then 1 else 0) ≤ 1
one_at_most true = omega arith
one_at_most false = omega arith

module _ {J : Type 0} where
  pub taken_count : (a b : AgendaSeen J) (job : J) → a ≡ record b { loops = job ∷ b.loops } → count_of_callbacks a ≡ suc (count_of_callbacks b)
  taken_count a b job e = omega (arith, ap count_of_callbacks e)

  pub settled_count : (a : AgendaSeen J) → count_of_callbacks (settled a) ≡ count_of_callbacks a
  settled_count a = omega (arith, length-append a.loops a.later)

  pub no_count : (a : AgendaSeen J) → HoldsNoCallback a → count_of_callbacks a ≡ 0
  no_count a none = omega (arith, ap length none.0, ap length none.1, ap length none.2)

module _ {N : Type 0} where
  abbrev fires_of : Turn (GatherJob N) → ℕ
  fires_of t = fires_at (gather_head t.job).id

  few_fires : (messages : List (Stamped (GatherJob N))) → fires_among messages ≤ length messages
  few_fires [] = omega arith
  few_fires (x ∷ xs) =
      let f = λ (y : Stamped (GatherJob N)). fires_at (gather_head y.message).id in
      omega (arith, sum_by-cons f x xs, one_at_most (nat_lt (gather_head x.message).id.0 first_scoring), few_fires xs)

  -- Where no scoring waited before and no callback is left, each message is a fire.
  pub all_fires : (took : List (Stamped (GatherJob N))) (waiting held left : ℕ) → waiting + (length took + held) ≡ 0 + (fires_among took + left) → left ≡ 0 → fires_among took ≡ length took
  all_fires took waiting held left e none = omega (arith, e, none, few_fires took)

  -- what turns keep: that no memory was refused up to the end, and what waits
  pub record Keeps (fires turns : ℕ) (p q : Place (GatheringSeen N) (GatherJob N)) : Type 0 where
    pub known : q.0.refused ≡ false → p.0.refused ≡ false
    pub waits : KeepsWaiting fires turns p q

  pub keeps_none : (p q : Place (GatheringSeen N) (GatherJob N)) → p ≡ q → Keeps 0 0 p q
  keeps_none p q same = subst (λ (u : Place (GatheringSeen N) (GatherJob N)). Keeps 0 0 p u) same (record { known = λ calm. calm; waits = λ calm. refl })

  pub messages_keep : (p q : Place (GatheringSeen N) (GatherJob N)) (turns : List (Turn (GatherJob N))) → TurnsThrough LeavesAgenda gather_head Runs p turns q → Keeps (sum_by fires_of turns) (length turns) p q
  messages_keep p q [] all = keeps_none p q all
  messages_keep p q (t ∷ ts) all =
      let ran = all.1.ran in
      let rest = messages_keep all.0 q ts all.2 in
      let begun : count_of_callbacks all.1.between ≡ count_of_callbacks p.1 = ap count_of_callbacks all.1.stepped in
      record {
        known = λ calm. ran.by.known (rest.known calm);
        waits = λ calm.
            let first : all.0.0.waiting + (1 + count_of_callbacks p.1) ≡ p.0.waiting + (fires_of t + count_of_callbacks all.0.1) =
            ap (λ (k : ℕ). all.0.0.waiting + (1 + k)) (sym begun) ∙ ran.waits (rest.known calm) in
            turn_first p.0.waiting all.0.0.waiting q.0.waiting (fires_of t) (sum_by fires_of ts) (sum_by fires_of (t ∷ ts)) (length ts)
            (count_of_callbacks p.1) (count_of_callbacks all.0.1) (count_of_callbacks q.1) (sum_by-cons fires_of t ts) first (rest.waits calm);
      }
