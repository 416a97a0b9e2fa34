-- The steps, as the calls of the queue make them: with the view of the pass as a variable.
use Rattle.std.proofs.Common.{◌≡◌, ℕ, ◌+◌, ◌-◌, ◌<◌, [], ◌∷◌, ◌++◌, length, sym, subst}
use Rattle.std.specs.List.{All}
use Rattle.crossbeam_queue.specs.Fifo.{Forks, Merges, Pushes, Pops, Learns}
use Rattle.job_trait.specs.declared.job.Head.{Head}
use Rattle.task_queue.specs.declared.rule.Queued.{Queued}
use Rattle.task_queue.specs.declared.view.View.{View}
use Rattle.task_queue.specs.Views.{making, adding, taking, gathered, nobody, share, entry_of, most}
use Rattle.task_queue.specs.Rule.{QueueHolds}
use Rattle.task_queue.specs.Steps.{Took, Shows, MayPop, may_take, is_whole}
use Rattle.task_queue.proofs.Making.{counts, makes_adder, makes_taker}
use Rattle.task_queue.proofs.Pushing.{pushes}
use Rattle.task_queue.proofs.Popping.{takes_first, takes_left, shows_whole, shows_nothing}
use Rattle.task_queue.proofs.Gathering as putting

module _ {J : Type 0} (head : J → Head) where
  pub count : (pass : ℕ) (v : View) → pass ≡ 0 → v ≡ making v.parts v.parts v.adders v.takers → Forks (QueueHolds head) pass v (making (v.parts + 1) (v.whole + 1) v.adders v.takers) nobody
  count pass v first is =
      subst (λ (i : ℕ). Forks (QueueHolds head) i v (making (v.parts + 1) (v.whole + 1) v.adders v.takers) nobody) (sym first)
      (subst (λ (u : View). Forks (QueueHolds head) 0 u (making (u.parts + 1) (u.whole + 1) u.adders u.takers) nobody) (sym is) (counts head v.parts v.adders v.takers))

  pub make_adder : (pass : ℕ) (v : View) → pass ≡ 0 → v ≡ making v.parts v.whole v.adders v.takers → 0 < v.parts → v.adders < 64
      → Forks (QueueHolds head) pass v (making (v.parts - 1) v.whole (v.adders + 1) v.takers) (adding v.whole v.adders [])
  make_adder pass v first is has_part few =
      subst (λ (i : ℕ). Forks (QueueHolds head) i v (making (v.parts - 1) v.whole (v.adders + 1) v.takers) (adding v.whole v.adders [])) (sym first)
      (subst (λ (u : View). Forks (QueueHolds head) 0 u (making (v.parts - 1) v.whole (v.adders + 1) v.takers) (adding v.whole v.adders [])) (sym is) (makes_adder head v.parts v.whole v.adders v.takers has_part few))

  pub make_taker : (pass : ℕ) (v : View) → pass ≡ 0 → v ≡ making v.parts v.whole v.adders v.takers → 0 < v.parts
      → Forks (QueueHolds head) pass v (making (v.parts - 1) v.whole v.adders (v.takers + 1)) (taking v.whole v.takers [])
  make_taker pass v first is has_part =
      subst (λ (i : ℕ). Forks (QueueHolds head) i v (making (v.parts - 1) v.whole v.adders (v.takers + 1)) (taking v.whole v.takers [])) (sym first)
      (subst (λ (u : View). Forks (QueueHolds head) 0 u (making (v.parts - 1) v.whole v.adders (v.takers + 1)) (taking v.whole v.takers [])) (sym is) (makes_taker head v.parts v.whole v.adders v.takers has_part))

  pub push : (n pass : ℕ) (v : View) (x : Queued J) → v ≡ adding v.whole v.number v.pushed → x.ticket.adder ≡ v.number → All (λ e. e.ticket.index < x.ticket.index) v.pushed → length v.pushed < most
      → Pushes (QueueHolds head) n pass v x (λ u. u ≡ adding v.whole v.number (v.pushed ++ entry_of head x ∷ []))
  push n pass v x is from below room =
      subst (λ (u : View). Pushes (QueueHolds head) n pass u x (λ w. w ≡ adding v.whole v.number (v.pushed ++ entry_of head x ∷ []))) (sym is) (pushes head n pass v.whole v.number v.pushed x from below room)

  pub pop : (pass : ℕ) (v : View) → MayPop v → Pops (QueueHolds head) pass v (Took head v) × Learns (QueueHolds head) pass v (Shows head v)
  pop pass v (may_take is) =
      subst (λ (u : View). Pops (QueueHolds head) pass u (Took head u) × Learns (QueueHolds head) pass u (Shows head u)) (sym is)
      (takes_first head pass v.whole v.number v.popped, shows_nothing head pass v.whole v.number v.popped)
  pop pass v (is_whole is) =
      subst (λ (u : View). Pops (QueueHolds head) pass u (Took head u) × Learns (QueueHolds head) pass u (Shows head u)) (sym is)
      (takes_left head pass v.whole v.added v.taken v.popped, shows_whole head pass v.whole v.added v.taken v.popped)

  pub gather : (pass : ℕ) (v : View) → v ≡ adding v.whole v.number v.pushed → Forks (QueueHolds head) pass v (gathered 1 v.whole (share v.number v.pushed ∷ []) [] []) nobody
  gather pass v is =
      subst (λ (u : View). Forks (QueueHolds head) pass u (gathered 1 v.whole (share v.number v.pushed ∷ []) [] []) nobody) (sym is) (putting.gathers head pass v.whole v.number v.pushed)

  pub put_adder : (pass : ℕ) (v : View) (other : ℕ) (w : View) → v ≡ gathered v.parts v.whole v.added v.taken [] → w ≡ adding w.whole w.number w.pushed
      → Merges (QueueHolds head) pass v other w (gathered (v.parts + 1) v.whole (v.added ++ share w.number w.pushed ∷ []) v.taken []) nobody
  put_adder pass v other w is theirs =
      subst (λ (u : View). Merges (QueueHolds head) pass u other w (gathered (v.parts + 1) v.whole (v.added ++ share w.number w.pushed ∷ []) v.taken []) nobody) (sym is)
      (subst (λ (u : View). Merges (QueueHolds head) pass (gathered v.parts v.whole v.added v.taken []) other u (gathered (v.parts + 1) v.whole (v.added ++ share w.number w.pushed ∷ []) v.taken []) nobody) (sym theirs)
      (putting.puts_adder head pass v.parts v.whole v.added v.taken [] other w.whole w.number w.pushed))

  pub put_taker : (pass : ℕ) (v : View) (other : ℕ) (w : View) → v ≡ gathered v.parts v.whole v.added v.taken [] → w ≡ taking w.whole w.number w.popped
      → Merges (QueueHolds head) pass v other w (gathered (v.parts + 1) v.whole v.added (v.taken ++ share w.number w.popped ∷ []) []) nobody
  put_taker pass v other w is theirs =
      subst (λ (u : View). Merges (QueueHolds head) pass u other w (gathered (v.parts + 1) v.whole v.added (v.taken ++ share w.number w.popped ∷ []) []) nobody) (sym is)
      (subst (λ (u : View). Merges (QueueHolds head) pass (gathered v.parts v.whole v.added v.taken []) other u (gathered (v.parts + 1) v.whole v.added (v.taken ++ share w.number w.popped ∷ []) []) nobody) (sym theirs)
      (putting.puts_taker head pass v.parts v.whole v.added v.taken [] other w.whole w.number w.popped))
