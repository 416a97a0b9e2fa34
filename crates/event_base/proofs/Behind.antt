-- What stands behind a loop phase.
use Rattle.std.proofs.Common.{◌≡◌, ℕ, true, List, [], ◌∷◌, ◌++◌, take, drop, refl, sym, ap, ◌∙◌, append_assoc}
use Rattle.std.specs.List.{flat_map}
use Rattle.std.proofs.lemmas.List.{append-nil, append_cancel_left, take-append-drop}
use Rattle.fan_base.specs.declared.number.JobId.{JobId}
use Rattle.fan_base.specs.declared.number.Mark.{Mark}
use Rattle.job_trait.specs.declared.job.Head.{Head}
use Rattle.event_base.specs.Seen.{AgendaSeen}
use Rattle.event_base.specs.Turns.{Turn, Place, TakesLoop, jobs_of, for_this_phase, for_next_phase, added_to_phase, added_behind, TurnsThrough}
use Rattle.event_base.specs.Rounds.{in_phase, IsLoopPhase}
use Rattle.event_base.proofs.Calling.{makes_keep, makes_add}

module _ {W J : Type 0} (head : J → Head) (runs : JobId → Place W J → Mark → Place W J → Type 0) where
  -- what ran and what is left, and what stands behind
  pub phase_keeps : (p q : Place W J) (turns : List (Turn J)) → p.1.in_loop ≡ true → TurnsThrough TakesLoop head runs p turns q
      → (jobs_of turns ++ q.1.loops ≡ p.1.loops ++ added_to_phase turns) × (q.1.later ≡ p.1.later ++ added_behind turns)
  phase_keeps p q [] on all = (ap (λ (u : Place W J). u.1.loops) (sym all) ∙ sym (append-nil p.1.loops), ap (λ (u : Place W J). u.1.later) (sym all) ∙ sym (append-nil p.1.later))
  phase_keeps p q (turn ∷ turns) on all =
      let m = all.0 in
      let one = all.1 in
      let c = one.between in
      let c_on = sym (ap (λ (a : AgendaSeen J). a.in_loop) one.stepped) ∙ on in
      let adds = makes_add head c turn.calls m.1 one.called c_on in
      let m_on = (makes_keep head c turn.calls m.1 one.called).2 ∙ c_on in
      let rest = phase_keeps m q turns m_on all.2 in
      let now = flat_map for_this_phase turn.calls in
      let next = flat_map for_next_phase turn.calls in (
        ap (λ (l : List J). turn.job ∷ l) (rest.0 ∙ ap (λ (l : List J). l ++ added_to_phase turns) adds.0 ∙ append_assoc c.loops now (added_to_phase turns))
            ∙ ap (λ (l : List J). l ++ (now ++ added_to_phase turns)) (sym (ap (λ (a : AgendaSeen J). a.loops) one.stepped)),
        rest.1 ∙ ap (λ (l : List J). l ++ added_behind turns) adds.1 ∙ append_assoc c.later next (added_behind turns)
            ∙ ap (λ (l : List J). l ++ (next ++ added_behind turns)) (sym (ap (λ (a : AgendaSeen J). a.later) one.stepped)),
      )

  pub left_behind : (limit : ℕ) (p q : Place W J) (turns : List (Turn J)) → IsLoopPhase head runs limit p turns q
      → q.1.loops ≡ drop limit (p.1.loops ++ added_to_phase turns) ++ (p.1.later ++ added_behind turns)
  left_behind limit p q turns phase =
      let all = p.1.loops ++ added_to_phase turns in
      let keeps = phase_keeps (p.0, in_phase p.1) (q.0, phase.end) turns refl phase.ran.through in
      let cut = sym (ap (λ (l : List J). l ++ phase.end.loops) phase.jobs) ∙ keeps.0 ∙ sym (take-append-drop limit all) in
      let left = append_cancel_left (take limit all) phase.end.loops (drop limit all) cut in
      ap (λ (a : AgendaSeen J). a.loops) phase.ended ∙ ap (λ (l : List J). l ++ phase.end.later) left ∙ ap (λ (l : List J). drop limit all ++ l) keeps.1
