use Rattle.std.proofs.Common.{◌≡◌, Bool, true, false, not, List, ◌++◌, ◌∷◌, [], refl, sym, ap, ◌∙◌, subst, true≢false}
use Rattle.std.specs.Bool.{OnTrue}
use Rattle.pool_model.specs.Seen.{EndSeen}
use Rattle.run_notes.specs.Accounts.{AllDone}
use Rattle.run_phases.proofs.Runs.{made_told, stop_account, is_nowhere, is_unstopped, report_is}
use Rattle.run_phases.proofs.second.second_phase.Goals.{then-missed, else-missed}
use Rattle.run_phases.proofs.second.second_phase.Goals as goal

was_true : (b : Bool) → not b ≡ false → b ≡ true
was_true true is = refl
was_true false is = absurd (true≢false is)

held : (P : Type 0) (b : Bool) → b ≡ true → OnTrue b P → P
held P b is on = subst (λ (x : Bool). OnTrue x P) is on

pub returns-clause-report : goal.returns-clause-report
returns-clause-report g c fine tasks done = elim c.if-missed.branch [
  | then-missed w ↦ absurd (true≢false (sym w.if-missed.true ∙ (sym w.result-is ∙ fine)))
  | else-missed w ↦
      let made = was_true _ (sym w.result-is ∙ fine) in
      let unrefused = held _ _ made c.turns_behind-done.ensures.fine in
      let behind = sym c.end-2.ensures.refused ∙ tasks in
      let late = held _ _ made c.turns_behind-done.ensures.direct behind in
      let world = c.turns_behind-done.ensures.follows.refused behind in
      let helped = c.push_reserved.ensures.items ∙ (ap (λ (l : List EndSeen). l ++ c.end.result ∷ []) c.requires.helped.0 ∙ ap (λ (e : EndSeen). e ∷ []) c.end.ensures) in
      let all = subst (λ (l : List EndSeen). AllDone (c.args.ends.items ++ l)) (sym helped) done in
      let accounts = c.end_pool-accepted.ensures.account world all w.if-missed.false in
      report_is g.N.RunName.asked _ c.end_pool-accepted.result _ _ accounts (c.requires.added unrefused) late c.end_pool-accepted.ensures.stopped c.requires.stops (λ none. (c.end_pool-accepted.ensures.joined none).0)
]

pub returns-clause-stopped : goal.returns-clause-stopped
returns-clause-stopped g c = c.end_pool-accepted.ensures.stopped ∙ c.requires.stops

pub returns-clause-account : goal.returns-clause-account
returns-clause-account g c stopped =
    let ended = c.end_pool-accepted.ensures in
    let on = sym ended.stopped ∙ stopped in
    stop_account g.N.RunName.asked _ _ ended.accepted (ended.few on) _ (ended.all on) c.turns_behind-done.ensures.told (λ before. c.turns_behind-done.ensures.untold before ∙ c.new-direct.ensures)

pub returns-clause-ran : goal.returns-clause-ran
returns-clause-ran g c joined =
    let ended = c.end_pool-accepted.ensures in
    let on = sym ended.stopped ∙ joined in
    let nowhere = is_nowhere g.N.RunName.asked c.args.turns.now c.args.stop c.requires.stop (sym c.requires.stops ∙ on) in
    record {
      accepted = ended.accepted;
      all = ended.ran on;
      none = (ended.joined on).0;
      direct = c.turns_behind-done.ensures.none nowhere ∙ c.new-direct.ensures;
    }

pub returns-clause-late : goal.returns-clause-late
returns-clause-late g c tasks = c.turns_behind-done.ensures.some (sym c.end-2.ensures.refused ∙ tasks)

pub returns-clause-handed : goal.returns-clause-handed
returns-clause-handed g c tasks =
    let behind = sym c.end-2.ensures.refused ∙ tasks in
    let late = c.turns_behind-done.ensures.follows in
    ap (λ t. t.handed) c.end-2.ensures.tally ∙ (late.handed behind ∙ c.end_pool-accepted.ensures.follows.handed (late.refused behind))

pub returns-clause-made : goal.returns-clause-made
returns-clause-made g c has fine tasks = elim c.if-missed.branch [
  | then-missed w ↦ absurd (true≢false (sym w.if-missed.true ∙ (sym w.result-is ∙ fine)))
  | else-missed w ↦
      let ended = c.end_pool-accepted.ensures in
      let all = held _ _ (was_true _ (sym w.result-is ∙ fine)) (c.turns_behind-done.ensures.made _ (ended.made _ has)) in
      made_told _ _ _ c.turns_behind-done.new.front.world c.end-2.result.tasks c.end-2.ensures.tally ended.accepted (all.made (sym c.end-2.ensures.refused ∙ tasks))
]

not_not : (b : Bool) → not (not b) ≡ b
not_not true = refl
not_not false = refl

pub returns-clause-joined : goal.returns-clause-joined
returns-clause-joined g c none =
    let unstopped = c.requires.stops ∙ is_unstopped g.N.RunName.asked c.args.turns.now c.args.stop c.requires.stop none in
    let behind = c.turns_behind-done.ensures.joined none in
    record {
      refused_is = elim c.if-missed.branch [
        | then-missed w ↦ absurd (true≢false (sym w.if-missed.true ∙ (c.end_pool-accepted.ensures.joined unstopped).1))
        | else-missed w ↦ w.result-is ∙ (ap not behind.0 ∙ not_not _)
      ];
      printer = c.end-2.ensures.printer ∙ ap (λ front. front.printer.sender) behind.1;
    }
