-- A round of an event base that takes one message, and at whose one tick one timer is due. The jobs leave the agenda as it was.
use Rattle.std.proofs.Common.{◌≡◌, ◌⊎◌, ℕ, ◌+◌, ◌<◌, Bool, Ok, Err, Result, IfErr, inl, inr, List, [], ◌∷◌, ◌++◌, length, map, sym, subst, ap, ◌∙◌, refl, arith, append-nil}
use Rattle.std.specs.Bool.{OnTrue}
use Rattle.std.specs.Result.{IfOk, is_ok}
use Rattle.std.proofs.lemmas.Bool.{OnTrue_from}
use Rattle.fan_base.specs.declared.number.ExecId.{ExecId}
use Rattle.std.specs.List.{All}
use Rattle.std.proofs.lemmas.List.Elements.{All-head, All-tail}
use Rattle.std.proofs.lemmas.List.{nil_from_length}
use Rattle.fan_base.specs.declared.number.JobId.{JobId}
use Rattle.fan_base.specs.declared.number.Mark.{Mark}
use Rattle.job_trait.specs.declared.job.Head.{Head}
use Rattle.notify_queue.specs.declared.stamp.Stamped.{Stamped}
use Rattle.notify_queue.specs.Ends.{QueueId, Sending, new_sender}
use Rattle.notify_queue.specs.Stamps.{messages_of}
use Rattle.tick_wheel.specs.TimerList.{TimerList, due_at, items_of}
use Rattle.event_base.specs.declared.round.Round.{Round}
use Rattle.event_base.specs.declared.round.RoundMemory.{RoundMemory}
use Rattle.event_base.specs.Calls.{with_timer}
use Rattle.event_base.specs.Laws.{KeepsBase}
use Rattle.event_base.specs.Closing.{RestSeen, IsClosing}
use Rattle.event_base.specs.Seen.{AgendaSeen, BaseSeen, NoteSeen, new_agenda, new_base, settled}
use Rattle.event_base.specs.Turns.{Turn, Place, LeavesAgenda, TakesBefore, TurnsThrough, jobs_of}
use Rattle.event_base.specs.Rounds.{Phases, TicksThrough, IsTick, IsCutRound, IsWholeRound, HasNotBegun, in_phase, ticked, due_next}
use Rattle.event_base.proofs.Messages.{no_turns, nothing_runs}

-- the messages of the one sender are all
pub all_of_one : {M : Type 0} (xs : List (Stamped M)) → All (λ x. x.stamp.sender < 1) xs → messages_of 0 xs ≡ map (λ x. x.message) xs
all_of_one [] h = refl
all_of_one {M} (x ∷ xs) h =
    let P : Stamped M → Type 0 = λ x. x.stamp.sender < 1 in
    let zero_is : x.stamp.sender ≡ 0 = omega (arith, All-head P x xs h) in
    let rest = all_of_one xs (All-tail P x xs h) in
    grind (arith, zero_is, rest)

module _ {W J : Type 0} (head : J → Head) (runs : JobId → Place W J → Mark → Place W J → Type 0) where
  -- one turn is a run of its job
  one_turn : (p q : Place W J) (job : J) (turns : List (Turn J)) → jobs_of turns ≡ job ∷ [] → TurnsThrough LeavesAgenda head runs p turns q
      → (mark : Mark) × runs (head job).id p mark q
  one_turn p q job [] e all = absurd cc
  one_turn p q job (t ∷ []) e all =
      let is : t.job ≡ job = cc in
      let there = subst (λ (a : AgendaSeen J). runs (head t.job).id (p.0, a) t.mark all.0) all.1.stepped all.1.ran in
      (t.mark, subst (λ (j : J). runs (head j).id p t.mark q) is (subst (λ (u : Place W J). runs (head t.job).id p t.mark u) all.2 there))
  one_turn p q job (t ∷ u ∷ us) e all = absurd cc

  one_tick : (p q : Place W J) (ticks : List (List (Turn J))) → length ticks ≡ 1 → TicksThrough head runs p ticks q
      → (turns : List (Turn J)) × IsTick head runs p turns q
  one_tick p q [] e all = absurd (omega (arith, e))
  one_tick p q (turns ∷ []) e all = (turns, subst (λ (u : Place W J). IsTick head runs p turns u) all.2 all.1)
  one_tick p q (turns ∷ more ∷ rest) e all = absurd (omega (arith, e))

-- each run puts its job's id behind the last one
abbrev Notes : {J : Type 0} → (JobId → Place (ℕ × ℕ) J → Mark → Place (ℕ × ℕ) J → Type 0) → Type 0
Notes {J} runs = (id : JobId) (p : Place (ℕ × ℕ) J) (mark : Mark) (q : Place (ℕ × ℕ) J) → runs id p mark q → (q.0 ≡ (p.0.1, id.0)) × (q.1 ≡ p.1)

module _ {J : Type 0} (head : J → Head) (runs : JobId → Place (ℕ × ℕ) J → Mark → Place (ℕ × ℕ) J → Type 0) where
  pub message_then_timer : Notes runs → (w : ℕ × ℕ) (old : BaseSeen J) (round : Round) (did : Phases J) (v : ℕ × ℕ) (new : BaseSeen J) (posted timed : J) (id : ℕ)
      → settled old.agenda ≡ old.agenda → old.agenda.before ≡ [] → old.agenda.loops ≡ []
      → old.agenda.wheel ≡ record { tick = 0; timers = record { due = 1; id = id; item = timed } ∷ [] }
      → map (λ (x : Stamped J). x.message) did.took ≡ posted ∷ []
      → IsWholeRound head runs 1 w old round did v new
      → v ≡ ((head posted).id.0, (head timed).id.0)
  message_then_timer notes w old round did v new posted timed id same none_before none_loops wheel message whole =
      let a : AgendaSeen J = old.agenda in
      let up = whole.up_to_ticks in
      let before : TurnsThrough TakesBefore head runs (w, settled a) [] up.after_before =
      subst (λ (ts : List (Turn J)). TurnsThrough TakesBefore head runs (w, settled a) ts up.after_before) (no_turns did.before (up.before.jobs ∙ none_before)) up.before.ran.through in
      let begin : up.after_before ≡ (w, a) = sym before ∙ ap (λ (b : AgendaSeen J). (w, b)) same in
      let messages = subst (λ (u : Place (ℕ × ℕ) J). TurnsThrough LeavesAgenda head runs u did.messages up.after_messages) begin up.messages.ran.through in
      let first = one_turn head runs (w, a) up.after_messages posted did.messages (up.messages.each ∙ message) messages in
      let one = notes (head posted).id (w, a) first.0 up.after_messages first.1 in
      let tick = one_tick head runs up.after_messages whole.after_ticks did.ticks whole.each_tick up.ticks.through in
      let due : due_next up.after_messages.1 ≡ timed ∷ [] =
      ap (λ (b : AgendaSeen J). due_next b) one.1 ∙ ap (λ (l : TimerList J). items_of (due_at (l.tick + 1) l.timers)) wheel in
      let second = one_turn head runs (up.after_messages.0, ticked up.after_messages.1) whole.after_ticks timed tick.0 (tick.1.each ∙ due) tick.1.ran.through in
      let two = notes (head timed).id (up.after_messages.0, ticked up.after_messages.1) second.0 whole.after_ticks second.1 in
      let loops : whole.after_ticks.1.loops ≡ [] =
      ap (λ (b : AgendaSeen J). b.loops) two.1 ∙ (ap (λ (b : AgendaSeen J). b.loops) one.1 ∙ none_loops) in
      let phase : (whole.after_ticks.0, in_phase whole.after_ticks.1) ≡ (v, whole.loops.end) =
      nothing_runs head runs (whole.after_ticks.0, in_phase whole.after_ticks.1) (v, whole.loops.end) did.loops loops whole.loops.ran.through in
      let world : v ≡ whole.after_ticks.0 = sym (ap (λ (u : Place (ℕ × ℕ) J). u.0) phase) in
      world ∙ (two.0 ∙ ap (λ (u : ℕ × ℕ). (u.1, (head timed).id.0)) one.0)

  -- what the close of the base says of a round on a new base: where no message was left, the posted job ran and then the timer's
  pub closed_in_order : Notes runs → (w : ℕ × ℕ) (old : BaseSeen J) (round : Round) (did : Phases J) (v : ℕ × ℕ) (new : BaseSeen J) (posted timed : J) (id : ℕ) (end : Sending J) (note : NoteSeen) (rest : RestSeen J)
      → settled old.agenda ≡ old.agenda → old.agenda.before ≡ [] → old.agenda.loops ≡ []
      → old.agenda.wheel ≡ record { tick = 0; timers = record { due = 1; id = id; item = timed } ∷ [] }
      → old.queue.taken ≡ [] → old.queue.senders ≡ 1 → end.number ≡ 0 → end.sent ≡ posted ∷ []
      → IsWholeRound head runs 1 w old round did v new
      → IsClosing head new (end ∷ []) note rest
      → note.left ≡ 0
      → v ≡ ((head posted).id.0, (head timed).id.0)
  closed_in_order notes w old round did v new posted timed id end note rest same none_before none_loops wheel none_taken senders zero_is sent whole closing none_left =
      let taken : new.queue.taken ≡ did.took = whole.took.taken ∙ ap (λ (l : List (Stamped J)). l ++ did.took) none_taken in
      let left : closing.left ≡ [] = nil_from_length closing.left (sym closing.left_over ∙ none_left) in
      let P : Sending J → Type 0 = λ e. messages_of e.number new.queue.taken ++ messages_of e.number closing.left ≡ e.sent in
      let of_end : messages_of end.number new.queue.taken ++ messages_of end.number closing.left ≡ end.sent = All-head P end [] closing.whole in
      let of_zero : messages_of 0 did.took ++ messages_of 0 closing.left ≡ end.sent =
      subst (λ (l : List (Stamped J)). messages_of 0 l ++ messages_of 0 closing.left ≡ end.sent) taken (subst (λ (n : ℕ). messages_of n new.queue.taken ++ messages_of n closing.left ≡ end.sent) zero_is of_end) in
      let of_took : messages_of 0 did.took ++ [] ≡ end.sent = subst (λ (l : List (Stamped J)). messages_of 0 did.took ++ messages_of 0 l ≡ end.sent) left of_zero in
      let one_sender : All (λ (x : Stamped J). x.stamp.sender < 1) did.took = subst (λ (n : ℕ). All (λ (x : Stamped J). x.stamp.sender < n) did.took) senders whole.took.from_senders in
      let message : map (λ (x : Stamped J). x.message) did.took ≡ posted ∷ [] =
      sym (all_of_one did.took one_sender) ∙ (sym (append-nil (messages_of 0 did.took)) ∙ (of_took ∙ sent)) in
      message_then_timer notes w old round did v new posted timed id same none_before none_loops wheel message whole

  -- the same from the making of the base on
  pub posted_then_timed : Notes runs → (exec : ExecId) (queue own : QueueId) (w v : ℕ × ℕ) (made old new : BaseSeen J) (unused poster end : Sending J) (posted timed : J) (round : Round) (did : Phases J) (note : NoteSeen) (rest : RestSeen J)
      → made ≡ new_base exec 0 queue 1 → old.queue ≡ made.queue → old.agenda ≡ with_timer made.agenda 1 (head timed).id.0 timed
      → unused ≡ new_sender own 0 → poster.number ≡ unused.number → poster.sent ≡ posted ∷ [] → end ≡ poster
      → IsWholeRound head runs 1 w old round did v new → IsClosing head new (end ∷ []) note rest → note.left ≡ 0
      → v ≡ ((head posted).id.0, (head timed).id.0)
  posted_then_timed notes exec queue own w v made old new unused poster end posted timed round did note rest base same_queue timer first number sent ended whole closing none_left =
      let id : ℕ = (head timed).id.0 in
      let agenda : old.agenda ≡ with_timer (new_agenda exec 0) 1 id timed = timer ∙ ap (λ (b : BaseSeen J). with_timer b.agenda 1 id timed) base in
      let same : settled old.agenda ≡ old.agenda = subst (λ (a : AgendaSeen J). settled a ≡ a) (sym agenda) refl in
      let of_queue : old.queue ≡ (new_base {J = J} exec 0 queue 1).queue = same_queue ∙ ap (λ (b : BaseSeen J). b.queue) base in
      closed_in_order notes w old round did v new posted timed id end note rest
      same (ap (λ (a : AgendaSeen J). a.before) agenda) (ap (λ (a : AgendaSeen J). a.loops) agenda) (ap (λ (a : AgendaSeen J). a.wheel) agenda)
      (ap (λ q. q.taken) of_queue) (ap (λ q. q.senders) of_queue)
      (ap (λ (e : Sending J). e.number) ended ∙ (number ∙ ap (λ (e : Sending J). e.number) first)) (ap (λ (e : Sending J). e.sent) ended ∙ sent)
      whole closing none_left

module _ {W J : Type 0} (head : J → Head) (runs : JobId → Place W J → Mark → Place W J → Type 0) where
  abbrev IsSame : BaseSeen J → BaseSeen J → Type 0
  IsSame old new = (new.queue.queue ≡ old.queue.queue) × (new.queue.senders ≡ old.queue.senders) × (new.agenda.exec ≡ old.agenda.exec)

  same_by : (ticks : ℕ) (old new : BaseSeen J) → KeepsBase ticks old new → IsSame old new
  same_by ticks old new keeps = (keeps.queue, keeps.senders, keeps.exec)

  -- a round keeps its base, whether it found memory or not
  pub same_base : (w : W) (old : BaseSeen J) (result : Result Round RoundMemory) (v : W) (new : BaseSeen J)
      → ((round : Round) (did : Phases J) → IsWholeRound head runs 1 w old round did v new → KeepsBase 1 old new)
      → ((fault : RoundMemory) (did : Phases J) → IsCutRound head runs 1 w old fault did v new → (n : ℕ) × KeepsBase n old new)
      → ((fault : RoundMemory) → HasNotBegun 1 w old fault v new → KeepsBase 0 old new)
      → IfOk result (λ round. (did : Phases J) × IsWholeRound head runs 1 w old round did v new)
      → IfErr result (λ fault. HasNotBegun 1 w old fault v new ⊎ ((did : Phases J) × IsCutRound head runs 1 w old fault did v new))
      → IsSame old new
  same_base w old (Ok round) v new whole cut none ok err = same_by 1 old new (whole round ok.0 ok.1)
  same_base w old (Err fault) v new whole cut none ok (inl h) = same_by 0 old new (none fault h)
  same_base w old (Err fault) v new whole cut none ok (inr h) = let it = cut fault h.0 h.1 in same_by it.0 old new it.1

  -- a round that found memory is a whole one
  pub whole_where_ok : (w : W) (old : BaseSeen J) (result : Result Round RoundMemory) (v : W) (new : BaseSeen J) (b : Bool) → b ≡ is_ok result
      → IfOk result (λ round. (did : Phases J) × IsWholeRound head runs 1 w old round did v new)
      → OnTrue b ((round : Round) × (did : Phases J) × IsWholeRound head runs 1 w old round did v new)
  whole_where_ok w old (Ok round) v new b is ok = OnTrue_from b ((round : Round) × (did : Phases J) × IsWholeRound head runs 1 w old round did v new) (λ yes. (round, ok.0, ok.1))
  whole_where_ok w old (Err fault) v new b is ok = OnTrue_from b ((round : Round) × (did : Phases J) × IsWholeRound head runs 1 w old round did v new) (λ yes. absurd cc)
