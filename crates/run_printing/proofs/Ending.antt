-- How a stage ends that has all replies.
use Rattle.std.proofs.Common.{◌≡◌, ℕ, ◌+◌, ◌≤◌, min, Bool, true, false, cond, List, [], ◌∷◌, ◌++◌, length, map, filter, refl, sym, ap, ◌∙◌, subst, arith, append-nil, get_or, inl, inr}
use Rattle.std.proofs.lemmas.List.{length-map}
use Rattle.std.specs.List.{All, AllByRecursion, enumerate_from, list_any, sum_by}
use Rattle.std.proofs.lemmas.List.FromFn.{length-enumerate_from}
use Rattle.std.proofs.lemmas.List.Sums.{count_by-le-length, length-filter, sum_by-append, sum_by-cons}
use Rattle.fan_base.specs.Outside.{FaultsRose, Shown, last_count}
use Rattle.query_model.specs.declared.line.Line.{Line}
use Rattle.query_model.specs.declared.reply.Reply.{Reply}
use Rattle.query_model.specs.Order.{replies_of}
use Rattle.core_word.specs.Count.{Counts}
use Rattle.job_trait.specs.declared.job.Head.{Head}
use Rattle.notify_queue.specs.Ends.{Sending}
use Rattle.notify_queue.specs.declared.stamp.Stamped.{Stamped}
use Rattle.notify_queue.specs.Stamps.{messages_of}
use Rattle.event_base.specs.Closing.{IsClosing, RestSeen, held_by, message_of}
use Rattle.event_base.specs.Seen.{NoteSeen}
use Rattle.reply_order.specs.Orders.{next_of}
use Rattle.fan_model.specs.Answered.{answered_in}
use Rattle.fan_model.specs.Laws.{answer_of, is_answer}
use Rattle.reply_printer.specs.declared.printer.Printer.{Printer}
use Rattle.reply_printer.specs.declared.printer.Progress.TheVariants as progress
use Rattle.reply_printer.specs.Passing.{Gains, GainsFront}
use Rattle.reply_printer.specs.Printing.{GoesOn, Placed, Prints, placed_of, text_of}
use Rattle.run_printing.specs.declared.stage.PrintStage.{PrintStage}
use Rattle.run_printing.specs.declared.stage.PrintOutcome.{PrintOutcome}
use Rattle.run_printing.specs.declared.stage.PrintOutcome.TheVariants as outcome
use Rattle.run_printing.specs.Ends.{AreAllTaken, EndsAs, HasAll, HasPrinted, IsDone, IsWhole, LacksSome, Wrote}
use Rattle.run_printing.specs.Events.{Event, IsOf, fired_in, given_by, given_in, has_failed, has_fired, no_counts}

-- each reply counts as one
abbrev one : Placed → ℕ
one x = 1

-- each answer counts as one, and each cancelled query as none
abbrev answers : Placed → ℕ
answers x = cond (is_answer x.1) 1 0

-- each core that fired counts as one
abbrev fires : Event → ℕ
fires e = cond (has_fired e) 1 0

-- where no core fired without a reply, each message gave one
each_gave : (events : List Event) → list_any has_failed events ≡ false → length events ≡ sum_by one (given_in events)
each_gave [] none = refl
each_gave (Event.answered place number reply ∷ es) none =
    let rest = each_gave es none in
    let more = sum_by-cons one (place, (number, reply)) (given_in es) in
    omega arith
each_gave (Event.failed ∷ es) none = absurd cc
each_gave (Event.cancelled place number ∷ es) none =
    let rest = each_gave es none in
    let more = sum_by-append one (given_by (Event.cancelled place number)) (given_in es) in
    omega arith

-- and the cores that fired are the answers that were given
fired_is_answers : (lines : List Line) (events : List Event) → AllByRecursion (IsOf lines) events → list_any has_failed events ≡ false
    → fired_in events ≡ sum_by answers (given_in events)
fired_is_answers lines [] all none = refl
fired_is_answers lines (Event.answered place number reply ∷ es) all none =
    let rest = fired_is_answers lines es all.1 none in
    let given = sum_by-cons answers (place, (number, reply)) (given_in es) in
    let fired = sum_by-cons fires (Event.answered place number reply) es in
    let here : answers (place, (number, reply)) ≡ 1 = ap (λ (b : Bool). cond b 1 0) all.0.1 in
    omega arith
fired_is_answers lines (Event.failed ∷ es) all none = absurd cc
fired_is_answers lines (Event.cancelled place number ∷ es) all none =
    let rest = fired_is_answers lines es all.1 none in
    let given = sum_by-append answers (given_by (Event.cancelled place number)) (given_in es) in
    let fired = sum_by-cons fires (Event.cancelled place number) es in
    omega arith

length_as_sum : (xs : List Placed) → sum_by one xs ≡ length xs
length_as_sum [] = refl
length_as_sum (x ∷ xs) = let rest = length_as_sum xs in let more = sum_by-cons one x xs in omega arith

-- a sum over the replies with their places
without_places : (f : ℕ × Reply → ℕ) (first : ℕ) (xs : List (ℕ × Reply)) → sum_by (λ (x : Placed). f x.1) (enumerate_from first xs) ≡ sum_by f xs
without_places f first [] = refl
without_places f first (x ∷ xs) =
    let rest = without_places f (first + 1) xs in
    let placed = sum_by-cons (λ (y : Placed). f y.1) (first, x) (enumerate_from (first + 1) xs) in
    let plain = sum_by-cons f x xs in
    omega arith

-- a printer that was given the replies of all places, each once
abbrev GivesEachOnce : List Line → Type 0
GivesEachOnce lines = (given : List Placed) (p : Printer) (start now : Shown) → Prints lines given p start now → GoesOn p.progress
    → next_of p.orderer ≡ length (replies_of lines) → (weight : Placed → ℕ) → sum_by weight given ≡ sum_by weight (placed_of lines)

module _ {J : Type 0} (lines : List Line) (stage : PrintStage J) (start now : Shown) (printed : HasPrinted lines start now stage) where
  each_once : GivesEachOnce lines → HasAll stage (length (replies_of lines)) → GoesOn stage.printer.progress
      → (weight : Placed → ℕ) → sum_by weight (given_in printed.events) ≡ sum_by weight (placed_of lines)
  each_once once all goes weight = once (given_in printed.events) stage.printer start now printed.prints goes all.next weight

  none_failed : HasAll stage (length (replies_of lines)) → list_any has_failed printed.events ≡ false
  none_failed all = sym printed.missed ∙ all.all_fired

  -- one message for each reply
  took_each : GivesEachOnce lines → HasAll stage (length (replies_of lines)) → GoesOn stage.printer.progress → length stage.base.queue.taken ≡ length (replies_of lines)
  took_each once all goes =
      sym printed.each ∙ (each_gave printed.events (none_failed all) ∙ (each_once once all goes one
      ∙ (length_as_sum (placed_of lines) ∙ length-enumerate_from 0 (replies_of lines))))

  -- one core for each answered query
  fired_each : GivesEachOnce lines → filter is_answer (replies_of lines) ≡ map (answer_of lines) (answered_in lines)
      → HasAll stage (length (replies_of lines)) → GoesOn stage.printer.progress → fired_in printed.events ≡ length (answered_in lines)
  fired_each once in_order all goes =
      fired_is_answers lines printed.events printed.are_of (none_failed all) ∙ (each_once once all goes answers
      ∙ (without_places (λ (r : ℕ × Reply). cond (is_answer r) 1 0) 0 (replies_of lines)
      ∙ (sym (length-filter is_answer (replies_of lines)) ∙ (ap (λ (l : List (ℕ × Reply)). length l) in_order ∙ length-map (answered_in lines) (answer_of lines)))))

  few_answered : filter is_answer (replies_of lines) ≡ map (answer_of lines) (answered_in lines) → length (replies_of lines) ≤ last_count → length (answered_in lines) ≤ last_count
  few_answered in_order few =
      let some : length (filter is_answer (replies_of lines)) ≡ length (answered_in lines) = ap (λ (l : List (ℕ × Reply)). length l) in_order ∙ length-map (answered_in lines) (answer_of lines) in
      let filtered = length-filter is_answer (replies_of lines) in
      let within = count_by-le-length is_answer (replies_of lines) in
      omega arith

  pub is_whole : (head : J → Head) (ends : List (Sending J)) (note : NoteSeen) (rest : RestSeen J) (tally : Counts)
      → GivesEachOnce lines → filter is_answer (replies_of lines) ≡ map (answer_of lines) (answered_in lines) → length (replies_of lines) ≤ last_count
      → HasAll stage (length (replies_of lines)) → GoesOn stage.printer.progress
      → IsClosing head stage.base ends note rest → (rest.jobs ≡ [] → tally ≡ stage.tally) → IsWhole lines stage.base.agenda.exec note tally
  is_whole head ends note rest tally once in_order few all goes closing spent =
      let left : closing.left ≡ [] = closing.dry (printed.closed all.closed) in
      let none : note.left ≡ 0 = closing.left_over ∙ ap (λ (l : List (Stamped J)). length l) left in
      let taken : note.taken ≡ length (replies_of lines) = closing.taken ∙ took_each once all goes in
      let put : note.put ≡ length (replies_of lines) = let sum = closing.all in omega arith in
      let jobs : rest.jobs ≡ [] = closing.jobs ∙ (ap (λ (l : List (Stamped J)). map message_of l ++ held_by stage.base.agenda) left ∙ printed.none_held) in
      let fired = fired_each once in_order all goes in
      let within = few_answered in_order few in
      let handed : min (0 + fired_in printed.events) last_count ≡ length (answered_in lines) = omega arith in
      record {
        exec = closing.exec;
        put = put;
        taken = taken;
        left = none;
        tally = spent jobs ∙ (printed.tally ∙ ap (λ (n : ℕ). record no_counts { handed = n }) handed);
      }

  -- nothing is left, so all that each poster put was taken
  pub all_taken : (head : J → Head) (ends : List (Sending J)) (note : NoteSeen) (rest : RestSeen J) → stage.closed ≡ true
      → IsClosing head stage.base ends note rest → AreAllTaken stage.base.queue.taken ends
  all_taken head ends note rest closed closing =
      let left : closing.left ≡ [] = closing.dry (printed.closed closed) in
      let whole : All (λ (e : Sending J). messages_of e.number stage.base.queue.taken ++ [] ≡ e.sent) ends =
      subst (λ (l : List (Stamped J)). All (λ (e : Sending J). messages_of e.number stage.base.queue.taken ++ messages_of e.number l ≡ e.sent) ends) left closing.whole in
      λ k d below. sym (append-nil (messages_of (get_or ends k d).number stage.base.queue.taken)) ∙ whole k d below

  -- what was written, by how the stage ends
  pub wrote : (ended : PrintOutcome)
      → ((given : List Placed) (p : Printer) → Prints lines given p start now → p.progress ≡ progress.Writing → next_of p.orderer ≡ length (replies_of lines) → Gains start now (text_of lines))
      → ((given : List Placed) (p : Printer) → Prints lines given p start now → GainsFront start now (text_of lines))
      → ((given : List Placed) (p : Printer) → Prints lines given p start now → p.progress ≡ progress.WriteFault → FaultsRose start.faults now.faults)
      → EndsAs stage (length (replies_of lines)) ended → Wrote lines start now ended
  wrote outcome.Done all front fault ends = all (given_in printed.events) stage.printer printed.prints ends.1 ends.0.next
  wrote outcome.Memory all front fault ends = front (given_in printed.events) stage.printer printed.prints
  wrote outcome.WriteFault all front fault ends = (front (given_in printed.events) stage.printer printed.prints, fault (given_in printed.events) stage.printer printed.prints ends.1)

module _ {J : Type 0} (stage : PrintStage J) (queries : ℕ) where
  pub done_has_all : (ended : PrintOutcome) → IsDone ended → EndsAs stage queries ended → HasAll stage queries × GoesOn stage.printer.progress
  done_has_all outcome.Done done ends = (ends.0, inl ends.1)
  done_has_all outcome.WriteFault done ends = (ends.0, inr ends.1)
  done_has_all outcome.Memory (inl e) ends = absurd cc
  done_has_all outcome.Memory (inr e) ends = absurd cc

  pub memory_lacks : (ended : PrintOutcome) → EndsAs stage queries ended → ended ≡ outcome.Memory → LacksSome stage queries
  memory_lacks ended ends is = subst (λ (o : PrintOutcome). EndsAs stage queries o) is ends
