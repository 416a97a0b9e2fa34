-- A taker, or the gathered pass that is whole, pops a task or finds none.
use Rattle.std.proofs.Common.{◌≡◌, ℕ, ◌<◌, List, [], ◌∷◌, ◌++◌, length, map, sym, refl, ap, ◌∙◌, subst, append_assoc, append-nil, arith}
use Rattle.std.specs.List.{All, sum_by}
use Rattle.std.proofs.lemmas.List.Sums.{sum_by_push}
use Rattle.std.proofs.lemmas.List.Elements.{All-weaker}
use Rattle.crossbeam_queue.specs.Fifo.{Pops, Learns}
use Rattle.job_trait.specs.declared.job.Head.{Head}
use Rattle.pool_model.specs.declared.task.Entry.{Entry}
use Rattle.pool_model.specs.History.{PoolHistory, taken, left, accepts, takes, outs, lefts, accepted_by, taken_by}
use Rattle.pool_model.specs.Tickets.{Ascend, tickets_of}
use Rattle.pool_model.proofs.Histories.{accepts-append, outs_ascend}
use Rattle.task_queue.proofs.Histories.{takes-append, lefts-append, outs-append, taken_by-append, accepted_by-append, taken_by-same, taken_by-other, lawful_take, lawful_left, outs_short, ascend_taken_by, ascend_lefts, length-taken_by, length-lefts}
use Rattle.task_queue.specs.declared.view.Share.{Share}
use Rattle.task_queue.specs.declared.view.View.{View}
use Rattle.task_queue.specs.Views.{taking, gathered, entry_of, pushes_of, pops_of, room_of}
use Rattle.task_queue.specs.Rule.{Facts, QueueHolds, Knows, IsAdderShare, IsTakerShare}
use Rattle.task_queue.specs.Steps.{Took, Shows}
use Rattle.queue_packets.proofs.Views.{all_set}
use Rattle.task_queue.proofs.Sums.{sum-set, sum_one}
use Rattle.task_queue.proofs.Known.{Steps, knows_still, others_know_still, others_tell_nothing, accepts_short}

module _ {J : Type 0} (head : J → Head) where
  -- a taker takes the task in front
  pub takes_first : (pass w number : ℕ) (popped : List Entry) → Pops (QueueHolds head) pass (taking w number popped) (Took head (taking w number popped))
  takes_first pass w number popped x items views d here =
      let v = taking w number popped in
      let e = entry_of head x in
      let rest = map (entry_of head) items in
      let u = taking w number (popped ++ e ∷ []) in
      let f = d.facts in
      let mine = d.knows pass v here in
      let history = f.history ++ taken number e ∷ [] in
      let accept_is : accepts history ≡ accepts f.history = accepts-append f.history (taken number e ∷ []) ∙ append-nil (accepts f.history) in
      let take_is : takes history ≡ takes f.history ++ e ∷ [] = takes-append f.history (taken number e ∷ []) in
      let out_is : outs history ≡ outs f.history ++ e ∷ [] = outs-append f.history (taken number e ∷ []) in
      let left_is : lefts history ≡ lefts f.history = lefts-append f.history (taken number e ∷ []) ∙ append-nil (lefts f.history) in
      let own_is : taken_by number history ≡ popped ++ e ∷ [] = taken_by-same number f.history e ∙ ap (λ (l : List Entry). l ++ e ∷ []) mine.list in
      let accepted_is : (a : ℕ) → accepted_by a history ≡ accepted_by a f.history = λ a. accepted_by-append a f.history (taken number e ∷ []) ∙ append-nil (accepted_by a f.history) in
      let lawful : PoolHistory history = lawful_take f.history number e rest d.lawful d.waits in
      let g : Facts = record { history = history; whole = f.whole; adders = f.adders; takers = f.takers; adder_at = f.adder_at; taker_at = f.taker_at } in
      let steps : Steps pass pass f g = record {
        whole = refl;
        left = left_is;
        adders = omega arith;
        takers = omega arith;
        made = λ _. (refl, refl);
        adder = λ a within _ _. (refl, accepted_is a);
        taker = λ m within other _. (refl, taken_by-other m number f.history e (λ same. other (ap f.taker_at (sym same) ∙ mine.own)));
      } in (
        u,
        record {
          facts = g;
          lawful = lawful;
          waits = accept_is ∙ (d.waits ∙ (sym (append_assoc (outs f.history) (e ∷ []) rest) ∙ ap (λ (l : List Entry). l ++ rest) (sym out_is)));
          left_last = out_is ∙ (ap (λ (l : List Entry). l ++ e ∷ []) (d.left_last ∙ (ap (λ (l : List Entry). takes f.history ++ l) mine.none_left ∙ append-nil (takes f.history)))
              ∙ (sym take_is ∙ (sym (append-nil (takes history)) ∙ ap (λ (l : List Entry). takes history ++ l) (sym (left_is ∙ mine.none_left)))));
          from_adders = subst (All (λ (y : Entry). y.ticket.adder < f.adders)) (sym accept_is) d.from_adders;
          from_takers = λ m le. taken_by-other m number f.history e (λ same. omega (arith, same, le, mine.made)) ∙ d.from_takers m le;
          parts = let s = sum-set (λ (y : View). y.parts) views pass v u here in let whole = d.parts in omega arith;
          pushed = λ h.
              let s = sum-set (λ (y : View). sum_by h (pushes_of y)) views pass v u here in
              omega (arith, s, d.pushed h, ap (sum_by h) accept_is);
          popped = λ h.
              let s = sum-set (λ (y : View). sum_by h (pops_of y)) views pass v u here in
              omega (arith, s, d.popped h, ap (sum_by h) take_is, sum_by_push h popped e, sum_by_push h (takes f.history) e);
          room = let s = sum-set room_of views pass v u here in let is = d.room in omega arith;
          knows = all_set (Knows g) views pass u
              record { parts = refl; whole = mine.whole; own = mine.own; made = mine.made; list = own_is; none_left = left_is ∙ mine.none_left }
              (λ j y apart there. knows_still pass pass f g steps j y apart apart (d.knows j y there));
        },
        record {
          view = refl;
          ascend = subst (λ (l : List Entry). Ascend (tickets_of l)) own_is (ascend_taken_by number history (outs_ascend history lawful));
          short = omega (arith, ap length own_is, length-taken_by number history, outs_short history lawful, ap length accept_is, accepts_short head (x ∷ items) views d);
        },
      )

  -- the gathered pass that is whole takes the task in front, which is left
  pub takes_left : (pass p : ℕ) (added taken_shares : List Share) (popped : List Entry) → Pops (QueueHolds head) pass (gathered p p added taken_shares popped) (Took head (gathered p p added taken_shares popped))
  takes_left pass p added taken_shares popped x items views d here =
      let v = gathered p p added taken_shares popped in
      let e = entry_of head x in
      let rest = map (entry_of head) items in
      let u = gathered p p added taken_shares (popped ++ e ∷ []) in
      let f = d.facts in
      let mine = d.knows pass v here in
      let history = f.history ++ left e ∷ [] in
      let accept_is : accepts history ≡ accepts f.history = accepts-append f.history (left e ∷ []) ∙ append-nil (accepts f.history) in
      let take_is : takes history ≡ takes f.history = takes-append f.history (left e ∷ []) ∙ append-nil (takes f.history) in
      let out_is : outs history ≡ outs f.history ++ e ∷ [] = outs-append f.history (left e ∷ []) in
      let left_is : lefts history ≡ popped ++ e ∷ [] = lefts-append f.history (left e ∷ []) ∙ ap (λ (l : List Entry). l ++ e ∷ []) mine.left in
      let accepted_is : (a : ℕ) → accepted_by a history ≡ accepted_by a f.history = λ a. accepted_by-append a f.history (left e ∷ []) ∙ append-nil (accepted_by a f.history) in
      let taken_is : (m : ℕ) → taken_by m history ≡ taken_by m f.history = λ m. taken_by-append m f.history (left e ∷ []) ∙ append-nil (taken_by m f.history) in
      let lawful : PoolHistory history = lawful_left f.history e rest d.lawful d.waits in
      let g : Facts = record { history = history; whole = f.whole; adders = f.adders; takers = f.takers; adder_at = f.adder_at; taker_at = f.taker_at } in (
        u,
        record {
          facts = g;
          lawful = lawful;
          waits = accept_is ∙ (d.waits ∙ (sym (append_assoc (outs f.history) (e ∷ []) rest) ∙ ap (λ (l : List Entry). l ++ rest) (sym out_is)));
          left_last = out_is ∙ (ap (λ (l : List Entry). l ++ e ∷ []) d.left_last ∙ (append_assoc (takes f.history) (lefts f.history) (e ∷ [])
              ∙ (ap (λ (l : List Entry). takes f.history ++ l) (sym (lefts-append f.history (left e ∷ []))) ∙ ap (λ (l : List Entry). l ++ lefts history) (sym take_is))));
          from_adders = subst (All (λ (y : Entry). y.ticket.adder < f.adders)) (sym accept_is) d.from_adders;
          from_takers = λ m le. taken_is m ∙ d.from_takers m le;
          parts = let s = sum-set (λ (y : View). y.parts) views pass v u here in let whole = d.parts in omega arith;
          pushed = λ h.
              let s = sum-set (λ (y : View). sum_by h (pushes_of y)) views pass v u here in
              omega (arith, s, d.pushed h, ap (sum_by h) accept_is);
          popped = λ h.
              let s = sum-set (λ (y : View). sum_by h (pops_of y)) views pass v u here in
              omega (arith, s, d.popped h, ap (sum_by h) take_is);
          room = let s = sum-set room_of views pass v u here in let is = d.room in omega arith;
          knows = all_set (Knows g) views pass u
              record {
                parts = mine.parts;
                whole = mine.whole;
                added = All-weaker (IsAdderShare f) (IsAdderShare g) (λ s is. record { gone = is.gone; made = is.made; list = accepted_is s.number ∙ is.list; short = is.short }) added mine.added;
                taken = All-weaker (IsTakerShare f) (IsTakerShare g) (λ s is. record { gone = is.gone; made = is.made; list = taken_is s.number ∙ is.list }) taken_shares mine.taken;
                left = left_is;
              }
              (others_know_still head (x ∷ items) views d pass v here mine.whole g refl refl refl mine.parts);
        },
        record {
          view = refl;
          ascend = subst (λ (l : List Entry). Ascend (tickets_of l)) left_is (ascend_lefts history (outs_ascend history lawful));
          short = omega (arith, ap length left_is, length-lefts history, outs_short history lawful, ap length accept_is, accepts_short head (x ∷ items) views d);
        },
      )

  -- the gathered pass that is whole learns what happened in all
  pub shows_whole : (pass p : ℕ) (added taken_shares : List Share) (popped : List Entry) → Learns (QueueHolds head) pass (gathered p p added taken_shares popped) (Shows head (gathered p p added taken_shares popped))
  shows_whole pass p added taken_shares popped items views d here is_gathered is_whole =
      let v = gathered p p added taken_shares popped in
      let f = d.facts in
      let mine = d.knows pass v here in
      let others = others_tell_nothing head items views d pass v here mine.whole in (
        f.history,
        record {
          lawful = d.lawful;
          accepted = All-weaker (IsAdderShare f) (λ (s : Share). accepted_by s.number f.history ≡ s.entries) (λ s is. is.list) added mine.added;
          taken_is = All-weaker (IsTakerShare f) (λ (s : Share). taken_by s.number f.history ≡ s.entries) (λ s is. is.list) taken_shares mine.taken;
          all_accepted = record { sums = λ h. sym (sum_one (λ (y : View). sum_by h (pushes_of y)) views pass v here (λ j u apart there. ap (sum_by h) (others j u apart there).0)) ∙ d.pushed h };
          all_taken = record { sums = λ h. sym (sum_one (λ (y : View). sum_by h (pops_of y)) views pass v here (λ j u apart there. ap (sum_by h) (others j u apart there).1)) ∙ d.popped h };
          left = mine.left;
          left_last = d.left_last;
          waits = d.waits;
          short = accepts_short head items views d;
        },
      )

  -- a taker learns nothing
  pub shows_nothing : (pass w number : ℕ) (popped : List Entry) → Learns (QueueHolds head) pass (taking w number popped) (Shows head (taking w number popped))
  shows_nothing pass w number popped items views d here is_gathered is_whole = cc
