-- An adder pushes a task.
use Rattle.std.proofs.Common.{◌≡◌, ℕ, ◌<◌, List, [], ◌∷◌, ◌++◌, length, length-append, map, sym, refl, ap, ◌∙◌, subst, append_assoc, append-nil, arith}
use Rattle.std.specs.List.{All, sum_by}
use Rattle.std.proofs.lemmas.List.{map-append}
use Rattle.std.proofs.lemmas.List.Sums.{sum_by_push}
use Rattle.std.proofs.lemmas.List.Elements.{All-push}
use Rattle.crossbeam_queue.specs.Fifo.{Pushes}
use Rattle.job_trait.specs.declared.job.Head.{Head}
use Rattle.pool_model.specs.declared.task.Entry.{Entry}
use Rattle.pool_model.specs.History.{accepted, accepts, takes, outs, lefts, accepted_by, taken_by}
use Rattle.pool_model.proofs.Histories.{accepts-append}
use Rattle.task_queue.proofs.Histories.{takes-append, lefts-append, outs-append, taken_by-append, accepted_by-same, accepted_by-other, lawful_accept}
use Rattle.task_queue.specs.declared.rule.Queued.{Queued}
use Rattle.task_queue.specs.declared.view.View.{View}
use Rattle.task_queue.specs.Views.{adding, entry_of, pushes_of, pops_of, room_of, most}
use Rattle.task_queue.specs.Rule.{Facts, QueueHolds, Knows}
use Rattle.queue_packets.proofs.Views.{all_set}
use Rattle.task_queue.proofs.Sums.{sum-set}
use Rattle.task_queue.proofs.Known.{Steps, knows_still}

module _ {J : Type 0} (head : J → Head) where
  pub pushes : (n pass w number : ℕ) (pushed : List Entry) (x : Queued J) → x.ticket.adder ≡ number → All (λ e. e.ticket.index < x.ticket.index) pushed → length pushed < most
      → Pushes (QueueHolds head) n pass (adding w number pushed) x (λ u. u ≡ adding w number (pushed ++ entry_of head x ∷ []))
  pushes n pass w number pushed x from below has_room items views _ d here =
      let v = adding w number pushed in
      let e = entry_of head x in
      let u = adding w number (pushed ++ e ∷ []) in
      let f = d.facts in
      let mine = d.knows pass v here in
      let history = f.history ++ accepted e ∷ [] in
      let accept_is : accepts history ≡ accepts f.history ++ e ∷ [] = accepts-append f.history (accepted e ∷ []) in
      let take_is : takes history ≡ takes f.history = takes-append f.history (accepted e ∷ []) ∙ append-nil (takes f.history) in
      let out_is : outs history ≡ outs f.history = outs-append f.history (accepted e ∷ []) ∙ append-nil (outs f.history) in
      let left_is : lefts history ≡ lefts f.history = lefts-append f.history (accepted e ∷ []) ∙ append-nil (lefts f.history) in
      let own_is : accepted_by number history ≡ pushed ++ e ∷ [] = accepted_by-same number f.history e from ∙ ap (λ (l : List Entry). l ++ e ∷ []) mine.list in
      let taken_is : (m : ℕ) → taken_by m history ≡ taken_by m f.history = λ m. taken_by-append m f.history (accepted e ∷ []) ∙ append-nil (taken_by m f.history) in
      let g : Facts = record { history = history; whole = f.whole; adders = f.adders; takers = f.takers; adder_at = f.adder_at; taker_at = f.taker_at } in
      let steps : Steps pass pass f g = record {
        whole = refl;
        left = left_is;
        adders = omega arith;
        takers = omega arith;
        made = λ _. (refl, refl);
        adder = λ a within other _. (refl, accepted_by-other a f.history e (λ same. other (ap f.adder_at (sym same ∙ from) ∙ mine.own)));
        taker = λ m within _ _. (refl, taken_is m);
      } in (
        u,
        record {
          facts = g;
          lawful = lawful_accept f.history e d.lawful (subst (All (λ (y : Entry). y.ticket.index < x.ticket.index)) (sym (ap (λ (a : ℕ). accepted_by a f.history) from ∙ mine.list)) below);
          waits = accept_is ∙ (ap (λ (l : List Entry). l ++ e ∷ []) d.waits ∙ (append_assoc (outs f.history) (map (entry_of head) items) (e ∷ []) ∙ (ap (λ (l : List Entry). outs f.history ++ l) (sym (map-append (entry_of head) items (x ∷ []))) ∙ ap (λ (l : List Entry). l ++ map (entry_of head) (items ++ x ∷ [])) (sym out_is))));
          left_last = out_is ∙ (d.left_last ∙ (ap (λ (l : List Entry). l ++ lefts f.history) (sym take_is) ∙ ap (λ (l : List Entry). takes history ++ l) (sym left_is)));
          from_adders = subst (All (λ (y : Entry). y.ticket.adder < f.adders)) (sym accept_is) (All-push (λ (y : Entry). y.ticket.adder < f.adders) (accepts f.history) e d.from_adders (rw from mine.made));
          from_takers = λ m le. taken_is m ∙ d.from_takers m le;
          parts = let s = sum-set (λ (y : View). y.parts) views pass v u here in let whole = d.parts in omega arith;
          pushed = λ h.
              let s = sum-set (λ (y : View). sum_by h (pushes_of y)) views pass v u here in
              omega (arith, s, d.pushed h, ap (sum_by h) accept_is, sum_by_push h pushed e, sum_by_push h (accepts f.history) e);
          popped = λ h.
              let s = sum-set (λ (y : View). sum_by h (pops_of y)) views pass v u here in
              omega (arith, s, d.popped h, ap (sum_by h) take_is);
          room = let s = sum-set room_of views pass v u here in let is = d.room in omega arith;
          knows = all_set (Knows g) views pass u
              record {
                parts = refl;
                whole = mine.whole;
                own = mine.own;
                made = mine.made;
                list = own_is;
                short = omega (arith, has_room, length-append pushed (e ∷ []));
                none_left = left_is ∙ mine.none_left;
              }
              (λ j y apart there. knows_still pass pass f g steps j y apart apart (d.knows j y there));
        },
        refl,
      )
