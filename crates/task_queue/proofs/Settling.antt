-- A queue that ends.
use Rattle.std.proofs.Common.{◌≡◌, List, [], ◌++◌, map, refl, ap, ◌∙◌, subst, append-nil, arith}
use Rattle.std.specs.List.{sum_by}
use Rattle.std.proofs.lemmas.List.Sums.{sum_by-append}
use Rattle.job_trait.specs.declared.job.Head.{Head}
use Rattle.pool_model.specs.declared.task.Entry.{Entry}
use Rattle.pool_model.specs.History.{Event, outs}
use Rattle.pool_model.specs.Orders.{IsSameInAnyOrder}
use Rattle.task_queue.proofs.Histories.{outs_are}
use Rattle.task_queue.specs.declared.rule.Queued.{Queued}
use Rattle.task_queue.specs.declared.view.Share.{Share}
use Rattle.task_queue.specs.declared.view.View.{View}
use Rattle.task_queue.specs.Seen.{GatheredSeen}
use Rattle.task_queue.specs.Steps.{IsWhole, Shows}
use Rattle.task_queue.specs.Views.{gathered, entries_of, entry_of}
use Rattle.task_queue.specs.Settled.{Settled, Drained}

-- what the adders pushed was popped or is left
balance : (added taken : List Share) (rest : List Entry) (history : List Event) → IsWhole added taken rest [] history → IsSameInAnyOrder (entries_of added) (entries_of taken ++ rest)
balance added taken rest history whole = record {
  sums = λ h. omega (
    arith,
    whole.all_accepted.sums h,
    ap (sum_by h) (whole.waits ∙ append-nil (outs history)),
    outs_are h history,
    whole.all_taken.sums h,
    ap (sum_by h) whole.left,
    sum_by-append h (entries_of taken) rest,
  );
}

pub settled : (g : GatheredSeen) (v : View) (rest : List Entry) → v.added ≡ g.added → v.taken ≡ g.taken → Drained v rest → Settled g rest
settled g v rest added taken d =
    let whole = subst (λ (l : List Share). IsWhole l g.taken rest [] d.history) added (subst (λ (l : List Share). IsWhole v.added l rest [] d.history) taken d.whole) in
    record { history = d.history; whole = whole; balanced = balance g.added g.taken rest d.history whole }

-- a look that found nothing
pub drained : {J : Type 0} (head : J → Head) (old now : View) (rest : List (Queued J)) → now ≡ gathered old.whole old.whole old.added old.taken (map (entry_of head) rest) → Shows head now [] → Drained old (map (entry_of head) rest)
drained head old now rest is shows =
    let told = subst (λ (v : View). Shows head v []) is shows in
    let h = told refl refl in
    record { history = h.0; whole = h.1 }
