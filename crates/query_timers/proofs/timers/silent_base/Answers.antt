use Rattle.std.proofs.Common.{◌≡◌, List, [], ◌∷◌, ◌++◌, ap, ◌∙◌, arith}
use Rattle.notify_queue.specs.Ends.{Sending}
use Rattle.event_base.specs.Seen.{BaseSeen}
use Rattle.query_timers.specs.declared.due.DueQuery.{DueQuery}
use Rattle.query_timers.proofs.Linked.{one_silent, only_one}
use Rattle.query_timers.proofs.timers.silent_base.Goals as goal

pub returns-in-Some-clause-ends : goal.returns-in-Some-clause-ends
returns-in-Some-clause-ends g c =
    let base = c.in-Ok-new.base in
    let end = c.end.result in
    let made = c.in-Ok-new.ensures in
    let poster = only_one c.in-Ok-new.posters.items c.pop.new.self.items c.in-Some.poster _ c.in-Some.ensures.items made.posters.0 (made.posters.1 0 (omega arith)) in
    let is = c.end.ensures ∙ poster in
    let items : c.push_reserved.new.self.items ≡ end ∷ [] = c.push_reserved.ensures.items ∙ ap (λ (l : List (Sending DueQuery)). l ++ end ∷ []) c.in-Ok.ensures.items in
    let silent = one_silent base end (ap (λ (b : BaseSeen DueQuery). b.queue.senders) made.base) (ap (λ (s : Sending DueQuery). s.queue) is) (ap (λ (s : Sending DueQuery). s.number) is) (ap (λ (s : Sending DueQuery). s.sent) is) in
    rw items silent
