use Rattle.std.proofs.Common.{◌≡◌, List, [], ◌∷◌, ◌++◌, sym, ap, ◌∙◌, rules}
use Rattle.notify_queue.specs.Ends.{Sending, Receiving}
use Rattle.runtime_examples.proofs.Ends.{two_popped, two_ends, two_put}
use Rattle.runtime_examples.proofs.queued.hear_both.Goals as goal

pub close-end-requires : goal.close-end-requires
close-end-requires g c =
    let first = c.end.result in
    let second = c.end-2.result in
    let r = c.take_up_to-taken.new.self in
    let new = c.in_ok-receiver in
    let popped = two_popped new.receiver.queue new.senders.items c.pop.new.self.items c.pop-2.new.self.items c.in-Some-pop.first c.in-Some.second new.ensures.senders c.in-Some.ensures.items c.in-Some-pop.ensures.items in
    let none : c.in_ok-ends.ends.items ≡ [] = search rules in
    let items : c.push_reserved-2.new.self.items ≡ first ∷ second ∷ [] =
    c.push_reserved-2.ensures.items ∙ (ap (λ (l : List (Sending _)). l ++ second ∷ []) c.push_reserved.ensures.items ∙ ap (λ (l : List (Sending _)). (l ++ first ∷ []) ++ second ∷ []) none) in
    let queue : r.queue ≡ new.receiver.queue = c.take_up_to-taken.ensures.same.0 in
    let two : r.senders ≡ 2 = c.take_up_to-taken.ensures.same.1 ∙ ap (λ (x : Receiving _). x.senders) new.ensures.receiver in
    let first_of : first.queue ≡ r.queue = ap (λ (e : Sending _). e.queue) c.end.ensures ∙ (c.put_two-one_put.ensures.same.0 ∙ (ap (λ (e : Sending _). e.queue) popped.0 ∙ sym queue)) in
    let second_of : second.queue ≡ r.queue = ap (λ (e : Sending _). e.queue) c.end-2.ensures ∙ (c.put_two-other_put.ensures.same.0 ∙ (ap (λ (e : Sending _). e.queue) popped.1 ∙ sym queue)) in
    let zero_is : first.number ≡ 0 = ap (λ (e : Sending _). e.number) c.end.ensures ∙ (c.put_two-one_put.ensures.same.1 ∙ ap (λ (e : Sending _). e.number) popped.0) in
    let one_is : second.number ≡ 1 = ap (λ (e : Sending _). e.number) c.end-2.ensures ∙ (c.put_two-other_put.ensures.same.1 ∙ ap (λ (e : Sending _). e.number) popped.1) in
    rw items (two_ends r first second two first_of zero_is second_of one_is)

pub returns-clause-one : goal.returns-clause-one
returns-clause-one g c =
    let first = c.end.result in
    let second = c.end-2.result in
    let r = c.take_up_to-taken.new.self in
    let new = c.in_ok-receiver in
    let popped = two_popped new.receiver.queue new.senders.items c.pop.new.self.items c.pop-2.new.self.items c.in-Some-pop.first c.in-Some.second new.ensures.senders c.in-Some.ensures.items c.in-Some-pop.ensures.items in
    let none : c.in_ok-ends.ends.items ≡ [] = search rules in
    let items : c.push_reserved-2.new.self.items ≡ first ∷ second ∷ [] =
    c.push_reserved-2.ensures.items ∙ (ap (λ (l : List (Sending _)). l ++ second ∷ []) c.push_reserved.ensures.items ∙ ap (λ (l : List (Sending _)). (l ++ first ∷ []) ++ second ∷ []) none) in
    let taken : r.taken ≡ c.in_ok-taken.field-0.items = c.in_ok-taken.ensures.taken.0 ∙ ap (λ (x : Receiving _). x.taken ++ c.in_ok-taken.field-0.items) new.ensures.receiver in
    let zero_is : first.number ≡ 0 = ap (λ (e : Sending _). e.number) c.end.ensures ∙ (c.put_two-one_put.ensures.same.1 ∙ ap (λ (e : Sending _). e.number) popped.0) in
    let one_is : second.number ≡ 1 = ap (λ (e : Sending _). e.number) c.end-2.ensures ∙ (c.put_two-other_put.ensures.same.1 ∙ ap (λ (e : Sending _). e.number) popped.1) in
    (two_put r c.in_ok-taken.field-0.items c.close-end.result.rest.left c.push_reserved-2.new.self.items first second items c.close-end.ensures.whole taken zero_is one_is).0 ∙ (ap (λ (e : Sending _). e.sent) c.end.ensures ∙ c.if-not-one_put.ensures.sent)

pub returns-clause-other : goal.returns-clause-other
returns-clause-other g c =
    let first = c.end.result in
    let second = c.end-2.result in
    let r = c.take_up_to-taken.new.self in
    let new = c.in_ok-receiver in
    let popped = two_popped new.receiver.queue new.senders.items c.pop.new.self.items c.pop-2.new.self.items c.in-Some-pop.first c.in-Some.second new.ensures.senders c.in-Some.ensures.items c.in-Some-pop.ensures.items in
    let none : c.in_ok-ends.ends.items ≡ [] = search rules in
    let items : c.push_reserved-2.new.self.items ≡ first ∷ second ∷ [] =
    c.push_reserved-2.ensures.items ∙ (ap (λ (l : List (Sending _)). l ++ second ∷ []) c.push_reserved.ensures.items ∙ ap (λ (l : List (Sending _)). (l ++ first ∷ []) ++ second ∷ []) none) in
    let taken : r.taken ≡ c.in_ok-taken.field-0.items = c.in_ok-taken.ensures.taken.0 ∙ ap (λ (x : Receiving _). x.taken ++ c.in_ok-taken.field-0.items) new.ensures.receiver in
    let zero_is : first.number ≡ 0 = ap (λ (e : Sending _). e.number) c.end.ensures ∙ (c.put_two-one_put.ensures.same.1 ∙ ap (λ (e : Sending _). e.number) popped.0) in
    let one_is : second.number ≡ 1 = ap (λ (e : Sending _). e.number) c.end-2.ensures ∙ (c.put_two-other_put.ensures.same.1 ∙ ap (λ (e : Sending _). e.number) popped.1) in
    (two_put r c.in_ok-taken.field-0.items c.close-end.result.rest.left c.push_reserved-2.new.self.items first second items c.close-end.ensures.whole taken zero_is one_is).1 ∙ (ap (λ (e : Sending _). e.sent) c.end-2.ensures ∙ c.if-not-other_put.ensures.sent)
