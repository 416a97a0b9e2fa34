use Rattle.std.proofs.Common.{rules, ◌≡◌, suc, [], ◌∷◌, ◌++◌, List, map, length, length-append, refl, sym, ap, ◌∙◌, subst, arith}
use Rattle.std.proofs.lemmas.List.{nil_from_length}
use Rattle.std.specs.List.{sum_by}
use Rattle.notify_queue.specs.Ends.{AreNewSenders, Sending}
use Rattle.event_base.specs.Closing.{held_by, message_of}
use Rattle.run_bases.specs.Columns.{AreBack}
use Rattle.run_bases.proofs.Backs.{back_more, last_poster, sent_push, unused_end}
use Rattle.run_bases.proofs.making.close_unused.Goals as goal

pub posters-init : goal.posters-init
posters-init g c =
    let r = c.requires in
    let queue = c.args.base.queue.queue in
    let ends = c.args.column.ends.items in
    let column = r.2 in
    let exec_is : c.args.base.agenda.exec ≡ r.0 = ap (λ b. b.agenda.exec) r.1.is_new in
    let none : ends ≡ [] = nil_from_length ends (omega (arith, column.back.as_many)) in
    record {
      left = (refl, λ number below. column.posters.1 number (omega (arith, below, column.posters.0)));
      back = subst (λ x. AreBack g.J.Headed.head queue x c.args.senders (length c.args.column.posters.items) ends) (sym exec_is)
          (subst (λ n. AreBack g.J.Headed.head queue r.0 c.args.senders n ends) (sym column.posters.0) column.back);
      unused = ap (λ (l : List (Sending g.row.J.Denot)). sum_by (λ (e : Sending g.row.J.Denot). length e.sent) l) none;
      room = column.room;
    }

pub posters-preserved : goal.posters-preserved
posters-preserved g c =
    let i = c.posters.invariant in
    let queue = c.args.base.queue.queue in
    let old = c.posters.posters.items in
    let now = c.pop.new.self.items in
    let p = c.in-Some.poster in
    let is : old ≡ now ++ p ∷ [] = c.in-Some.ensures.items in
    let long : length old ≡ suc (length now) = omega (arith, ap length is, length-append now (p ∷ [])) in
    let were : AreNewSenders queue (suc (length now)) (now ++ p ∷ []) = subst (λ l. AreNewSenders queue (suc (length now)) l) is (subst (λ n. AreNewSenders queue n old) long i.left) in
    let last = last_poster queue (length now) now p were in
    let end_is = c.end.ensures ∙ last.0 in
    let ends = c.posters.ends.items in
    record {
      left = (refl, last.1.1);
      back = subst (λ l. AreBack g.J.Headed.head queue c.args.base.agenda.exec c.args.senders (length now) l) (sym c.push_reserved.ensures.items)
          (back_more g.J.Headed.head queue c.args.base.agenda.exec c.args.senders (length now) ends c.end.result (subst (λ n. AreBack g.J.Headed.head queue c.args.base.agenda.exec c.args.senders n ends) long i.back)
          (unused_end g.J.Headed.head queue (length now) c.args.base.agenda.exec c.end.result end_is));
      unused = ap (λ (l : List (Sending g.row.J.Denot)). sum_by (λ (e : Sending g.row.J.Denot). length e.sent) l) c.push_reserved.ensures.items
          ∙ sent_push ends c.end.result i.unused (ap (λ (e : Sending g.row.J.Denot). e.sent) end_is);
      room = omega (arith, i.room, c.push_reserved.ensures.capacity);
    }

pub close-rest-requires-clause-ends : goal.close-rest-requires-clause-ends
close-rest-requires-clause-ends g c =
    let queue = c.args.base.queue.queue in
    let exec = c.args.base.agenda.exec in
    let ends = c.posters.ends.items in
    let none : length c.posters.posters.items ≡ 0 = search rules in
    let back = subst (λ n. AreBack g.J.Headed.head queue exec c.args.senders n ends) none c.posters.invariant.back in
    (c.all_are_back.ensures queue exec c.args.senders ends c.args.base.queue back refl (ap (λ b. b.queue.senders) c.requires.1.is_new)).0

pub end-requires-2 : goal.end-requires-2
end-requires-2 g c =
    let e = c.close-rest.ensures in
    let i = c.posters.invariant in
    let none : e.left ≡ [] = nil_from_length e.left (omega (arith, e.put, i.unused, e.all, e.left_over)) in
    let held : held_by c.args.base.agenda ≡ [] = ap (λ b. held_by b.agenda) c.requires.1.is_new in
    e.jobs ∙ (ap (λ l. map message_of l ++ held_by c.args.base.agenda) none ∙ held)
