use Rattle.std.proofs.Common.{◌≡◌, List, [], ◌∷◌, ◌++◌, length, length-append, reverse, refl, ap, sym, subst, ◌∙◌, append_assoc, append-nil, arith}
use Rattle.std.specs.List.{All}
use Rattle.std.specs.declared.alloc.Global.{Global}
use Rattle.std.proofs.lemmas.Grind.{flat_map-append}
use Rattle.std.proofs.lemmas.List.{reverse-reverse}
use Rattle.std.proofs.lemmas.List.Elements.{All-head, All-tail, All-nil, All-push}
use Rattle.crossbeam_queue.specs.SegTies.{SegId}
use Rattle.pool_model.specs.Endings.{RanWhatItTook, records_of}
use Rattle.pool_model.specs.Records.{Record}
use Rattle.pool_model.specs.Seen.{EndSeen}
use Rattle.task_queue.specs.Marks.{WatchSeen}
use Rattle.prio_pool.specs.Gathering.{gathered_from, IsOf, FoundAs, ends_left}
use Rattle.pool_model.proofs.Lists.{one_over}
use Rattle.prio_pool.proofs.together.put_ends.Goals as goal

pub put_end-more-requires-clause-of : goal.put_end-more-requires-clause-of
put_end-more-requires-clause-of g c =
    let e : EndSeen = c.in-Some.end in
    let of_end = IsOf c.args.passes c.args.queues.now.items c.args.mark.now.mark in
    All-head of_end e (ends_left c.next_end.new.ends.items c.next_end.new.helped.items) (subst (All of_end) c.in-Some.ensures.some c.loop-end.invariant.of_pool)

pub loop-end-smaller : goal.loop-end-smaller
loop-end-smaller g c = omega (arith, ap length c.in-Some.ensures.some)

pub append-requires : goal.append-requires
append-requires g c = omega (arith, c.loop-end.invariant.room, ap length c.in-Some.ensures.some, c.put_end-more.ensures.short)

pub loop-end-preserved : goal.loop-end-preserved
loop-end-preserved g c =
    let i = c.loop-end.invariant in
    let whole = c.args.passes in
    let qs : List (SegId Global) = c.args.queues.now.items in
    let e : EndSeen = c.in-Some.end in
    let left = ends_left c.next_end.new.ends.items c.next_end.new.helped.items in
    let put = c.put_end-more.ensures in
    let next : ends_left c.loop-end.ends.items c.loop-end.helped.items ≡ e ∷ left = c.in-Some.ensures.some in
    let of_end = IsOf whole qs c.args.mark.now.mark in
    let of_pool = subst (All of_end) next i.of_pool in
    let found = ap (λ (w : WatchSeen). w.found) i.begun in
    let made : c.append.new.self ≡ c.loop-end.records ++ e.records = c.append.ensures ∙ ap (λ (l : List Record). c.loop-end.records ++ l) put.records in
    let one : records_of (i.done ++ e ∷ []) ≡ records_of i.done ++ e.records = flat_map-append (λ (x : EndSeen). x.records) i.done (e ∷ []) ∙ ap (λ (l : List Record). records_of i.done ++ l) (append-nil e.records) in
    record {
      done = i.done ++ e ∷ [];
      all = one_over i.done (ends_left c.loop-end.ends.items c.loop-end.helped.items) left (c.args.ends.items ++ c.args.helped.items) e i.all next;
      of_pool = All-tail of_end e left of_pool;
      more = λ passes ends is. put.gathered passes (ends ++ i.done) (i.more passes ends is) ∙ ap (λ (l : List EndSeen). gathered_from whole passes l 0 qs) (append_assoc ends i.done (e ∷ []));
      together = record { passes = i.together.passes; ends = i.together.ends ++ e ∷ []; is = put.gathered i.together.passes i.together.ends i.together.is };
      begun = put.begun ∙ i.begun;
      records = made ∙ (ap (λ (l : List Record). l ++ e.records) i.records ∙ sym one);
      ran = All-push RanWhatItTook i.done e i.ran put.ran;
      popped = All-push (λ (x : EndSeen). length x.popped ≡ length qs) i.done e i.popped put.popped;
      found = All-push (FoundAs c.args.begun.found) i.done e i.found (subst (λ f. FoundAs f e) found put.found);
      room = omega (arith, i.room, ap length next, ap length c.append.ensures, length-append c.loop-end.records c.put_end-more.result, put.short);
    }

pub loop-end-init : goal.loop-end-init
loop-end-init g c =
    let whole = c.args.passes in
    let qs : List (SegId Global) = c.args.queues.now.items in
    let of_end = IsOf whole qs c.args.mark.now.mark in
    let first : reverse c.reverse.new.self.items ≡ c.args.ends.items = ap reverse c.reverse.ensures.items ∙ reverse-reverse c.args.ends.items in
    let second : reverse c.reverse-2.new.self.items ≡ c.args.helped.items = ap reverse c.reverse-2.ensures.items ∙ reverse-reverse c.args.helped.items in
    let back : ends_left c.reverse.new.self.items c.reverse-2.new.self.items ≡ c.args.ends.items ++ c.args.helped.items = (λ k. first k ++ second k) in
    record {
      done = [];
      all = back;
      of_pool = subst (All of_end) (sym back) c.requires.of;
      more = λ passes ends is. is ∙ ap (λ (l : List EndSeen). gathered_from whole passes l 0 qs) (sym (append-nil ends));
      together = c.requires.together;
      begun = refl;
      records = c.new-records.ensures;
      ran = All-nil RanWhatItTook;
      popped = All-nil (λ (x : EndSeen). length x.popped ≡ length qs);
      found = All-nil (FoundAs c.args.begun.found);
      room = omega (arith, ap length back, c.requires.few, ap length c.new-records.ensures);
    }
