use Rattle.std.proofs.Common.{◌≡◌, ℕ, suc, ◌<◌, List, [], ◌∷◌, ◌++◌, length, length-append, map, set, get_or, Some, ap, sym, subst, ◌∙◌, append_assoc, append-nil, arith}
use Rattle.std.specs.Prelude.{slice_get}
use Rattle.std.specs.declared.alloc.Global.{Global}
use Rattle.std.proofs.lemmas.List.{length-map}
use Rattle.crossbeam_queue.specs.SegTies.{SegId}
use Rattle.task_queue.specs.Seen.{AdderSeen, GatheredSeen, and_adder}
use Rattle.prio_pool.specs.Gathering.{behind_with}
use Rattle.prio_pool.proofs.Gathered.{one_more, still_there, none_yet, middle, has_gathered, same_queue}
use Rattle.std.proofs.lemmas.Option.{slice_get-get_or}
use Rattle.prio_pool.proofs.gather.put_adders.Goals as goal

pub loop-adder-init : goal.loop-adder-init
loop-adder-init g c =
    let xs = c.args.adders.items in
    let gs = c.args.gathered.now.items in
    record {
      done = [];
      all = append-nil xs;
      gathered = sym (none_yet and_adder (length xs) gs (omega (arith, ap length c.requires.queues, ap length c.requires.gathered, length-map xs (λ (x : AdderSeen). x.queue), length-map gs (λ (x : GatheredSeen). x.queue))));
    }

pub put_adder_at-requires : goal.put_adder_at-requires
put_adder_at-requires g c =
    let i = c.loop-adder.invariant in
    let qs : List (SegId Global) = c.args.queues.now.items in
    let q : SegId Global = c.index.result.now in
    let n = c.len-number.result in
    let x : AdderSeen = c.in-Some.adder in
    let more = c.pop.new.self.items in
    let old = c.args.gathered.now.items in
    let count : length c.loop-adder.adders.items ≡ suc n = omega (arith, ap length c.in-Some.ensures.items, length-append more (x ∷ []), c.len-number.ensures) in
    let within : n < length qs = omega (arith, count, ap length i.all, length-append c.loop-adder.adders.items i.done, ap length c.requires.queues, length-map c.args.adders.items (λ (y : AdderSeen). y.queue)) in
    let at : slice_get qs n ≡ Some q = slice_get-get_or qs n q within ∙ ap (λ (y : SegId Global). Some y) (sym c.index.ensures) in
    let h = has_gathered old n q (subst (λ (l : List (SegId Global)). slice_get l n ≡ Some q) (sym c.requires.gathered) at) in
    let now : c.loop-adder.gathered.items ≡ behind_with and_adder (suc n) old i.done = i.gathered ∙ ap (λ (k : ℕ). behind_with and_adder k old i.done) count in
    let left : n ≡ length more = omega (arith, c.len-number.ensures) in
    let whole : more ++ x ∷ i.done ≡ c.args.adders.items = sym (append_assoc more (x ∷ []) i.done) ∙ (ap (λ (l : List AdderSeen). l ++ i.done) (sym c.in-Some.ensures.items) ∙ i.all) in
    let seen : map (λ (y : AdderSeen). y.queue) (more ++ x ∷ i.done) ≡ qs = ap (map (λ (y : AdderSeen). y.queue)) whole ∙ c.requires.queues in
    let here : slice_get qs (length more) ≡ Some x.queue = subst (λ (l : List (SegId Global)). slice_get l (length more) ≡ Some x.queue) seen (middle (λ (y : AdderSeen). y.queue) more x i.done) in
    record {
      at = record {
        one = h.one;
        at = ap (λ (l : List GatheredSeen). slice_get l n) now ∙ (still_there and_adder n old i.done ∙ h.at);
        of_queue = h.of_queue;
      };
      queue = same_queue qs (length more) x.queue q here (subst (λ (k : ℕ). q ≡ get_or qs k q) left c.index.ensures);
    }

pub loop-adder-preserved : goal.loop-adder-preserved
loop-adder-preserved g c =
    let i = c.loop-adder.invariant in
    let n = c.len-number.result in
    let x : AdderSeen = c.in-Some.adder in
    let more = c.pop.new.self.items in
    let old = c.args.gathered.now.items in
    let put = c.put_adder_at.ensures in
    let count : length c.loop-adder.adders.items ≡ suc n = omega (arith, ap length c.in-Some.ensures.items, length-append more (x ∷ []), c.len-number.ensures) in
    let now : c.loop-adder.gathered.items ≡ behind_with and_adder (suc n) old i.done = i.gathered ∙ ap (λ (k : ℕ). behind_with and_adder k old i.done) count in
    let left : n ≡ length more = omega (arith, c.len-number.ensures) in
    let there : slice_get old n ≡ Some put.one = sym (ap (λ (l : List GatheredSeen). slice_get l n) now ∙ still_there and_adder n old i.done) ∙ put.at in
    record {
      done = x ∷ i.done;
      all = sym (append_assoc more (x ∷ []) i.done) ∙ (ap (λ (l : List AdderSeen). l ++ i.done) (sym c.in-Some.ensures.items) ∙ i.all);
      gathered = put.new_is
          ∙ (ap (λ (l : List GatheredSeen). set l n (and_adder put.one x)) now
          ∙ (one_more and_adder n old i.done put.one x there ∙ ap (λ (k : ℕ). behind_with and_adder k old (x ∷ i.done)) left));
    }
