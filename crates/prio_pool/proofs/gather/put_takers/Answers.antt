use Rattle.std.proofs.Common.{◌≡◌, ℕ, suc, ◌<◌, List, [], ◌∷◌, ◌++◌, length, length-append, map, set, get_or, Some, ap, sym, subst, ◌∙◌, append_assoc, append-nil, arith}
use Rattle.std.specs.Prelude.{slice_get}
use Rattle.std.specs.declared.alloc.Global.{Global}
use Rattle.std.proofs.lemmas.List.{length-map}
use Rattle.crossbeam_queue.specs.SegTies.{SegId}
use Rattle.task_queue.specs.Seen.{TakerSeen, GatheredSeen, and_taker}
use Rattle.prio_pool.specs.Gathering.{behind_with}
use Rattle.prio_pool.proofs.Gathered.{one_more, still_there, none_yet, middle, has_gathered, same_queue}
use Rattle.std.proofs.lemmas.Option.{slice_get-get_or}
use Rattle.prio_pool.proofs.gather.put_takers.Goals as goal

pub loop-taker-init : goal.loop-taker-init
loop-taker-init g c =
    let xs = c.args.takers.items in
    let gs = c.args.gathered.now.items in
    record {
      done = [];
      all = append-nil xs;
      gathered = sym (none_yet and_taker (length xs) gs (omega (arith, ap length c.requires.queues, ap length c.requires.gathered, length-map xs (λ (x : TakerSeen). x.queue), length-map gs (λ (x : GatheredSeen). x.queue))));
    }

pub put_taker_at-requires : goal.put_taker_at-requires
put_taker_at-requires g c =
    let i = c.loop-taker.invariant in
    let qs : List (SegId Global) = c.args.queues.now.items in
    let q : SegId Global = c.index.result.now in
    let n = c.len-number.result in
    let x : TakerSeen = c.in-Some.taker in
    let more = c.pop.new.self.items in
    let old = c.args.gathered.now.items in
    let count : length c.loop-taker.takers.items ≡ suc n = omega (arith, ap length c.in-Some.ensures.items, length-append more (x ∷ []), c.len-number.ensures) in
    let within : n < length qs = omega (arith, count, ap length i.all, length-append c.loop-taker.takers.items i.done, ap length c.requires.queues, length-map c.args.takers.items (λ (y : TakerSeen). y.queue)) in
    let at : slice_get qs n ≡ Some q = slice_get-get_or qs n q within ∙ ap (λ (y : SegId Global). Some y) (sym c.index.ensures) in
    let h = has_gathered old n q (subst (λ (l : List (SegId Global)). slice_get l n ≡ Some q) (sym c.requires.gathered) at) in
    let now : c.loop-taker.gathered.items ≡ behind_with and_taker (suc n) old i.done = i.gathered ∙ ap (λ (k : ℕ). behind_with and_taker k old i.done) count in
    let left : n ≡ length more = omega (arith, c.len-number.ensures) in
    let whole : more ++ x ∷ i.done ≡ c.args.takers.items = sym (append_assoc more (x ∷ []) i.done) ∙ (ap (λ (l : List TakerSeen). l ++ i.done) (sym c.in-Some.ensures.items) ∙ i.all) in
    let seen : map (λ (y : TakerSeen). y.queue) (more ++ x ∷ i.done) ≡ qs = ap (map (λ (y : TakerSeen). y.queue)) whole ∙ c.requires.queues in
    let here : slice_get qs (length more) ≡ Some x.queue = subst (λ (l : List (SegId Global)). slice_get l (length more) ≡ Some x.queue) seen (middle (λ (y : TakerSeen). y.queue) more x i.done) in
    record {
      at = record {
        one = h.one;
        at = ap (λ (l : List GatheredSeen). slice_get l n) now ∙ (still_there and_taker n old i.done ∙ h.at);
        of_queue = h.of_queue;
      };
      queue = same_queue qs (length more) x.queue q here (subst (λ (k : ℕ). q ≡ get_or qs k q) left c.index.ensures);
    }

pub loop-taker-preserved : goal.loop-taker-preserved
loop-taker-preserved g c =
    let i = c.loop-taker.invariant in
    let n = c.len-number.result in
    let x : TakerSeen = c.in-Some.taker in
    let more = c.pop.new.self.items in
    let old = c.args.gathered.now.items in
    let put = c.put_taker_at.ensures in
    let count : length c.loop-taker.takers.items ≡ suc n = omega (arith, ap length c.in-Some.ensures.items, length-append more (x ∷ []), c.len-number.ensures) in
    let now : c.loop-taker.gathered.items ≡ behind_with and_taker (suc n) old i.done = i.gathered ∙ ap (λ (k : ℕ). behind_with and_taker k old i.done) count in
    let left : n ≡ length more = omega (arith, c.len-number.ensures) in
    let there : slice_get old n ≡ Some put.one = sym (ap (λ (l : List GatheredSeen). slice_get l n) now ∙ still_there and_taker n old i.done) ∙ put.at in
    record {
      done = x ∷ i.done;
      all = sym (append_assoc more (x ∷ []) i.done) ∙ (ap (λ (l : List TakerSeen). l ++ i.done) (sym c.in-Some.ensures.items) ∙ i.all);
      gathered = put.new_is
          ∙ (ap (λ (l : List GatheredSeen). set l n (and_taker put.one x)) now
          ∙ (one_more and_taker n old i.done put.one x there ∙ ap (λ (k : ℕ). behind_with and_taker k old (x ∷ i.done)) left));
    }
