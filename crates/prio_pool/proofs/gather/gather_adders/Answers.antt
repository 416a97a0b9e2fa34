use Rattle.std.proofs.Common.{◌≡◌, List, [], ◌∷◌, ◌++◌, length, length-append, map, reverse, get_or, ap, sym, subst, ◌∙◌, append-nil, arith}
use Rattle.std.specs.declared.alloc.Global.{Global}
use Rattle.std.proofs.lemmas.List.{nil_from_length, length-map, length-reverse, reverse-reverse}
use Rattle.crossbeam_queue.specs.SegTies.{SegId}
use Rattle.task_queue.specs.Seen.{AdderSeen, GatheredSeen}
use Rattle.prio_pool.specs.Gathering.{only_adder}
use Rattle.prio_pool.proofs.Gathered.{next_only, next_queue}
use Rattle.pool_model.proofs.Lists.{one_over}
use Rattle.prio_pool.proofs.gather.gather_adders.Goals as goal

pub loop-adder-init : goal.loop-adder-init
loop-adder-init g c =
    let xs = c.args.adders.items in
    let turned = c.reverse.ensures.items in
    record {
      all = (λ k. c.requires.room.0 k ++ map only_adder (reverse (turned k))) ∙ ap (map only_adder) (reverse-reverse xs);
      room = omega (arith, ap length c.requires.room.0, c.requires.room.1, ap length turned, length-reverse xs);
    }

pub index-requires : goal.index-requires
index-requires g c =
    let i = c.loop-adder.invariant in
    let a : AdderSeen = c.in-Some.adder in
    let xs = c.loop-adder.adders.items in
    let all = c.args.adders.items in
    omega (
      arith,
      c.len-number.ensures,
      ap length i.all,
      length-append c.loop-adder.gathered.items (map only_adder (reverse xs)),
      length-map (reverse xs) only_adder,
      length-reverse xs,
      length-map all only_adder,
      ap length c.requires.queues,
      length-map all (λ (x : AdderSeen). x.queue),
      ap length c.in-Some.ensures.items,
      length-append c.pop.new.self.items (a ∷ []),
    )

pub push_reserved-requires : goal.push_reserved-requires
push_reserved-requires g c = let a : AdderSeen = c.in-Some.adder in omega (arith, c.loop-adder.invariant.room, ap length c.in-Some.ensures.items, length-append c.pop.new.self.items (a ∷ []))

pub loop-adder-smaller : goal.loop-adder-smaller
loop-adder-smaller g c = let a : AdderSeen = c.in-Some.adder in omega (arith, ap length c.in-Some.ensures.items, length-append c.pop.new.self.items (a ∷ []))

pub returns : goal.returns
returns g c =
    let old = c.loop-adder.gathered.items in
    let none : c.loop-adder.adders.items ≡ [] = nil_from_length c.loop-adder.adders.items (omega (arith, c.in_default.ensures.cases)) in
    sym (append-nil old) ∙ (sym (ap (λ (l : List AdderSeen). old ++ map only_adder (reverse l)) none) ∙ c.loop-adder.invariant.all)

pub gather-requires : goal.gather-requires
gather-requires g c =
    let i = c.loop-adder.invariant in
    let qs : List (SegId Global) = c.args.queues.now.items in
    let q : SegId Global = c.index.result.now in
    let count : c.len-number.result ≡ length c.loop-adder.gathered.items = omega (arith, c.len-number.ensures) in
    let at = subst (λ n. q ≡ get_or qs n q) count c.index.ensures in
    record { queue = next_queue qs c.args.adders.items c.loop-adder.adders.items c.pop.new.self.items c.in-Some.adder c.loop-adder.gathered.items q c.requires.queues i.all c.in-Some.ensures.items at }

pub loop-adder-preserved : goal.loop-adder-preserved
loop-adder-preserved g c =
    let i = c.loop-adder.invariant in
    let a : AdderSeen = c.in-Some.adder in
    let more = c.pop.new.self.items in
    let old = c.loop-adder.gathered.items in
    let qs : List (SegId Global) = c.args.queues.now.items in
    let q : SegId Global = c.index.result.now in
    let count : c.len-number.result ≡ length c.loop-adder.gathered.items = omega (arith, c.len-number.ensures) in
    let at = subst (λ n. q ≡ get_or qs n q) count c.index.ensures in
    let same = next_queue qs c.args.adders.items c.loop-adder.adders.items more a old q c.requires.queues i.all c.in-Some.ensures.items at in
    let one : c.gather.result ≡ only_adder a = c.gather.ensures ∙ (λ k. record { queue = sym same k; passes = a.passes; here = 1; added = (only_adder a).added; taken = [] }) in
    let pushed : c.push_reserved.new.self.items ≡ old ++ only_adder a ∷ [] = c.push_reserved.ensures.items ∙ ap (λ (x : GatheredSeen). old ++ x ∷ []) one in
    record {
      all = ap (λ (l : List GatheredSeen). l ++ map only_adder (reverse more)) pushed
          ∙ one_over old (map only_adder (reverse c.loop-adder.adders.items)) (map only_adder (reverse more)) (map only_adder c.args.adders.items) (only_adder a) i.all (next_only c.loop-adder.adders.items more a c.in-Some.ensures.items);
      room = omega (arith, i.room, ap length c.in-Some.ensures.items, length-append more (a ∷ []), ap length pushed, length-append old (only_adder a ∷ []), c.push_reserved.ensures.capacity);
    }
