use Rattle.std.proofs.Common.{◌≡◌, ℕ, suc, ◌+◌, ◌<◌, ◌≤◌, List, [], ◌∷◌, ◌++◌, length, map, take, set, Some, ap, sym, subst, ◌∙◌, arith}
use Rattle.std.specs.Prelude.{slice_get}
use Rattle.std.specs.declared.alloc.Global.{Global}
use Rattle.std.proofs.lemmas.List.{map-append, length-map, length-take-le, take_all}
use Rattle.crossbeam_queue.specs.SegTies.{SegId}
use Rattle.task_queue.specs.Seen.{MakerSeen}
use Rattle.prio_pool.specs.Made.{maker, one_adder, new_adder, mixed}
use Rattle.std.proofs.lemmas.Option.{slice_get-get_or}
use Rattle.prio_pool.proofs.Mixing.{mixed_at, mixed_set, mixed_all, take_one}
use Rattle.prio_pool.proofs.make.next_adders.Goals as goal

pub next_adder_at-requires : goal.next_adder_at-requires
next_adder_at-requires g c =
    let qs : List (SegId Global) = c.args.queues.now.items in
    let k = c.loop-number.number in
    let q : SegId Global = c.index.result.now in
    let within : k < length qs = omega (arith, c.loop-number-test.true, c.len-number-end.ensures) in
    let at : slice_get qs k ≡ Some q = slice_get-get_or qs k q within ∙ ap (λ (x : SegId Global). Some x) (sym c.index.ensures) in
    record {
      maker = subst (λ (l : List MakerSeen). slice_get l k ≡ Some (maker c.args.counts q)) (sym c.loop-number.invariant.makers) (mixed_at (maker (one_adder c.args.counts)) (maker c.args.counts) qs k q at);
      some = c.requires.some;
      few = c.requires.few;
    }

pub loop-number-preserved : goal.loop-number-preserved
loop-number-preserved g c =
    let qs : List (SegId Global) = c.args.queues.now.items in
    let k = c.loop-number.number in
    let q : SegId Global = c.index.result.now in
    let i = c.loop-number.invariant in
    let f = maker (one_adder c.args.counts) in
    let h = maker c.args.counts in
    let within : k < length qs = omega (arith, c.loop-number-test.true, c.len-number-end.ensures) in
    let at : slice_get qs k ≡ Some q = slice_get-get_or qs k q within ∙ ap (λ (x : SegId Global). Some x) (sym c.index.ensures) in
    let next : suc k ≡ k + 1 = omega arith in
    record {
      makers = c.next_adder_at.ensures.makers ∙ (ap (λ (l : List MakerSeen). set l k (f q)) i.makers ∙ (mixed_set f h qs k q at ∙ ap (λ (n : ℕ). mixed f h n qs) next));
      list = c.push_reserved.ensures.items
          ∙ ((λ j. i.list j ++ c.next_adder_at.ensures.adder j ∷ [])
          ∙ (sym (map-append (new_adder c.args.counts) (take k qs) (q ∷ [])) ∙ (ap (map (new_adder c.args.counts)) (sym (take_one qs k q at)) ∙ ap (λ (n : ℕ). map (new_adder c.args.counts) (take n qs)) next)));
      room = omega (arith, i.room, c.push_reserved.ensures.capacity);
    }

pub returns-clause-makers : goal.returns-clause-makers
returns-clause-makers g c =
    let qs : List (SegId Global) = c.args.queues.now.items in
    let all : length qs ≤ c.loop-number.number = omega (arith, c.loop-number-test.false, c.len-number-end.ensures) in
    c.loop-number.invariant.makers ∙ mixed_all (maker (one_adder c.args.counts)) (maker c.args.counts) qs c.loop-number.number all

pub loop-number-init : goal.loop-number-init
loop-number-init g c = record {
  makers = c.requires.makers;
  list = c.in_ok-list.ensures.items;
  room = omega (arith, c.in_ok-list.ensures.capacity, c.len.ensures);
}

pub index-requires : goal.index-requires
index-requires g c = omega (arith, c.loop-number-test.true, c.len-number-end.ensures)

pub push_reserved-requires : goal.push_reserved-requires
push_reserved-requires g c =
    let qs : List (SegId Global) = c.args.queues.now.items in
    let k = c.loop-number.number in
    let i = c.loop-number.invariant in
    let within : k < length qs = omega (arith, c.loop-number-test.true, c.len-number-end.ensures) in
    let before : k ≤ length qs = omega (arith, within) in
    omega (arith, within, i.room, ap length i.list, length-map (take k qs) (new_adder c.args.counts), length-take-le k qs before)

pub returns-clause-adders : goal.returns-clause-adders
returns-clause-adders g c =
    let qs : List (SegId Global) = c.args.queues.now.items in
    let all : length qs ≤ c.loop-number.number = omega (arith, c.loop-number-test.false, c.len-number-end.ensures) in
    c.loop-number.invariant.list ∙ ap (map (new_adder c.args.counts)) (take_all c.loop-number.number qs all)
