use Rattle.std.proofs.Common.{◌≡◌, ℕ, ◌+◌, ◌-◌, ◌<◌, [], ◌∙◌, set, ap, sym, subst}
use Rattle.std.specs.declared.alloc.Global.{Global}
use Rattle.crossbeam_queue.specs.SegTies.{SegId}
use Rattle.task_queue.specs.Seen.{MakerSeen, AdderSeen}
use Rattle.prio_pool.specs.declared.make.Counts.{Counts}
use Rattle.prio_pool.specs.Made.{maker, new_adder, one_adder}
use Rattle.prio_pool.proofs.Making.{maker_at}
use Rattle.prio_pool.proofs.make.next_adder_at.Goals as goal

-- the maker and the pass afterwards, where the maker before is this one
more : (c : Counts) (q : SegId Global) (m new : MakerSeen) → m ≡ maker c q → new ≡ record m { left = m.left - 1; adders = m.adders + 1 } → new ≡ maker (one_adder c) q
more c q m new is made = made ∙ ap (λ (x : MakerSeen). record x { left = x.left - 1; adders = x.adders + 1 }) is

pass : (c : Counts) (q : SegId Global) (m : MakerSeen) (a : AdderSeen) → m ≡ maker c q → a ≡ record { queue = q; passes = m.passes; number = m.adders; pushed = [] } → a ≡ new_adder c q
pass c q m a is made = made ∙ (λ i. record { queue = q; passes = (is i).passes; number = (is i).adders; pushed = [] })

pub next_adder-requires : goal.next_adder-requires
next_adder-requires g c =
    let is = maker_at c.args.counts c.args.queue.now c.args.makers.now.items c.args.number c.index_mut.result.now c.requires.maker c.index_mut.ensures.value in
    let left : 0 < c.index_mut.result.now.left = subst (λ (n : ℕ). 0 < n) (sym (ap (λ (m : MakerSeen). m.left) is)) c.requires.some in
    let few : c.index_mut.result.now.adders < 64 = subst (λ (n : ℕ). n < 64) (sym (ap (λ (m : MakerSeen). m.adders) is)) c.requires.few in
    record { queue = ap (λ (m : MakerSeen). m.queue) is; left = left; few = few }

pub returns-clause-makers : goal.returns-clause-makers
returns-clause-makers g c =
    let is = maker_at c.args.counts c.args.queue.now c.args.makers.now.items c.args.number c.index_mut.result.now c.requires.maker c.index_mut.ensures.value in
    ap (set c.args.makers.now.items c.args.number) (more c.args.counts c.args.queue.now c.index_mut.result.now c.next_adder.new.maker is c.next_adder.ensures.maker)

pub returns-clause-adder : goal.returns-clause-adder
returns-clause-adder g c =
    let is = maker_at c.args.counts c.args.queue.now c.args.makers.now.items c.args.number c.index_mut.result.now c.requires.maker c.index_mut.ensures.value in
    pass c.args.counts c.args.queue.now c.index_mut.result.now c.next_adder.result is c.next_adder.ensures.adder
