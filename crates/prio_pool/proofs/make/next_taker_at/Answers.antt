use Rattle.std.proofs.Common.{◌≡◌, ℕ, ◌+◌, ◌-◌, ◌<◌, [], ◌∙◌, set, ap, sym, subst}
use Rattle.std.specs.declared.alloc.Global.{Global}
use Rattle.crossbeam_queue.specs.SegTies.{SegId}
use Rattle.task_queue.specs.Seen.{MakerSeen, TakerSeen}
use Rattle.prio_pool.specs.declared.make.Counts.{Counts}
use Rattle.prio_pool.specs.Made.{maker, new_taker, one_taker}
use Rattle.prio_pool.proofs.Making.{maker_at}
use Rattle.prio_pool.proofs.make.next_taker_at.Goals as goal

-- the maker and the pass afterwards, where the maker before is this one
more : (c : Counts) (q : SegId Global) (m new : MakerSeen) → m ≡ maker c q → new ≡ record m { left = m.left - 1; takers = m.takers + 1 } → new ≡ maker (one_taker c) q
more c q m new is made = made ∙ ap (λ (x : MakerSeen). record x { left = x.left - 1; takers = x.takers + 1 }) is

pass : (c : Counts) (q : SegId Global) (m : MakerSeen) (t : TakerSeen) → m ≡ maker c q → t ≡ record { queue = q; passes = m.passes; number = m.takers; popped = [] } → t ≡ new_taker c q
pass c q m t is made = made ∙ (λ i. record { queue = q; passes = (is i).passes; number = (is i).takers; popped = [] })

pub next_taker-requires : goal.next_taker-requires
next_taker-requires g c =
    let is = maker_at c.args.counts c.args.queue.now c.args.makers.now.items c.args.number c.index_mut.result.now c.requires.maker c.index_mut.ensures.value in
    record { queue = ap (λ (m : MakerSeen). m.queue) is; left = subst (λ (n : ℕ). 0 < n) (sym (ap (λ (m : MakerSeen). m.left) is)) c.requires.some }

pub returns-clause-makers : goal.returns-clause-makers
returns-clause-makers g c =
    let is = maker_at c.args.counts c.args.queue.now c.args.makers.now.items c.args.number c.index_mut.result.now c.requires.maker c.index_mut.ensures.value in
    ap (set c.args.makers.now.items c.args.number) (more c.args.counts c.args.queue.now c.index_mut.result.now c.next_taker.new.maker is c.next_taker.ensures.maker)

pub returns-clause-taker : goal.returns-clause-taker
returns-clause-taker g c =
    let is = maker_at c.args.counts c.args.queue.now c.args.makers.now.items c.args.number c.index_mut.result.now c.requires.maker c.index_mut.ensures.value in
    pass c.args.counts c.args.queue.now c.index_mut.result.now c.next_taker.result is c.next_taker.ensures.taker
