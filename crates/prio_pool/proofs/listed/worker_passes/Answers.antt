use Rattle.std.proofs.Common.{◌≡◌, ◌^◌, List, [], ◌∷◌, ◌++◌, length, length-append, map, ap, subst, sym, ◌∙◌, arith}
use Rattle.std.specs.List.{All}
use Rattle.std.proofs.lemmas.List.Elements.{All-tail}
use Rattle.pool_model.specs.Seen.{WorkerSeen}
use Rattle.prio_pool.specs.Made.{worker_seen}
use Rattle.prio_pool.specs.Passes.{TookNothing}
use Rattle.prio_pool.specs.Sleeping.{parkers_of, bits_of}
use Rattle.prio_pool.specs.Takers.{TakersSeen}
use Rattle.pool_model.proofs.Lists.{one_over}
use Rattle.prio_pool.proofs.Sleeping.{same_others}
use Rattle.prio_pool.proofs.listed.worker_passes.Goals as goal

pub loop-takers-preserved : goal.loop-takers-preserved
loop-takers-preserved g c =
    let i = c.loop-takers.invariant in
    let t : TakersSeen = c.in-Some.takers in
    let more = c.pop_front.new.self in
    let items : c.loop-takers.takers ≡ t ∷ more = c.in-Some.ensures.items in
    let pushed : c.push_reserved.new.self.items ≡ c.loop-takers.list.items ++ worker_seen t ∷ [] = c.push_reserved.ensures.items in
    let left : c.loop-takers.parkers ≡ c.in-Some-pop_front.parker ∷ c.pop_front-in-Some.new.self = c.in-Some-pop_front.ensures.items in
    let bits = ap parkers_of (sym left) ∙ (i.parkers ∙ ap bits_of items) in
    record {
      all = ap (λ (l : List WorkerSeen). l ++ map worker_seen more) pushed ∙ one_over c.loop-takers.list.items (map worker_seen c.loop-takers.takers) (map worker_seen more) (map worker_seen c.args.takers) (worker_seen t) i.all (ap (map worker_seen) items);
      each = All-tail TookNothing t more (subst (All TookNothing) items i.each);
      parkers = same_others c.in-Some-pop_front.parker.bit (2 ^ t.number) (parkers_of c.pop_front-in-Some.new.self) (bits_of more) bits;
      room = omega (arith, i.room, ap length items, ap length pushed, length-append c.loop-takers.list.items (worker_seen t ∷ []), c.push_reserved.ensures.capacity);
    }
