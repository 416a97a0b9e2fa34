use Rattle.std.proofs.Common.{◌≡◌, List, [], ◌∷◌, ◌++◌, length, length-append, map, ap, subst, ◌∙◌, arith}
use Rattle.std.specs.List.{All}
use Rattle.std.proofs.lemmas.List.Elements.{All-tail}
use Rattle.pool_model.specs.Seen.{EndSeen}
use Rattle.prio_pool.specs.Made.{helper_seen}
use Rattle.prio_pool.specs.Passes.{TookNothing}
use Rattle.prio_pool.specs.Takers.{TakersSeen}
use Rattle.pool_model.proofs.Lists.{one_over}
use Rattle.prio_pool.proofs.listed.helper_passes.Goals as goal

pub loop-takers-preserved : goal.loop-takers-preserved
loop-takers-preserved g c =
    let i = c.loop-takers.invariant in
    let t : TakersSeen = c.in-Some.takers in
    let more = c.pop_front.new.self in
    let items : c.loop-takers.takers ≡ t ∷ more = c.in-Some.ensures.items in
    let pushed : c.push_reserved.new.self.items ≡ c.loop-takers.list.items ++ helper_seen t ∷ [] = c.push_reserved.ensures.items ∙ (λ k. c.loop-takers.list.items ++ record { pool = t.pool; number = t.number; records = c.new-records.ensures k; popped = t.popped; looks = t.looks; found = t.found } ∷ []) in
    record {
      all = ap (λ (l : List EndSeen). l ++ map helper_seen more) pushed ∙ one_over c.loop-takers.list.items (map helper_seen c.loop-takers.takers) (map helper_seen more) (map helper_seen c.args.takers) (helper_seen t) i.all (ap (map helper_seen) items);
      each = All-tail TookNothing t more (subst (All TookNothing) items i.each);
      room = omega (arith, i.room, ap length items, ap length pushed, length-append c.loop-takers.list.items (helper_seen t ∷ []), c.push_reserved.ensures.capacity);
    }
