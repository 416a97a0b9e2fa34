use Rattle.std.proofs.Common.{◌≡◌, ◌-◌, List, [], ◌∷◌, ◌++◌, length, length-append, ap, sym, subst, ◌∙◌, arith}
use Rattle.std.specs.List.{All}
use Rattle.std.proofs.lemmas.List.{map-append}
use Rattle.std.proofs.lemmas.List.Elements.{All-head, All-tail}
use Rattle.pool_model.specs.Seen.{PassSeen}
use Rattle.task_queue.specs.Marks.{OpenSeen}
use Rattle.prio_pool.specs.Made.{in_places, IsPlace}
use Rattle.prio_pool.specs.Passes.{first_pass}
use Rattle.pool_model.proofs.Lists.{one_over}
use Rattle.prio_pool.proofs.listed.adder_passes.Goals as goal

pub loop-adders-preserved : goal.loop-adders-preserved
loop-adders-preserved g c =
    let i = c.loop-adders.invariant in
    let mark = c.args.mark.now.mark in
    let adders : List PassSeen = c.in-Some.adders in
    let more : List (List PassSeen) = c.pop_front.new.self in
    let old = c.loop-adders.list.items in
    let seat : OpenSeen = c.one_part-seat.result in
    let items : c.loop-adders.places ≡ adders ∷ more = c.in-Some.ensures.items in
    let each = subst (All (IsPlace mark)) items i.each in
    let place = All-head (IsPlace mark) adders more each in
    let v : PassSeen = first_pass seat adders in
    let is : v ≡ place.pass = ap (first_pass seat) place.one in
    let pushed : c.push_reserved.new.self.items ≡ old ++ v ∷ [] = c.push_reserved.ensures.items in
    let list : in_places c.push_reserved.new.self.items ≡ in_places old ++ adders ∷ [] =
    ap in_places pushed ∙ (map-append (λ (p : PassSeen). p ∷ []) old (v ∷ []) ∙ ap (λ (l : List PassSeen). in_places old ++ l ∷ []) (ap (λ (p : PassSeen). p ∷ []) is ∙ sym place.one)) in
    let fewer : c.loop-adders.seat.parts - 1 ≡ length more = omega (arith, ap (λ (o : OpenSeen). o.parts) i.parts, ap length items) in
    record {
      all = ap (λ (l : List (List PassSeen)). l ++ more) list ∙ one_over (in_places old) c.loop-adders.places more c.args.places adders i.all items;
      parts = c.one_part-seat.ensures.rest ∙ (λ k. record { mark = ap (λ (o : OpenSeen). o.mark) i.parts k; parts = fewer k });
      each = All-tail (IsPlace mark) adders more each;
      room = omega (arith, i.room, ap length items, ap length pushed, length-append old (v ∷ []), c.push_reserved.ensures.capacity);
    }
