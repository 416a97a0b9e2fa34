use Rattle.std.proofs.Common.{◌≡◌, ◌+◌, Some, List, [], ◌∷◌, ◌++◌, length, length-append, ap, sym, subst, ◌∙◌, append_assoc, arith}
use Rattle.std.specs.List.{All}
use Rattle.std.proofs.lemmas.List.{nil_from_length}
use Rattle.std.proofs.lemmas.List.Elements.{All-pop}
use Rattle.pool_model.specs.Seen.{PassSeen}
use Rattle.pool_model.proofs.Lists.{All-front}
use Rattle.task_queue.specs.Marks.{OpenSeen}
use Rattle.prio_pool.specs.Passes.{first_pass}
use Rattle.prio_pool.proofs.begin.gather_parts.Goals as goal

-- the one adder of a pass
one_is : (o : OpenSeen) (adders : List PassSeen) (p pass : PassSeen) → adders ≡ p ∷ [] → first_pass o adders ≡ pass → adders ≡ pass ∷ []
one_is o adders p pass one is = one ∙ ap (λ (q : PassSeen). q ∷ []) (sym (ap (first_pass o) one) ∙ is)

-- its part of the mark is of its pool's
its_mark : (o : OpenSeen) (adders : List PassSeen) (p pass : PassSeen) → adders ≡ p ∷ [] → o.mark ≡ p.pool.mark → first_pass o adders ≡ pass → o.mark ≡ pass.pool.mark
its_mark o adders p pass one mark is = mark ∙ ap (λ (q : PassSeen). q.pool.mark) (sym (ap (first_pass o) one) ∙ is)

pub unreachable-requires : goal.unreachable-requires
unreachable-requires g c = omega (arith, c.requires.some, c.in_default.ensures.cases)

pub loop-pass-init : goal.loop-pass-init
loop-pass-init g c =
    let p = c.in-Some.last in
    let l = c.last.invariant in
    let more = c.pop.new.self.items in
    let own : c.last.inside.adders ≡ p ∷ [] = one_is c.last.inside.seat c.last.inside.adders l.pass p l.one c.last.view_is in
    let both = All-pop (λ (q : PassSeen). q.pool.mark ≡ c.args.mark.now.mark) c.args.passes.items more (Some p) c.in-Some.ensures.items c.requires.mark in
    let mark = its_mark c.last.inside.seat c.last.inside.adders l.pass p l.one l.mark c.last.view_is ∙ both.1 in
    let count : c.last.inside.seat.parts ≡ length c.last.inside.adders = omega (arith, l.part, ap length own) in
    record {
      all = ap (λ (x : List PassSeen). more ++ x) own ∙ sym c.in-Some.ensures.items;
      parts = λ k. record { mark = mark k; parts = count k };
      mark = both.0;
    }

pub put_parts-requires : goal.put_parts-requires
put_parts-requires g c =
    let i = c.loop-pass.invariant in
    let p = c.in-Some-pop.pass in
    let l = c.pass.invariant in
    let both = All-pop (λ (q : PassSeen). q.pool.mark ≡ c.args.mark.now.mark) c.loop-pass.passes.items c.pop-in-loop-pass.new.self.items (Some p) c.in-Some-pop.ensures.items i.mark in
    record { mark = (ap (λ (o : OpenSeen). o.mark) i.parts, its_mark c.pass.inside.seat c.pass.inside.adders l.pass p l.one l.mark c.pass.view_is ∙ both.1) }

pub loop-pass-smaller : goal.loop-pass-smaller
loop-pass-smaller g c = let p : PassSeen = c.in-Some-pop.pass in omega (arith, ap length c.in-Some-pop.ensures.items, length-append c.pop-in-loop-pass.new.self.items (p ∷ []))

pub destroy_empty-requires : goal.destroy_empty-requires
destroy_empty-requires g c = omega (arith, c.in_default-pop.ensures.cases)

pub returns-clause-list : goal.returns-clause-list
returns-clause-list g c =
    let none : c.loop-pass.passes.items ≡ [] = nil_from_length c.loop-pass.passes.items (omega (arith, c.in_default-pop.ensures.cases)) in
    sym (ap (λ (l : List PassSeen). l ++ c.loop-pass.list) none) ∙ c.loop-pass.invariant.all

pub returns-clause-parts : goal.returns-clause-parts
returns-clause-parts g c =
    let i = c.loop-pass.invariant in
    let none : length c.loop-pass.passes.items ≡ 0 = omega (arith, c.in_default-pop.ensures.cases) in
    let count : length c.loop-pass.list ≡ length c.args.passes.items = omega (arith, ap length i.all, length-append c.loop-pass.passes.items c.loop-pass.list, none) in
    i.parts ∙ (λ k. record { mark = c.args.mark.now.mark; parts = count k })

pub put_behind-requires : goal.put_behind-requires
put_behind-requires g c =
    let i = c.loop-pass.invariant in
    let own = one_is c.pass.inside.seat c.pass.inside.adders c.pass.invariant.pass c.in-Some-pop.pass c.pass.invariant.one c.pass.view_is in
    omega (arith, ap length own, ap length i.all, length-append c.loop-pass.passes.items c.loop-pass.list, c.requires.few)

pub loop-pass-preserved : goal.loop-pass-preserved
loop-pass-preserved g c =
    let i = c.loop-pass.invariant in
    let p = c.in-Some-pop.pass in
    let own : c.pass.inside.adders ≡ p ∷ [] = one_is c.pass.inside.seat c.pass.inside.adders c.pass.invariant.pass p c.pass.invariant.one c.pass.view_is in
    let more = c.pop-in-loop-pass.new.self.items in
    let popped : c.loop-pass.passes.items ≡ more ++ p ∷ [] = c.in-Some-pop.ensures.items in
    let list : c.put_behind.new.list ≡ p ∷ c.loop-pass.list = c.put_behind.ensures ∙ ap (λ (l : List PassSeen). l ++ c.loop-pass.list) own in
    let both = subst (All (λ (q : PassSeen). q.pool.mark ≡ c.args.mark.now.mark)) popped i.mark in
    let count : c.loop-pass.parts.parts + c.pass.inside.seat.parts ≡ length c.put_behind.new.list = omega (arith, ap (λ (o : OpenSeen). o.parts) i.parts, c.pass.invariant.part, ap length list) in
    record {
      all = ap (λ (l : List PassSeen). more ++ l) list ∙ (sym (append_assoc more (p ∷ []) c.loop-pass.list) ∙ (ap (λ (l : List PassSeen). l ++ c.loop-pass.list) (sym popped) ∙ i.all));
      parts = c.put_parts.ensures ∙ (λ k. record { mark = ap (λ (o : OpenSeen). o.mark) i.parts k; parts = count k });
      mark = All-front (λ (q : PassSeen). q.pool.mark ≡ c.args.mark.now.mark) more (p ∷ []) both;
    }
