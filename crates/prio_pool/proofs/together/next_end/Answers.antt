use Rattle.std.proofs.Common.{◌≡◌, List, [], ◌∷◌, ◌++◌, length, reverse, ap, sym, ◌∙◌, arith}
use Rattle.std.proofs.lemmas.List.{reverse-append}
use Rattle.pool_model.specs.Seen.{EndSeen}
use Rattle.prio_pool.specs.Gathering.{ends_left}
use Rattle.prio_pool.proofs.together.next_end.Goals as goal

-- where no end of a worker is left, the next one is a helper's
of_helper : (ends none helped more : List EndSeen) (e f : EndSeen) → length ends ≡ 0 → length none ≡ 0 → helped ≡ more ++ e ∷ [] → f ≡ e → ends_left ends helped ≡ f ∷ ends_left none more
of_helper [] [] helped more e f old new items same = ap reverse items ∙ (reverse-append more (e ∷ []) ∙ ap (λ (x : EndSeen). x ∷ reverse more) (sym same))
of_helper [] (x ∷ xs) helped more e f old new items same = absurd (omega (arith, new))
of_helper (x ∷ xs) none helped more e f old new items same = absurd (omega (arith, old))

pub returns : goal.returns
returns g c =
    let e : EndSeen = c.in_ok-takers.field-0 in
    let both = c.in_default.ensures.cases in
    let old : length c.args.ends.now.items ≡ 0 = omega (arith, both.0) in
    let none : length c.pop.new.self.items ≡ 0 = omega (arith, both.1) in
    record { some = of_helper c.args.ends.now.items c.pop.new.self.items c.args.helped.now.items c.pop-2.new.self.items e _ old none c.in_ok-takers.ensures.items c.takers.view_is; none = tt }
