use Rattle.std.proofs.Common.{◌≡◌, List, [], ◌∷◌, ◌++◌, sym, subst, ap, ◌∙◌}
use Rattle.std.proofs.lemmas.List.Elements.{All-head}
use Rattle.pool_model.specs.Passes.{adds_of}
use Rattle.pool_model.specs.Seen.{PassSeen}
use Rattle.prio_pool.specs.Made.{new_pass}
use Rattle.runtime_examples.proofs.Passes.{first_pass, two_ran}
use Rattle.runtime_examples.proofs.pooled.run_two.Goals as goal

pub add_two-added-requires-clause-pass : goal.add_two-added-requires-clause-pass
add_two-added-requires-clause-pass g c =
    let pool = c.in_ok-pool.field-0.pool.id in
    let first = first_pass pool _ _ c.in-Some-pop.pass c.in_ok-pool.ensures.passes_are c.in-Some-pop.ensures.items in
    let P : PassSeen → Type 0 = λ p. (p.pool ≡ pool) × (adds_of p ≡ []) in
    subst P (sym first.1) (All-head P (new_pass pool 0) [] (c.new_passes_are_unused.ensures.passes pool 0 1))

pub returns-then-added-clause-once : goal.returns-then-added-clause-once
returns-then-added-clause-once g c =
    let pool = c.in_ok-pool.field-0.pool.id in
    let first = first_pass pool _ _ c.in-Some-pop.pass c.in_ok-pool.ensures.passes_are c.in-Some-pop.ensures.items in
    let pass = c.add_two-added.new.pass in
    let passes : c.begin_join-joining.result.passes ≡ pass ∷ [] =
    c.begin_join-joining.ensures.begun.passes_are ∙ (c.push_reserved.ensures.items ∙ ap (λ (l : List PassSeen). l ++ pass ∷ []) first.0) in
    let of : pass.pool ≡ pool = c.add_two-added.ensures.same.0 ∙ ap (λ (p : PassSeen). p.pool) first.1 in
    let zero_is : pass.number ≡ 0 = c.add_two-added.ensures.same.1 ∙ ap (λ (p : PassSeen). p.number) first.1 in
    (two_ran pool c.begin_join-joining.result.passes pass c.join-end.result.ran.records passes of zero_is c.if-added.ensures.added (c.join_accounts_for_each.ensures pool 1 _ _) c.join-end.ensures.all).0

pub returns-then-added-clause-all : goal.returns-then-added-clause-all
returns-then-added-clause-all g c =
    let pool = c.in_ok-pool.field-0.pool.id in
    let first = first_pass pool _ _ c.in-Some-pop.pass c.in_ok-pool.ensures.passes_are c.in-Some-pop.ensures.items in
    let pass = c.add_two-added.new.pass in
    let passes : c.begin_join-joining.result.passes ≡ pass ∷ [] =
    c.begin_join-joining.ensures.begun.passes_are ∙ (c.push_reserved.ensures.items ∙ ap (λ (l : List PassSeen). l ++ pass ∷ []) first.0) in
    let of : pass.pool ≡ pool = c.add_two-added.ensures.same.0 ∙ ap (λ (p : PassSeen). p.pool) first.1 in
    let zero_is : pass.number ≡ 0 = c.add_two-added.ensures.same.1 ∙ ap (λ (p : PassSeen). p.number) first.1 in
    ((two_ran pool c.begin_join-joining.result.passes pass c.join-end.result.ran.records passes of zero_is c.if-added.ensures.added (c.join_accounts_for_each.ensures pool 1 _ _) c.join-end.ensures.all).1, c.join-end.ensures.joined.1)
