use Rattle.std.proofs.Common.{◌≡◌, ◌≤◌, ℕ, length, sym, subst, ◌∙◌}
use Rattle.std.proofs.lemmas.List.{length-map}
use Rattle.pool_model.specs.Passes.{HasNoGap, adds_of}
use Rattle.pool_model.specs.Seen.{PassSeen}
use Rattle.task_queue.specs.Seen.{AdderSeen}
use Rattle.prio_pool.proofs.Adding.{adds_count}
use Rattle.prio_pool.proofs.adders.Adders.told.Goals as goal

pub returns-clause-gap : goal.returns-clause-gap
returns-clause-gap g c = subst HasNoGap c.self.view_is record { all = c.self.invariant.adds.all }

pub returns-clause-as_many : goal.returns-clause-as_many
returns-clause-as_many g c =
    let items = c.self.inside.adders.items in
    subst (λ (p : PassSeen). length p.pushed ≡ length p.pool.queues) c.self.view_is (length-map items (λ (a : AdderSeen). a.pushed) ∙ sym (length-map items (λ (a : AdderSeen). a.queue)))

pub returns-clause-few : goal.returns-clause-few
returns-clause-few g c = subst (λ (p : PassSeen). length (adds_of p) ≤ 4294967295) c.self.view_is (subst (λ (n : ℕ). n ≤ 4294967295) (adds_count _ _ c.self.invariant.adds) c.self.invariant.few)
