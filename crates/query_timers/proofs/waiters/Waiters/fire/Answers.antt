use Rattle.std.proofs.Common.{◌≡◌, ℕ, true, false, Option, Some, None, [], ◌∷◌, sym, ap, ◌∙◌, eqb, map, filter}
use Rattle.std.specs.Option.{option_eq}
use Rattle.std.proofs.lemmas.Bool.{eqb-true, eq-eqb}
use Rattle.query_timers.specs.declared.query.DelayedQuery.{DelayedQuery}
use Rattle.query_timers.specs.Seen.{WaitersSeen, has_number}
use Rattle.query_timers.proofs.Numbers.{nothing_fires, seen_fires}
use Rattle.query_timers.proofs.waiters.Waiters.fire.Goals as goal

is_there : (o : Option ℕ) (t : ℕ) → option_eq eqb o (Some t) ≡ true → o ≡ Some t
is_there None t h = absurd cc
is_there (Some d) t h = ap Some (eqb-true d t h)

is_not_there : (o : Option ℕ) (t : ℕ) → option_eq eqb o (Some t) ≡ false → o ≡ Some t → ⊥
is_not_there None t h e = absurd cc
is_not_there (Some d) t h e =
    let same : d ≡ t = cc in
    let both : true ≡ false = sym (eq-eqb d t same) ∙ h in
    absurd cc

pub returns-in-Some : goal.returns-in-Some
returns-in-Some c =
    seen_fires c.args.number c.args.tick c.self.inside.by_number.items c.take_from.new.by_number.items c.due_in.result (c.in-Some.waiter ∷ []) c.self.inside.fired.items
    c.push_back_reserved.new.self.items c.args.self.now c.self.view_is c.due_in.ensures (is_there c.due_in.result c.args.tick (sym c.eq.ensures ∙ c.if-eq.true))
    c.in-Some.ensures.those c.in-Some.ensures.rest c.in-Some.ensures.length c.push_back_reserved.ensures.items

pub returns-else-eq : goal.returns-else-eq
returns-else-eq c =
    let w = c.args.self.now in
    nothing_fires c.args.number c.args.tick w c.due_in.result
    (c.due_in.ensures ∙ ap (λ (v : WaitersSeen). map (λ (q : DelayedQuery). q.due) (filter (has_number c.args.number) v.waiting)) c.self.view_is)
    (is_not_there c.due_in.result c.args.tick (sym c.eq.ensures ∙ c.if-eq.false))
