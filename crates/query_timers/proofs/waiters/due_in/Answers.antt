use Rattle.std.proofs.Common.{◌≡◌, ◌-◌, None, Some, Option, map, refl, sym, ap, ◌∙◌, arith}
use Rattle.std.specs.Option.{option_map, option_to_list}
use Rattle.query_timers.specs.declared.query.DelayedQuery.{DelayedQuery}
use Rattle.query_timers.proofs.Numbers.{at_place, no_number}
use Rattle.query_timers.proofs.waiters.due_in.Goals as goal

due_list : (o : Option DelayedQuery) → option_to_list (option_map (λ (q : DelayedQuery). q.due) o) ≡ map (λ (q : DelayedQuery). q.due) (option_to_list o)
due_list None = refl
due_list (Some q) = refl

pub returns-then-number-eq0 : goal.returns-then-number-eq0
returns-then-number-eq0 c = ap (map (λ (q : DelayedQuery). q.due)) (sym (no_number c.args.number 1 c.args.by_number.now.items c.requires (omega arith)))

pub returns : goal.returns
returns c =
    ap option_to_list c.due_at.ensures
    ∙ (due_list _ ∙ ap (map (λ (q : DelayedQuery). q.due)) (at_place 1 c.args.number (c.args.number - 1) c.args.by_number.now.items c.requires (omega arith)))
