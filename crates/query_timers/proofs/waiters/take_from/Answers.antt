use Rattle.std.proofs.Common.{◌-◌, length, sym, ap, ◌∙◌, subst, arith, List, Option, length-set}
use Rattle.std.specs.Option.{option_to_list}
use Rattle.query_timers.specs.declared.query.DelayedQuery.{DelayedQuery}
use Rattle.query_timers.specs.Numbered.{AreNumbered, waiting_in}
use Rattle.query_timers.specs.Seen.{has_number}
use Rattle.query_timers.proofs.Lists.{filter-lengths}
use Rattle.query_timers.proofs.Numbers.{all_other, at_place, no_number, numbered_at, rest_at}
use Rattle.query_timers.proofs.waiters.take_from.Goals as goal

pub returns-then-number-eq0-clause-those : goal.returns-then-number-eq0-clause-those
returns-then-number-eq0-clause-those c = sym (no_number c.args.number 1 c.args.by_number.now.items c.requires (omega arith))

pub returns-then-number-eq0-clause-rest : goal.returns-then-number-eq0-clause-rest
returns-then-number-eq0-clause-rest c = sym (all_other c.args.number 1 c.args.by_number.now.items c.requires (omega arith))

pub returns-clause-those : goal.returns-clause-those
returns-clause-those c =
    ap option_to_list c.take_at.ensures.those ∙ at_place 1 c.args.number (c.args.number - 1) c.args.by_number.now.items c.requires (omega arith)

pub returns-clause-rest : goal.returns-clause-rest
returns-clause-rest c =
    ap waiting_in c.take_at.ensures.rest ∙ rest_at 1 c.args.number (c.args.number - 1) c.args.by_number.now.items c.requires (omega arith)

pub returns-clause-numbered : goal.returns-clause-numbered
returns-clause-numbered c =
    subst (λ (l : List (Option DelayedQuery)). AreNumbered 1 l) (sym c.take_at.ensures.rest) (numbered_at 1 (c.args.number - 1) c.args.by_number.now.items c.requires)

pub returns-clause-length : goal.returns-clause-length
returns-clause-length c = ap length c.take_at.ensures.rest ∙ length-set _ _ _

pub returns-clause-count : goal.returns-clause-count
returns-clause-count c =
    let number = c.args.number in
    let slots = c.args.by_number.now.items in
    let those = returns-clause-those c in
    let rest = returns-clause-rest c in
    omega (arith, ap length those, ap length rest, filter-lengths (has_number number) (waiting_in slots))
