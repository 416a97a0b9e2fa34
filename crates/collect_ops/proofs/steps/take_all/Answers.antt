use Rattle.std.proofs.Common.{◌∙◌, ◌+◌, reverse, sym, ap}
use Rattle.std.proofs.lemmas.List.{length-reverse, reverse-reverse}
use Rattle.collect_ops.specs.Steps.{Standing, empty_slots}
use Rattle.collect_ops.proofs.Lists.{same_end, same_room, has_first, emptied_first}
use Rattle.collect_ops.proofs.steps.take_all.Goals as goal

pub take_ending-end-requires : goal.take_ending-end-requires
take_ending-end-requires g c =
    let r = c.requires.emptying in
    (r.4.of_table, (_, has_first _ _ _ _ r.4.stands))

pub take_list-outcomes-requires-clause-table : goal.take_list-outcomes-requires-clause-table
take_list-outcomes-requires-clause-table g c = c.turn.ensures.0 ∙ c.take_ending-end.ensures.sits.of_table

pub take_list-outcomes-requires-clause-slots : goal.take_list-outcomes-requires-clause-slots
take_list-outcomes-requires-clause-slots g c =
    let r = c.requires.emptying in
    let now = emptied_first _ _ _ _ _ _ _ _ r.4.stands c.take_ending-end.ensures.sits.stands c.turn.ensures.2 in
    (reverse r.1, length-reverse r.1 ∙ r.3, ap (λ (m : Standing g.row.X.Denot g.row.E.Denot). m.1) now)

pub take_list-outcomes-requires-clause-room : goal.take_list-outcomes-requires-clause-room
take_list-outcomes-requires-clause-room g c =
    let r = c.requires.emptying in
    let room = same_room _ _ _ (same_end _ _ _ _ _ _ _ r.4.stands c.take_ending-end.ensures.had) r.2 in
    (room.empty, room.wide)

pub return_all-requires-clause-emptying : goal.return_all-requires-clause-emptying
return_all-requires-clause-emptying g c =
    let r = c.requires.emptying in
    let now = emptied_first _ _ _ _ _ _ _ _ r.4.stands c.take_ending-end.ensures.sits.stands c.turn.ensures.2 in (
      r.0,
      r.1,
      record {
        of_table = c.take_list-outcomes.ensures.sits.of_table;
        stands = c.take_list-outcomes.ensures.sits.stands ∙ ap (λ (m : Standing g.row.X.Denot g.row.E.Denot). (m.0, empty_slots 0 (c.args.size + 1))) now;
      },
    )

pub returns-clause-list : goal.returns-clause-list
returns-clause-list g c r xs long is =
    let now = emptied_first _ _ _ _ _ _ _ _ is c.take_ending-end.ensures.sits.stands c.turn.ensures.2 in
    let items = c.take_list-outcomes.ensures.list (reverse xs) (length-reverse xs ∙ long) (ap (λ (m : Standing g.row.X.Denot g.row.E.Denot). m.1) now) in
    (c.of_reversed.ensures ∙ (ap reverse items ∙ reverse-reverse xs), ap (λ e. e.end) (sym (same_end _ _ _ _ _ _ _ is c.take_ending-end.ensures.had)))

pub returns-clause-sits : goal.returns-clause-sits
returns-clause-sits g c r xs is =
    let now = emptied_first _ _ _ _ _ _ _ _ is c.take_ending-end.ensures.sits.stands c.turn.ensures.2 in
    c.return_all.ensures _ _ (c.take_list-outcomes.ensures.sits.stands ∙ ap (λ (m : Standing g.row.X.Denot g.row.E.Denot). (m.0, empty_slots 0 (c.args.size + 1))) now)
