use Rattle.std.proofs.Common.{◌+◌, [], ◌∷◌, length, length-append, refl, sym, ap, subst, arith, Some}
use Rattle.std.proofs.lemmas.List.Elements.{All-pop}
use Rattle.run_tasks.specs.Seen.{WorldSeen}
use Rattle.run_setup.specs.Rooms.{HasWorldRoom}
use Rattle.run_setup.specs.Slots.{IsCellPass, IsNewWorld}
use Rattle.run_setup.proofs.RowLemmas.{row-many, row-posters}
use Rattle.run_setup.proofs.dealing.Dealing.next_world.Goals as goal

pub new-requires-clause-posters : goal.new-requires-clause-posters
new-requires-clause-posters g c =
    let r = c.requires.left in
    let ids = r.0 in
    let is = c.deal_row.ensures.row ids.queues (ids.workers + 1) r.1 (ids.workers + 1) r.2.columns in
    row-posters g.N.RunName.asked r.1 ids.queues c.deal_row.new.row.items is r.2.bases ids.printer

pub new-requires-clause-room : goal.new-requires-clause-room
new-requires-clause-room g c =
    let r = c.requires.left in
    let ids = r.0 in
    let is = c.deal_row.ensures.row ids.queues (ids.workers + 1) r.1 (ids.workers + 1) r.2.columns in
    let room = (All-pop (HasWorldRoom g.N.RunName.asked.bases) c.args.self.now.rooms.items c.pop.new.self.items (Some c.in-Some.room) c.in-Some.ensures.items r.2.each_room).1 in
    omega (arith, row-many r.1 ids.queues c.deal_row.new.row.items is, r.2.bases, room.for_ends)

pub returns-clause-world : goal.returns-clause-world
returns-clause-world g c = λ ids left is. subst (λ (w : WorldSeen g.row.N.Denot). IsNewWorld ids left w) (sym c.new.ensures) record {
  posters = c.deal_row.ensures.row ids.queues (ids.workers + 1) left (ids.workers + 1) is.columns;
  cells = is.cells;
  pass = (All-pop (IsCellPass ids) c.args.self.now.passes.items c.pop-2.new.self.items (Some c.in-Some-pop.pass) c.in-Some-pop.ensures.items is.each_pass).1;
  tally = refl;
  refused = refl;
}

pub returns-clause-rest : goal.returns-clause-rest
returns-clause-rest g c = λ ids left is. record {
  bases = is.bases;
  cells = is.cells;
  columns = c.deal_row.ensures.columns ids.queues (ids.workers + 1) left (ids.workers + 1) is.columns;
  passes = omega (arith, is.passes, ap length c.in-Some-pop.ensures.items, length-append c.pop-2.new.self.items (c.in-Some-pop.pass ∷ []));
  each_pass = (All-pop (IsCellPass ids) c.args.self.now.passes.items c.pop-2.new.self.items (Some c.in-Some-pop.pass) c.in-Some-pop.ensures.items is.each_pass).0;
  for_passes = omega (arith, is.for_passes, c.pop-2.ensures.capacity);
  rooms = omega (arith, is.rooms, ap length c.in-Some.ensures.items, length-append c.pop.new.self.items (c.in-Some.room ∷ []));
  each_room = (All-pop (HasWorldRoom g.N.RunName.asked.bases) c.args.self.now.rooms.items c.pop.new.self.items (Some c.in-Some.room) c.in-Some.ensures.items is.each_room).0;
}
