use Rattle.std.proofs.Common.{drop}
use Rattle.fan_model.specs.Comings.{comings_of}
use Rattle.run_desks.specs.Counted.{HasMade}
use Rattle.run_desks.specs.Keys.{AreKeysOf, HasKeysFor}
use Rattle.run_gathering.specs.Dealt.{AreDealt}
use Rattle.run_desks.specs.Tables.{AreTablesOf}
use Rattle.run_desks.proofs.run.await_all.Given as goal

abbrev pub invariant-loop-place : goal.invariant-loop-place
invariant-loop-place g l = record {
  of : AreKeysOf g.N.RunName.asked l.keys;
  tables : AreTablesOf g.N.RunName.asked l.tables.items;
  dealt : AreDealt g.N.RunName.asked l.place l.tables.items;
  counted : HasMade g.N.RunName.asked 0 l.place l.initial.keys.tally l.keys.tally;
  keys : HasKeysFor (drop l.place (comings_of g.N.RunName.asked.lines)) l.keys;
}
