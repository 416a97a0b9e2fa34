use Rattle.std.proofs.Common.{◌≡◌, refl, sym, ◌∙◌, subst, rules}
use Rattle.std.proofs.lemmas.Option.{same_Some}
use Rattle.run_phases.specs.declared.first.FrontMid.{FrontMid}
use Rattle.fanout.specs.declared.front.SideRoom.{SideRoom}
use Rattle.fanout.specs.First.{IsFirstEnd}
use Rattle.fanout.specs.Fronts.{IsSideStart}
use Rattle.fanout.proofs.front.FrontRunPoolFrontPoolShardTaskTaskSlot.end.Goals as goal

pub returns : goal.returns
returns g c = record {
  end = c.end_side-end.result;
  has = search rules;
  start = refl;
  spent_mid = search rules;
  spent_room = search rules;
  is = λ ids start slots room mid s has_room has did worked.
      let asked = g.N.RunName.asked in
      let same_room : room ≡ c.in-Some-take.room = same_Some room _ (sym has_room ∙ search rules) in
      let same_mid : mid ≡ c.in-Some.mid = same_Some mid _ (sym has ∙ search rules) in
      c.end_side-end.ensures ids start slots (subst (λ (r : SideRoom g.row.N.Denot). IsSideStart asked ids start c.args.pool slots r) same_room s)
      (subst (λ (m : FrontMid g.row.N.Denot). IsFirstEnd asked c.args.self.now.stop c.args.pool start m) same_mid did) worked;
}
