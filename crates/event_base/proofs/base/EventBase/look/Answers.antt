use Rattle.std.proofs.Common.{refl, sym}
use Rattle.event_base.proofs.Looked.{looked_on}
use Rattle.event_base.proofs.base.EventBase.look.Goals as goal

pub returns-clause-looks : goal.returns-clause-looks
returns-clause-looks g c =
    rw (sym c.self.view_is) (record {
      agenda = refl;
      number = refl;
      same = c.ended.ensures.same;
      more = c.ended.ensures.more;
      looks = looked_on c.ended.result _ _ c.ended.ensures.yes c.ended.ensures.no;
    })
