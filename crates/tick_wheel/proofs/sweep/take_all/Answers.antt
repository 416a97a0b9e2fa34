use Rattle.std.proofs.Common.{sym, ◌∙◌}
use Rattle.std.proofs.lemmas.List.{nil_from_length}
use Rattle.tick_wheel.proofs.Swept.{listed_all, swept, all_swept, behind_none}
use Rattle.tick_wheel.proofs.sweep.take_all.Goals as goal

pub loop-place-init : goal.loop-place-init
loop-place-init g c = record {
  apart = c.requires.apart;
  listed = listed_all c.args.ids.now c.args.book.now c.requires.apart c.requires.same c.requires.rises;
  moved = behind_none _ _ (nil_from_length _ (sym c.args.given.now.ok.0 ∙ c.requires.empty));
  len = c.requires.empty;
  spare = c.requires.spare;
}

pub returns-clause-gone : goal.returns-clause-gone
returns-clause-gone g c = swept c.args.ids.now _ c.loop-place.book c.loop-place.invariant.listed c.loop-place-test.false

pub returns-clause-given : goal.returns-clause-given
returns-clause-given g c =
    all_swept _ c.args.book.now c.loop-place.book _ c.loop-place.invariant.moved
    (swept c.args.ids.now _ c.loop-place.book c.loop-place.invariant.listed c.loop-place-test.false)
