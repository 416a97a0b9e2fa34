use Rattle.std.proofs.Common.{◌*◌, ◌^◌, sym, ap, subst, ◌∙◌, arith}
use Rattle.id_table.specs.Cells.{pairs_of}
use Rattle.id_table.specs.Probed.{IsProbed}
use Rattle.id_table.proofs.Counts.{pairs-replicate}
use Rattle.id_table.proofs.Rooms.{fresh_probed}
use Rattle.id_table.proofs.refill.grow.Goals as goal

pub pour-requires-clause-probed : goal.pour-requires-clause-probed
pour-requires-clause-probed g c =
    let e = c.deref_mut.ensures.value ∙ ap (λ v. v.items) c.replace-old.ensures.after ∙ c.in_ok-new.ensures in
    subst (IsProbed c.args.bits) (sym e) (fresh_probed c.args.bits c.requires.some (omega (arith, c.requires.within)))

pub pour-requires-clause-none : goal.pour-requires-clause-none
pour-requires-clause-none g c =
    let e = c.deref_mut.ensures.value ∙ ap (λ v. v.items) c.replace-old.ensures.after ∙ c.in_ok-new.ensures in
    ap pairs_of e ∙ pairs-replicate (3 * 2 ^ c.args.bits)
