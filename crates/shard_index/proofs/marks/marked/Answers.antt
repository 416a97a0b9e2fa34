use Rattle.std.proofs.Common.{◌<◌, ◌++◌, ◌∷◌, [], Bool, List, length, get_or, false, true, ap, sym, ◌∙◌, arith}
use Rattle.std.proofs.lemmas.List.{length-map}
use Rattle.shard_index.proofs.MarkLemmas.{places-more}
use Rattle.shard_index.proofs.marks.marked.Goals as goal
use Rattle.shard_index.proofs.marks.marked.Goals.{then-marks-i+in_ok-push, else-marks-i}

pub loop-i-preserved : goal.loop-i-preserved
loop-i-preserved c = λ test docs are.
    let marks : List Bool = c.args.marks.now in
    let i = c.loop-i.i in
    let within : i < length docs = omega (arith, c.loop-i-test.true, ap length are, length-map docs test) in
    elim c.if-marks-i.branch [
      | then-marks-i+in_ok-push w ↦ ap (λ v. v.items) w.places-is ∙ (w.in_ok-push.ensures.items ∙ (ap (λ ps. ps ++ i ∷ []) (c.loop-i.invariant test docs are)
          ∙ sym (places-more test docs i true false within (sym w.if-marks-i.true ∙ ap (λ ms. get_or ms i false) are))))
      | else-marks-i w ↦ ap (λ v. v.items) w.places-is ∙ (c.loop-i.invariant test docs are
          ∙ sym (places-more test docs i false false within (sym w.if-marks-i.false ∙ ap (λ ms. get_or ms i false) are)))
    ]
