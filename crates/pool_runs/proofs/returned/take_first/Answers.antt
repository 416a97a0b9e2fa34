use Rattle.std.proofs.Common.{List, set, Some, refl, ap, sym, ◌∙◌}
use Rattle.std.proofs.lemmas.Option.{slice_get-get_or}
use Rattle.pool_runs.proofs.Lists.{set_same}
use Rattle.pool_runs.proofs.returned.take_first.Goals as goal

pub returns-in_default : goal.returns-in_default
returns-in_default g c =
    let old = c.args.rests.now.items in
    let k = c.args.number in
    let r = c.index_mut.result.now in
    let at = slice_get-get_or old k r c.requires ∙ ap (λ (x : List _). Some x) (sym c.index_mut.ensures.value) in
    let e = c.in_default.ensures in
    (at ∙ ap (λ (x : List _). Some x) e.0, ap (set old k) (e.1 ∙ sym e.0) ∙ set_same old k r at)

pub returns : goal.returns
returns g c =
    let old = c.args.rests.now.items in
    let k = c.args.number in
    let r = c.index_mut.result.now in
    let at = slice_get-get_or old k r c.requires ∙ ap (λ (x : List _). Some x) (sym c.index_mut.ensures.value) in
    let more = c.pop_front.new.self in
    (more, at ∙ ap (λ (x : List _). Some x) c.in-Some.ensures, refl)
