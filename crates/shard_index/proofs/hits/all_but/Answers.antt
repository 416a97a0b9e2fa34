use Rattle.std.proofs.Common.{not, true, ◌∙◌}
use Rattle.std.proofs.lemmas.Result.{IfOk-weaker}
use Rattle.shard_index.proofs.SelectionLemmas.{not-not, places_where-same}
use Rattle.shard_index.proofs.hits.all_but.Goals as goal

pub returns : goal.returns
returns c = λ test docs many out.
    IfOk-weaker c.without.result _ _ (λ listed is. is ∙ places_where-same _ _ docs (λ doc. not-not (test doc)))
    (c.without.ensures (λ _. true) (λ doc. not (test doc)) docs (c.as_slice.ensures.value ∙ c.in_ok-places_below.ensures docs many) out)
