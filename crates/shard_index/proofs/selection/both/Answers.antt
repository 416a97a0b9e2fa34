use Rattle.std.proofs.Common.{not, subst, ◌∙◌}
use Rattle.shard_index.specs.declared.selection.Selection.{Selection}
use Rattle.shard_index.specs.Selections.{Selects}
use Rattle.shard_index.proofs.SelectionLemmas.{places_where-same, and_second, and_first, nor}
use Rattle.shard_index.proofs.selection.both.Goals as goal

pub returns-in_ok-kept-in-Those-AllBut : goal.returns-in_ok-kept-in-Those-AllBut
returns-in_ok-kept-in-Those-AllBut c = λ p q docs first second.
    c.in_ok-kept-in-Those-AllBut.ensures p (λ doc. not (q doc)) docs
    (c.as_slice-in-Those-AllBut.ensures ∙ subst (λ (s : Selection). Selects s p docs) c.in-Those-AllBut.is-0 first)
    (c.as_slice-in-Those-AllBut-2.ensures ∙ subst (λ (s : Selection). Selects s q docs) c.in-Those-AllBut.is-1 second)
    ∙ places_where-same _ _ docs (λ doc. and_second (p doc) (q doc))

pub returns-in_ok-kept-in-AllBut-Those : goal.returns-in_ok-kept-in-AllBut-Those
returns-in_ok-kept-in-AllBut-Those c = λ p q docs first second.
    c.in_ok-kept-in-AllBut-Those.ensures q (λ doc. not (p doc)) docs
    (c.as_slice-in-AllBut-Those.ensures ∙ subst (λ (s : Selection). Selects s q docs) c.in-AllBut-Those.is-1 second)
    (c.as_slice-in-AllBut-Those-2.ensures ∙ subst (λ (s : Selection). Selects s p docs) c.in-AllBut-Those.is-0 first)
    ∙ places_where-same _ _ docs (λ doc. and_first (p doc) (q doc))

pub returns-in_ok-left_out-in-AllBut-AllBut : goal.returns-in_ok-left_out-in-AllBut-AllBut
returns-in_ok-left_out-in-AllBut-AllBut c = λ p q docs first second.
    c.in_ok-left_out-in-AllBut-AllBut.ensures (λ doc. not (p doc)) (λ doc. not (q doc)) docs
    (c.as_slice-in-AllBut-AllBut.ensures ∙ subst (λ (s : Selection). Selects s p docs) c.in-AllBut-AllBut.is-0 first)
    (c.as_slice-in-AllBut-AllBut-2.ensures ∙ subst (λ (s : Selection). Selects s q docs) c.in-AllBut-AllBut.is-1 second)
    ∙ places_where-same _ _ docs (λ doc. nor (p doc) (q doc))
