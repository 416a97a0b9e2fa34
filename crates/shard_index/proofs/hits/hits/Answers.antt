use Rattle.std.proofs.Common.{length, ap, subst, sym, ◌∙◌}
use Rattle.std.proofs.lemmas.List.{length-map}
use Rattle.shard_index.specs.declared.selection.Selection.{Selection}
use Rattle.shard_index.specs.Selections.{Selects}
use Rattle.shard_index.proofs.HitLemmas.{hits-ok, order-at}
use Rattle.shard_index.proofs.TotalLemmas.{places-within}
use Rattle.shard_index.proofs.hits.hits.Goals as goal

pub hits_at-requires-clause-places : goal.hits_at-requires-clause-places
hits_at-requires-clause-places c =
    places-within c.requires.selected.test c.requires.selected.docs c.as_slice.result.now (length c.args.ids.now)
    (c.as_slice.ensures ∙ subst (λ (s : Selection). Selects s c.requires.selected.test c.requires.selected.docs) c.in-Those.is c.requires.selected.selects)
    (ap length c.requires.selected.ids_are ∙ length-map c.requires.selected.docs (λ d. d.id))

pub hits_at-requires-in-AllBut-clause-places : goal.hits_at-requires-in-AllBut-clause-places
hits_at-requires-in-AllBut-clause-places c =
    let many = ap length c.requires.selected.ids_are ∙ length-map c.requires.selected.docs (λ d. d.id) in
    places-within c.requires.selected.test c.requires.selected.docs c.as_slice-in-AllBut-2.result.now (length c.args.ids.now)
    (c.as_slice-in-AllBut-2.ensures.value ∙ c.in_ok-kept-in-AllBut.ensures c.requires.selected.test c.requires.selected.docs (sym many)
    (c.as_slice-in-AllBut.ensures ∙ subst (λ (s : Selection). Selects s c.requires.selected.test c.requires.selected.docs) c.in-AllBut.is c.requires.selected.selects)) many

pub hits_at-requires-clause-ascends : goal.hits_at-requires-clause-ascends
hits_at-requires-clause-ascends c = λ on.
    order-at c.requires.selected.test c.requires.selected.docs c.args.ids.now c.as_slice.result.now c.requires.selected.ids_are
    (c.as_slice.ensures ∙ subst (λ (s : Selection). Selects s c.requires.selected.test c.requires.selected.docs) c.in-Those.is c.requires.selected.selects)
    (c.requires.ascends on)

pub hits_at-requires-in-AllBut-clause-ascends : goal.hits_at-requires-in-AllBut-clause-ascends
hits_at-requires-in-AllBut-clause-ascends c = λ on.
    let many = ap length c.requires.selected.ids_are ∙ length-map c.requires.selected.docs (λ d. d.id) in
    order-at c.requires.selected.test c.requires.selected.docs c.args.ids.now c.as_slice-in-AllBut-2.result.now c.requires.selected.ids_are
    (c.as_slice-in-AllBut-2.ensures.value ∙ c.in_ok-kept-in-AllBut.ensures c.requires.selected.test c.requires.selected.docs (sym many)
    (c.as_slice-in-AllBut.ensures ∙ subst (λ (s : Selection). Selects s c.requires.selected.test c.requires.selected.docs) c.in-AllBut.is c.requires.selected.selects))
    (c.requires.ascends on)

pub returns-in-Those : goal.returns-in-Those
returns-in-Those c = λ test docs are selects.
    hits-ok test docs c.args.ids.now c.as_slice.result.now c.hits_at.result are (c.as_slice.ensures ∙ subst (λ (s : Selection). Selects s test docs) c.in-Those.is selects)
    c.hits_at.ensures.ids c.hits_at.ensures.total

pub returns-in_ok-kept-in-AllBut : goal.returns-in_ok-kept-in-AllBut
returns-in_ok-kept-in-AllBut c = λ test docs are selects.
    let many = ap length are ∙ length-map docs (λ d. d.id) in
    hits-ok test docs c.args.ids.now c.as_slice-in-AllBut-2.result.now c.hits_at-in-AllBut.result are
    (c.as_slice-in-AllBut-2.ensures.value
    ∙ c.in_ok-kept-in-AllBut.ensures test docs (sym many) (c.as_slice-in-AllBut.ensures ∙ subst (λ (s : Selection). Selects s test docs) c.in-AllBut.is selects))
    c.hits_at-in-AllBut.ensures.ids c.hits_at-in-AllBut.ensures.total
