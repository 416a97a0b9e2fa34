use Rattle.std.proofs.Common.{◌≡◌, Bool, not, ◌&&◌, ap, sym, ◌∙◌, take}
use Rattle.std.proofs.lemmas.Result.{IfOk-weaker}
use Rattle.fan_base.specs.declared.doc.Doc.{Doc}
use Rattle.query_grammar.specs.Tree.{Tree}
use Rattle.query_grammar.specs.Nodes.{tree_at}
use Rattle.shard_index.specs.Places.{holds_in, places_where}
use Rattle.shard_index.proofs.SelectionLemmas.{Selects-same, or_by_and}
use Rattle.shard_index.proofs.index.Index.+select.Goals as goal

pub returns-in-Word : goal.returns-in-Word
returns-in-Word t c = λ docs stands.
    c.places_with.ensures docs stands
    ∙ ap (λ tree. places_where (holds_in tree) (take c.args.front docs)) (ap tree_at (sym c.in-Word.is) ∙ c.node.ensures)

pub returns-in-Some : goal.returns-in-Some
returns-in-Some t c = λ docs stands.
    let tree : Tree.both c.deref-in-Both.result.now c.deref-in-Both-2.result.now ≡ c.args.e.now =
    (λ i. Tree.both (c.deref-in-Both.ensures i) (c.deref-in-Both-2.ensures i)) ∙ (ap tree_at (sym c.in-Both.is) ∙ c.node.ensures) in
    IfOk-weaker c.select_two.result _ _
    (λ selection selects. Selects-same selection _ (holds_in c.args.e.now) (take c.args.front docs) (λ doc. c.in-Some.ensures doc ∙ ap (λ e. holds_in e doc) tree) selects)
    (c.select_two.ensures docs stands)

pub returns-in_ok-select-in-None-2 : goal.returns-in_ok-select-in-None-2
returns-in_ok-select-in-None-2 t c = λ docs stands.
    let p = holds_in c.deref-in-None.result.now in
    let q = holds_in c.deref-in-None-2.result.now in
    let tree : Tree.both c.deref-in-None.result.now c.deref-in-None-2.result.now ≡ c.args.e.now =
    (λ i. Tree.both (c.deref-in-None.ensures i) (c.deref-in-None-2.ensures i)) ∙ (ap tree_at (sym c.in-Both.is) ∙ c.node.ensures) in
    IfOk-weaker c.both.result _ _
    (λ selection selects. Selects-same selection (λ doc. p doc && q doc) (holds_in c.args.e.now) (take c.args.front docs) (λ doc. ap (λ e. holds_in e doc) tree) selects)
    (c.both.ensures p q (take c.args.front docs) (c.in_ok-select-in-None.ensures docs stands) (c.in_ok-select-in-None-2.ensures docs stands))

pub returns-in_ok-both-in-Either : goal.returns-in_ok-both-in-Either
returns-in_ok-both-in-Either t c = λ docs stands.
    let first = take c.args.front docs in
    let p = holds_in c.deref-in-Either.result.now in
    let q = holds_in c.deref-in-Either-2.result.now in
    let neither : Doc → Bool = λ doc. not (p doc) && not (q doc) in
    let tree : Tree.either c.deref-in-Either.result.now c.deref-in-Either-2.result.now ≡ c.args.e.now =
    (λ i. Tree.either (c.deref-in-Either.ensures i) (c.deref-in-Either-2.ensures i)) ∙ (ap tree_at (sym c.in-Either.is) ∙ c.node.ensures) in
    let selects = c.in_ok-both-in-Either.ensures (λ doc. not (p doc)) (λ doc. not (q doc)) first
    (c.complement-a.ensures p first (c.in_ok-select-in-Either.ensures docs stands)) (c.complement-b.ensures q first (c.in_ok-select-in-Either-2.ensures docs stands)) in
    Selects-same c.complement-in-Either.result (λ doc. not (neither doc)) (holds_in c.args.e.now) first
    (λ doc. or_by_and (p doc) (q doc) ∙ ap (λ e. holds_in e doc) tree) (c.complement-in-Either.ensures neither first selects)
