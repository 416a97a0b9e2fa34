use Rattle.std.proofs.Common.{ap, sym, subst, ◌∙◌, ltb, take}
use Rattle.std.proofs.lemmas.Result.{IfOk-weaker}
use Rattle.query_model.specs.Sorting.{IsInOrder}
use Rattle.shard_index.specs.Places.{holds_in}
use Rattle.shard_index.proofs.HitLemmas.{in-order}
use Rattle.shard_index.proofs.IndexLemmas.{few-front, hits-are-of, ids-front}
use Rattle.shard_index.proofs.Sorted.{in_order-take}
use Rattle.shard_index.proofs.index.Index.find.Goals as goal

pub hits-requires-clause-selected : goal.hits-requires-clause-selected
hits-requires-clause-selected c =
    let docs = c.requires.docs.0 in
    let stands = c.requires.docs.1 in
    let cut = ap (λ xs. take c.args.front xs) c.deref.ensures.value in
    record {
      docs = take c.args.front docs;
      test = holds_in c.args.e.now;
      few = few-front c.args.self.now docs c.args.front (take c.args.front c.deref.result.now) stands c.requires.front cut;
      ids_are = ids-front c.args.self.now docs c.args.front (take c.args.front c.deref.result.now) stands cut;
      selects = c.in_ok-selection.ensures docs stands;
    }

pub hits-requires-clause-ascends : goal.hits-requires-clause-ascends
hits-requires-clause-ascends c = λ on.
    subst (IsInOrder ltb) (sym (ap (λ xs. take c.args.front xs) c.deref.ensures.value)) (in_order-take ltb c.args.front c.args.self.now.ids.items (in-order c.args.self.now.ids.items (c.requires.docs.1.ascends on)))

pub returns : goal.returns
returns c = λ docs stands.
    IfOk-weaker c.hits.result _ _ (λ hits is. is ∙ hits-are-of c.args.e.now (take c.args.front docs))
    (c.hits.ensures (holds_in c.args.e.now) (take c.args.front docs)
    (ids-front c.args.self.now docs c.args.front (take c.args.front c.deref.result.now) stands (ap (λ xs. take c.args.front xs) c.deref.ensures.value))
    (c.in_ok-selection.ensures docs stands))
