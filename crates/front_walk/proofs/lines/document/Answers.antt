use Rattle.std.proofs.Common.{refl, arith}
use Rattle.front_walk.proofs.LineByLine.{few_docs, follows_doc}
use Rattle.front_walk.proofs.lines.document.Goals as goal

pub overflow_add-state : goal.overflow_add-state
overflow_add-state c =
    let few = few_docs c.args.lines.now c.args.i c.requires.line.0 c.requires.input c.requires.line.1 in
    omega (arith, c.requires.follows.documents, few)

pub returns-clause-follows : goal.returns-clause-follows
returns-clause-follows c =
    λ doc at. follows_doc c.known_laws.ensures.laws c.args.lines.now c.args.i doc c.args.state.now _ c.requires.input at c.requires.follows refl refl refl
