use Rattle.std.proofs.Common.{length, take, ap, sym, ◌∙◌}
use Rattle.query_grammar.specs.Nodes.{tree_at}
use Rattle.shard_index.specs.Places.{holds_in, places_where}
use Rattle.shard_index.specs.Totals.{marked_at}
use Rattle.shard_index.proofs.IndexLemmas.{many-front}
use Rattle.shard_index.proofs.MarkLemmas.{length-marked, marked-word}
use Rattle.shard_index.proofs.TotalLemmas.{places-within}
use Rattle.shard_index.proofs.index.Index.+mark_words.Goals as goal

pub mark_at-requires : goal.mark_at-requires
mark_at-requires t c =
    let docs = c.requires.docs.0 in
    let stands = c.requires.docs.1 in
    let first = take c.args.front docs in
    places-within (holds_in c.args.e.now) first c.places_with.result.now (length c.args.marks.now.items)
    (c.places_with.ensures docs stands ∙ ap (λ tree. places_where (holds_in tree) first) (ap tree_at (sym c.in-Word.is) ∙ c.node.ensures))
    (c.requires.many ∙ sym (many-front c.args.self.now docs c.args.front stands c.requires.front))

pub returns-in-Word-clause-many : goal.returns-in-Word-clause-many
returns-in-Word-clause-many t c = ap length c.mark_at.ensures.marks ∙ (length-marked c.args.marks.now.items c.places_with.result.now ∙ c.requires.many)

pub returns-in-Word-clause-marks : goal.returns-in-Word-clause-marks
returns-in-Word-clause-marks t c = λ docs mark stands are same.
    let first = take c.args.front docs in
    let at = c.places_with.ensures docs stands ∙ ap (λ tree. places_where (holds_in tree) first) (ap tree_at (sym c.in-Word.is) ∙ c.node.ensures) in
    c.mark_at.ensures.marks ∙ ((λ k. marked_at (are k) (at k)) ∙ marked-word (holds_in c.args.e.now) mark first)
