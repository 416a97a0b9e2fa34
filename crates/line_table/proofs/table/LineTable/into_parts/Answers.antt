use Rattle.std.proofs.Common.{append_assoc, ◌≡◌, ◌++◌, ◌∷◌, [], List, ap, map, ◌∙◌, sym, subst}
use Rattle.std.specs.List.{AllByRecursion, filter_map}
use Rattle.std.specs.Option.{option_to_list}
use Rattle.std.proofs.lemmas.List.{map-append}
use Rattle.query_model.proofs.ListFacts.{filter_map-push}
use Rattle.query_model.specs.Alike.{without_words}
use Rattle.query_model.specs.Documents.{docs_of}
use Rattle.query_model.specs.declared.line.Line.{Line}
use Rattle.word_table.specs.declared.numbered.NumberedDoc.{NumberedDoc}
use Rattle.word_table.specs.Numbered.{AreNumbers, doc_by}
use Rattle.word_table.specs.Numbers.{words_in}
use Rattle.word_table.specs.Tables.{IsTableOf}
use Rattle.fan_base.specs.declared.doc.Doc.{Doc}
use Rattle.line_table.specs.declared.line.TableLine.{TableLine}
use Rattle.line_table.specs.Numbered.{bare_line, numbered_doc}
use Rattle.line_table.proofs.PartLemmas.{all-yielded, bare-are, docs-are, docs-numbers}
use Rattle.line_table.proofs.table.LineTable.into_parts.Goals as goal

pub loop-line-preserved : goal.loop-line-preserved
loop-line-preserved c = record {
  whole = append_assoc c.loop-line.yielded (c.in-Some.line ∷ []) _ ∙ ap (λ l. c.loop-line.yielded ++ l) (sym c.in-Some.ensures.steps.0) ∙ c.loop-line.invariant.whole;
  docs = c.in_ok-put_apart.ensures.docs ∙ (ap (λ ds. ds ++ option_to_list (numbered_doc c.in-Some.line)) c.loop-line.invariant.docs
      ∙ sym (filter_map-push numbered_doc c.loop-line.yielded c.in-Some.line));
  lines = c.in_ok-put_apart.ensures.lines ∙ (ap (λ ls. ls ++ bare_line c.in-Some.line ∷ []) c.loop-line.invariant.lines
      ∙ sym (map-append bare_line c.loop-line.yielded (c.in-Some.line ∷ [])));
}

pub new-requires-clause-numbers : goal.new-requires-clause-numbers
new-requires-clause-numbers c =
    let words = words_in c.self.inside.dictionary in
    let all : c.loop-line.yielded ≡ c.self.inside.lines.items =
    all-yielded c.loop-line.yielded c.loop-line.line-iterator c.self.inside.lines.items (c.loop-line.invariant.whole ∙ c.into_iter-line-iterator.ensures.into_iter_gives.0) c.in-None.ensures.steps.0 in
    subst (λ (ds : List NumberedDoc). AllByRecursion (AreNumbers words) ds) (sym (c.loop-line.invariant.docs ∙ ap (λ (ts : List TableLine). filter_map numbered_doc ts) all))
    (docs-numbers words c.self.inside.lines.items c.self.invariant.numbers)

pub returns-clause-docs : goal.returns-clause-docs
returns-clause-docs c =
    let words = words_in c.self.inside.dictionary in
    let all : c.loop-line.yielded ≡ c.self.inside.lines.items =
    all-yielded c.loop-line.yielded c.loop-line.line-iterator c.self.inside.lines.items (c.loop-line.invariant.whole ∙ c.into_iter-line-iterator.ensures.into_iter_gives.0) c.in-None.ensures.steps.0 in
    subst (λ (ds : List Doc). IsTableOf c.in_ok-table.table ds)
    (ap (λ (ds : List NumberedDoc). map (doc_by words) ds) (c.loop-line.invariant.docs ∙ ap (λ (ts : List TableLine). filter_map numbered_doc ts) all)
    ∙ (docs-are words c.self.inside.lines.items ∙ ap (λ (ls : List Line). docs_of ls) c.self.view_is))
    c.in_ok-table.ensures

pub returns-clause-lines : goal.returns-clause-lines
returns-clause-lines c =
    let words = words_in c.self.inside.dictionary in
    let all : c.loop-line.yielded ≡ c.self.inside.lines.items =
    all-yielded c.loop-line.yielded c.loop-line.line-iterator c.self.inside.lines.items (c.loop-line.invariant.whole ∙ c.into_iter-line-iterator.ensures.into_iter_gives.0) c.in-None.ensures.steps.0 in
    c.from_vec.ensures ∙ (c.loop-line.invariant.lines ∙ (ap (λ (ts : List TableLine). map bare_line ts) all
    ∙ (bare-are words c.self.inside.lines.items ∙ ap (λ (ls : List Line). map without_words ls) c.self.view_is)))
