-- The lines of a table and its documents, one by one.
use Rattle.std.proofs.Common.{◌≡◌, List, [], ◌∷◌, ◌++◌, map, refl, ap, ◌∙◌, sym, append-nil, arith}
use Rattle.std.proofs.lemmas.List.{nil_from_length}
use Rattle.std.specs.Vec.Iter.{into_iter_items, into_iter_len}
use Rattle.std.specs.declared.vec.IntoIter.{IntoIter}
use Rattle.std.specs.List.{AllByRecursion, filter_map}
use Rattle.fan_base.specs.declared.word.Word.{Word}
use Rattle.query_model.specs.Alike.{without_words}
use Rattle.query_model.specs.Documents.{docs_of}
use Rattle.word_table.specs.Numbered.{AreNumbers, doc_by}
use Rattle.line_table.specs.declared.line.TableLine.{TableLine}
use Rattle.line_table.specs.declared.line.TableLine.TheVariants as table
use Rattle.line_table.specs.Numbered.{HasNumbers, bare_line, line_by, numbered_doc}

-- what was yielded is all, once nothing is to come
pub all-yielded : {X Z : Type 0} (yielded : List X) (left : IntoIter X Z) (items : List X) → yielded ++ into_iter_items left ≡ items → into_iter_len left ≡ 0 → yielded ≡ items
all-yielded {X} yielded left items whole none =
    sym (append-nil yielded) ∙ (ap (λ (xs : List X). yielded ++ xs) (sym (nil_from_length (into_iter_items left) (omega (arith, none, left.rest.ok)))) ∙ whole)

pub docs-numbers : (words : List Word) (ts : List TableLine) → AllByRecursion (HasNumbers words) ts → AllByRecursion (AreNumbers words) (filter_map numbered_doc ts)
docs-numbers words [] all = tt
docs-numbers words (table.Doc numbered ∷ ts) all = (all.0, docs-numbers words ts all.1)
docs-numbers words (table.Query query ∷ ts) all = docs-numbers words ts all.1
docs-numbers words (table.Tick n ∷ ts) all = docs-numbers words ts all.1
docs-numbers words (table.Cancel n ∷ ts) all = docs-numbers words ts all.1

pub docs-are : (words : List Word) (ts : List TableLine) → map (doc_by words) (filter_map numbered_doc ts) ≡ docs_of (map (line_by words) ts)
docs-are words [] = refl
docs-are words (table.Doc numbered ∷ ts) = ap (λ ds. doc_by words numbered ∷ ds) (docs-are words ts)
docs-are words (table.Query query ∷ ts) = docs-are words ts
docs-are words (table.Tick n ∷ ts) = docs-are words ts
docs-are words (table.Cancel n ∷ ts) = docs-are words ts

bare-is : (words : List Word) (t : TableLine) → bare_line t ≡ without_words (line_by words t)
bare-is words (table.Doc numbered) = refl
bare-is words (table.Query query) = refl
bare-is words (table.Tick n) = refl
bare-is words (table.Cancel n) = refl

pub bare-are : (words : List Word) (ts : List TableLine) → map bare_line ts ≡ map without_words (map (line_by words) ts)
bare-are words [] = refl
bare-are words (t ∷ ts) = λ i. bare-is words t i ∷ bare-are words ts i
