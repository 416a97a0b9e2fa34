-- The documents of lines within the limits.
use Rattle.std.proofs.Common.{◌≤◌, List, [], ◌∷◌, length}
use Rattle.std.specs.Prelude.{All}
use Rattle.std.specs.List.{AllByRecursion}
use Rattle.std.proofs.lemmas.List.Elements.{recursion_from_All, All-from_recursion}
use Rattle.fan_base.specs.declared.doc.Doc.{Doc}
use Rattle.query_model.specs.declared.line.Line.{Line}
use Rattle.query_model.specs.declared.line.Line.TheVariants as line
use Rattle.query_model.specs.Documents.{docs_of, IsLine}
use Rattle.query_model.specs.Limits.{most_words}

-- each document has few words
few_words : (lines : List Line) → AllByRecursion IsLine lines → AllByRecursion (λ (doc : Doc). length doc.words ≤ most_words) (docs_of lines)
few_words [] are = tt
few_words (line.Doc doc ∷ ls) are = (are.0.are_words.few, few_words ls are.1)
few_words (line.Query query ∷ ls) are = few_words ls are.1
few_words (line.Tick n ∷ ls) are = few_words ls are.1
few_words (line.Cancel n ∷ ls) are = few_words ls are.1

pub docs_are_short : (lines : List Line) → All IsLine lines → All (λ (doc : Doc). length doc.words ≤ most_words) (docs_of lines)
docs_are_short lines are = All-from_recursion (λ (doc : Doc). length doc.words ≤ most_words) (docs_of lines) (few_words lines (recursion_from_All IsLine lines are))
