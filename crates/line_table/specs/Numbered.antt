-- Lines whose documents have numbers of a dictionary's words in place of words.
use Rattle.std.specs.Prelude.{◌≡◌, List, [], Option, None, Some}
use Rattle.fan_base.specs.declared.word.Word.{Word}
use Rattle.query_model.specs.declared.line.Line.{Line}
use Rattle.query_model.specs.declared.line.Line.TheVariants as line
use Rattle.word_table.specs.declared.numbered.NumberedDoc.{NumberedDoc}
use Rattle.word_table.specs.Numbered.{AreNumbers, doc_by}
use Rattle.line_table.specs.declared.line.TableLine.{TableLine}
use Rattle.line_table.specs.declared.line.TableLine.TheVariants as table

-- the line whose document has the words with these numbers
abbrev pub line_by : List Word → TableLine → Line
line_by words (table.Doc numbered) = line.Doc (doc_by words numbered)
line_by words (table.Query query) = line.Query query
line_by words (table.Tick n) = line.Tick n
line_by words (table.Cancel n) = line.Cancel n

-- each number is that of one of the words
abbrev pub HasNumbers : List Word → TableLine → Type 0
HasNumbers words (table.Doc numbered) = AreNumbers words numbered
HasNumbers words (table.Query _) = Unit {0}
HasNumbers words (table.Tick _) = Unit {0}
HasNumbers words (table.Cancel _) = Unit {0}

-- by these words the numbers are those of the line's document, if it is one
pub record IsNumberedLine (words : List Word) (numbered : TableLine) (l : Line) : Type 0 where
  pub line_is : line_by words numbered ≡ l
  pub numbers : HasNumbers words numbered

-- the document of a line
abbrev pub numbered_doc : TableLine → Option NumberedDoc
numbered_doc (table.Doc numbered) = Some numbered
numbered_doc (table.Query _) = None
numbered_doc (table.Tick _) = None
numbered_doc (table.Cancel _) = None

-- the line, its document without words
abbrev pub bare_line : TableLine → Line
bare_line (table.Doc numbered) = line.Doc (record { id = numbered.id; words = [] })
bare_line (table.Query query) = line.Query query
bare_line (table.Tick n) = line.Tick n
bare_line (table.Cancel n) = line.Cancel n
