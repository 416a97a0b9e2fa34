-- For which lines a table has room.
use Rattle.std.specs.Prelude.{◌<◌, ◌≤◌, List, [], length}
use Rattle.std.specs.List.{count_by}
use Rattle.fan_base.specs.declared.doc.Doc.{Doc}
use Rattle.fan_base.specs.declared.word.Word.{Word}
use Rattle.query_model.specs.declared.line.Line.{Line}
use Rattle.query_model.specs.declared.line.Line.TheVariants as line
use Rattle.query_model.specs.Limits.{most_documents, most_words}
use Rattle.query_model.specs.Lines.{is_doc}

-- the words of the line's document, none where it isn't one
abbrev pub words_of_line : Line → List Word
words_of_line (line.Doc doc) = doc.words
words_of_line (line.Query _) = []
words_of_line (line.Tick _) = []
words_of_line (line.Cancel _) = []

-- the document has at most 1,000 words, and fewer than 200,000 documents stand before it
pub record IsRoomForDoc (before : List Line) (doc : Doc) : Type 0 where
  pub few_words : length doc.words ≤ most_words
  pub few_documents : count_by is_doc before < most_documents

-- behind these lines there is room for the line: any that isn't a document, and a document within the limits of an input
abbrev pub IsRoomFor : List Line → Line → Type 0
IsRoomFor before (line.Doc doc) = IsRoomForDoc before doc
IsRoomFor before (line.Query _) = Unit {0}
IsRoomFor before (line.Tick _) = Unit {0}
IsRoomFor before (line.Cancel _) = Unit {0}
