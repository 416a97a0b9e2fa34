-- Lines that are the same but for the words of their documents.
use Rattle.std.specs.Prelude.{◌≡◌, List, [], map}
use Rattle.fan_base.specs.declared.doc.Doc.{Doc}
use Rattle.query_model.specs.declared.line.Line.{Line}
use Rattle.query_model.specs.declared.line.Line.TheVariants as line

-- the document with its id and no words
abbrev pub without_its_words : Doc → Doc
without_its_words doc = record { id = doc.id; words = [] }

-- the line with no words in its document; a line that is no document stays as it is
abbrev pub without_words : Line → Line
without_words (line.Doc doc) = line.Doc (without_its_words doc)
without_words (line.Query query) = line.Query query
without_words (line.Tick n) = line.Tick n
without_words (line.Cancel n) = line.Cancel n

-- the same lines but for the words of documents
pub record AreAlike (lines others : List Line) : Type 0 where
  pub same : map without_words lines ≡ map without_words others
