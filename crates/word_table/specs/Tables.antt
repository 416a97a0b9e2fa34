-- Which documents a table has.
use Rattle.std.specs.Prelude.{◌≡◌, List, map}
use Rattle.std.specs.List.{AllByRecursion}
use Rattle.fan_base.specs.declared.doc.Doc.{Doc}
use Rattle.word_table.specs.declared.doc_table.DocTable.{DocTable}
use Rattle.word_table.specs.Numbered.{AreNumbers, doc_by}
use Rattle.word_table.specs.Numbers.{Knows, words_in}

-- the dictionary knows its words, the numbers are theirs, and by them they are those of these documents
pub record IsTableOf (table : DocTable) (docs : List Doc) : Type 0 where
  pub knows : Knows table.dictionary.value (words_in table.dictionary.value)
  pub numbers : AllByRecursion (AreNumbers (words_in table.dictionary.value)) table.docs.items
  pub docs_are : map (doc_by (words_in table.dictionary.value)) table.docs.items ≡ docs
