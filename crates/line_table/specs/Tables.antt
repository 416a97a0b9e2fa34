-- Which lines a table has, and what holds of each table.
use Rattle.std.specs.Prelude.{◌≤◌, ◌*◌, List, length, map}
use Rattle.std.specs.List.{AllByRecursion, count_by}
use Rattle.query_model.specs.declared.line.Line.{Line}
use Rattle.query_model.specs.Limits.{most_documents, most_words}
use Rattle.query_model.specs.Lines.{is_doc}
use Rattle.word_table.specs.Numbers.{Knows, words_in}
use Rattle.line_table.specs.Numbered.{HasNumbers, line_by}
use Rattle.line_table.specs.declared.table.LineTable.TheInside.{Inside}

-- the lines by the words of the dictionary
abbrev pub lines_of : Inside → List Line
lines_of table = map (line_by (words_in table.dictionary)) table.lines.items

-- the dictionary knows its words, the numbers are theirs, and both are few: at most 200,000 documents, and 1,000 words for each
pub record IsTable (table : Inside) : Type 0 where
  pub knows : Knows table.dictionary (words_in table.dictionary)
  pub numbers : AllByRecursion (HasNumbers (words_in table.dictionary)) table.lines.items
  pub few_words : length (words_in table.dictionary) ≤ most_words * count_by is_doc (lines_of table)
  pub few_documents : count_by is_doc (lines_of table) ≤ most_documents
