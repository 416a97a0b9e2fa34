-- Documents whose words are numbers of a dictionary's words.
use Rattle.std.specs.Prelude.{ℕ, ◌≡◌, ◌<◌, List, [], length, map, get_or}
use Rattle.std.specs.List.{AllByRecursion}
use Rattle.fan_base.specs.declared.doc.Doc.{Doc}
use Rattle.fan_base.specs.declared.word.Word.{Word}
use Rattle.word_table.specs.declared.numbered.NumberedDoc.{NumberedDoc}

-- the word with a number
abbrev pub word_at : List Word → ℕ → Word
word_at words number = get_or words number []

-- each number is that of the word beside it
pub record AreNumbersOf (words : List Word) (numbers : List ℕ) (texts : List Word) : Type 0 where
  pub texts_are : map (word_at words) numbers ≡ texts
  pub within : AllByRecursion (λ number. number < length words) numbers

-- the document that has the words with these numbers
abbrev pub doc_by : List Word → NumberedDoc → Doc
doc_by words numbered = record { id = numbered.id; words = map (word_at words) numbered.words }

-- each number is that of one of the words
abbrev pub AreNumbers : List Word → NumberedDoc → Type 0
AreNumbers words numbered = AllByRecursion (λ number. number < length words) numbered.words

-- by these words the numbers are those of the document's words
pub record IsNumbered (words : List Word) (numbered : NumberedDoc) (doc : Doc) : Type 0 where
  pub doc_is : doc_by words numbered ≡ doc
  pub numbers : AreNumbers words numbered
