-- When an expression holds.
use Rattle.std.specs.Prelude.{List, Bool, not, ◌&&◌, ◌||◌, ◌==◌}
use Rattle.std.specs.List.{list_any}
use Rattle.std.specs.Cmp.Lexicographic.{pointwise}
use Rattle.fan_base.specs.declared.word.Word.{Word}
use Rattle.query_grammar.specs.Tree.{Tree}

-- whether the word is one of these
abbrev pub is_among : Word → List Word → Bool
is_among word words = list_any (λ other. pointwise ◌==◌ other word) words

-- the truth of an expression over the words of a document: a word holds where it is among them
abbrev pub is_true : Tree → List Word → Bool
is_true (Tree.word word) words = is_among word words
is_true (Tree.not e) words = not (is_true e words)
is_true (Tree.both a b) words = is_true a words && is_true b words
is_true (Tree.either a b) words = is_true a words || is_true b words
