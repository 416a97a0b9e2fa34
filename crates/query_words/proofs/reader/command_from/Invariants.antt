use Rattle.std.proofs.Common.{◌≡◌, map, string_bytes, drop}
use Rattle.query_words.specs.Steps.{command_from}
use Rattle.query_words.proofs.reader.command_from.Given as goal

-- the words that are left make of what there is the command that all of them make
abbrev pub invariant-loop-word : goal.invariant-loop-word
invariant-loop-word l =
    command_from l.reader (map string_bytes (drop l.word-index l.words)) ≡ command_from l.fn.start (map string_bytes l.words)
