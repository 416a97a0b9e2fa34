use Rattle.std.proofs.Common.{◌≡◌, Option, Some, None, List, sym}
use Rattle.std.specs.Option.{IfSome, IfNone}
use Rattle.query_words.specs.declared.command.Command.{Command}
use Rattle.query_words.specs.Grammar.{Bytes, IsCommand, IsOutside}
use Rattle.query_words.specs.Steps.{command_of}
use Rattle.query_words.proofs.Reading.{is_command}
use Rattle.query_words.proofs.Finding.{is_read}
use Rattle.query_words.proofs.reader.read_command.Goals as goal

found : (words : List Bytes) (read : Option Command) → read ≡ command_of words → IfSome read (λ c. IsCommand words c)
found words (Some c) e = is_command words c (sym e)
found words None e = tt

none : (words : List Bytes) (read : Option Command) → read ≡ command_of words → IfNone read (IsOutside words)
none words (Some c) e = tt
none words None e = λ c h. let is = is_read words c h in cc

pub returns-clause-some : goal.returns-clause-some
returns-clause-some c = found _ c.command_of.result c.command_of.ensures

pub returns-clause-none : goal.returns-clause-none
returns-clause-none c = none _ c.command_of.result c.command_of.ensures
