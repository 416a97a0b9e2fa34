-- What is said of the words and of the numbers of a command.
use Rattle.std.specs.Prelude.{◌≤◌, Bool, ◌&&◌, nat_lt, length, IfSome}
use Rattle.std.specs.Char.{is_ascii}
use Rattle.std.specs.List.{list_all}
use Rattle.query_words.specs.declared.command.Command.{Command}
use Rattle.query_words.specs.declared.command.Command.TheVariants as command
use Rattle.query_words.specs.declared.command.Generation.{Generation}
use Rattle.query_words.specs.declared.command.Settings.{Settings}
use Rattle.query_words.specs.Grammar.{Bytes}

-- one or more bytes, all of ASCII
abbrev pub is_ascii_word : Bytes → Bool
is_ascii_word word = nat_lt 0 (length word) && list_all is_ascii word

-- The settings are within their ranges.
pub record AreSettingsInRange (settings : Settings) : Type 0 where
  pub some_workers : 1 ≤ settings.workers
  pub few_workers : settings.workers ≤ 32
  pub some_bases : 1 ≤ settings.bases
  pub few_bases : settings.bases ≤ 8
  pub some_shards : 1 ≤ settings.shards
  pub few_shards : settings.shards ≤ 64
  pub stop_at : IfSome settings.stop_at (λ n. n ≤ 4294967295)

-- The numbers of `gen` are within theirs.
pub record AreNumbersInRange (generation : Generation) : Type 0 where
  pub seed : generation.seed ≤ 18446744073709551615
  pub docs : generation.docs ≤ 20000
  pub queries : generation.queries ≤ 4096

abbrev pub IsInRange : Command → Type 0
IsInRange (command.Run settings) = AreSettingsInRange settings
IsInRange (command.Generate generation settings) = AreNumbersInRange generation × AreSettingsInRange settings
