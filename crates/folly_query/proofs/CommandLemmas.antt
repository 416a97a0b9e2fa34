-- The words are one command.
use Rattle.std.proofs.Common.{◌≡◌, ℕ, List, sym, ◌∙◌}
use Rattle.query_words.specs.declared.command.Command.{Command}
use Rattle.query_words.specs.declared.command.Command.TheVariants as command
use Rattle.query_words.specs.declared.command.Generation.{Generation}
use Rattle.query_words.specs.declared.command.Settings.{Settings}
use Rattle.query_words.specs.Grammar.{IsCommand}

abbrev pub AtMostOne : Type 0
AtMostOne = (words : List (List ℕ)) (a b : Command) → IsCommand words a → IsCommand words b → a ≡ b

pub same_settings : AtMostOne → (words : List (List ℕ)) (found : Command) (mine other : Settings) → IsCommand words found → found ≡ command.Run mine → IsCommand words (command.Run other) → mine ≡ other
same_settings one words found mine other is run also =
    let same : command.Run mine ≡ command.Run other = sym run ∙ one words found (command.Run other) is also in cc

module _ (one : AtMostOne) (words : List (List ℕ)) (found : Command) (mine other : Generation) (set also_set : Settings) where
  same-command : IsCommand words found → found ≡ command.Generate mine set → IsCommand words (command.Generate other also_set) → command.Generate mine set ≡ command.Generate other also_set
  same-command is gen also = sym gen ∙ one words found (command.Generate other also_set) is also

  pub same_generation : IsCommand words found → found ≡ command.Generate mine set → IsCommand words (command.Generate other also_set) → mine ≡ other
  same_generation is gen also = let same = same-command is gen also in cc

  pub same_settings_of_it : IsCommand words found → found ≡ command.Generate mine set → IsCommand words (command.Generate other also_set) → set ≡ also_set
  same_settings_of_it is gen also = let same = same-command is gen also in cc
