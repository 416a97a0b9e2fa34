-- What is read is the command of the grammar.
use Rattle.std.proofs.Common.{◌≡◌, ◌++◌, Bool, true, false, List, [], ◌∷◌, Some, None, option_and_then, codes, if◌then◌else◌, refl, ap, sym, subst, ◌∙◌}
use Rattle.std.specs.Str.{bytes_eq}
use Rattle.std.proofs.lemmas.Slice.Eq.{bytes_eq-Decides}
use Rattle.query_words.specs.declared.command.Command.{Command}
use Rattle.query_words.specs.declared.given.Given.{Given}
use Rattle.query_words.specs.declared.name.OptionName.{OptionName}
use Rattle.query_words.specs.declared.name.OptionName.TheVariants as option
use Rattle.query_words.specs.declared.reader.Place.TheVariants as place
use Rattle.query_words.specs.declared.reader.Progress.{Progress}
use Rattle.query_words.specs.declared.reader.Progress.TheVariants as progress
use Rattle.query_words.specs.declared.reader.Reader.{Reader}
use Rattle.query_words.specs.Options.{text_of}
use Rattle.query_words.specs.Grammar.{Bytes, Item, Ending, Line, words_of, values_of, numbers_of, HasSettings, IsCommand}
use Rattle.query_words.specs.Steps.{give, count_on, with_item, with_option, with_number, command_by, command_from, command_of, settings_of, nothing_given, reader_of}
use Rattle.query_words.proofs.Options.{and_then-Some, same_Some}
use Rattle.query_words.proofs.Filling.{EachFills, EachFills-more, Gives-from_give, IsGiven-from_Fills}
use Rattle.query_words.proofs.Counting.{Counts, Counts-Run, GivesGeneration-from_Counts}
use Rattle.query_words.proofs.Items.{reader_at, IsItem, is_item}

-- the values of each option in a line
abbrev pub values_by_name : Line → OptionName → List Bytes
values_by_name line name = values_of name line

-- what is given and counted before some words, they are a line that leads to this command
pub record Leads (given : Given) (before : Progress) (words : List Bytes) (read : Command) : Type 0 where
  pub line : Line
  pub all_given : Given
  pub counted : Progress
  pub words_are : words ≡ words_of line
  pub fills : EachFills given (values_by_name line) all_given
  pub counts : Counts before (numbers_of line) counted
  pub command : command_by counted (settings_of all_given) ≡ Some read

-- a line with one more item in front
abbrev with_front : Item → Line → Line
with_front item line = record { items = item ∷ line.items; ending = line.ending }

-- What is read from words is what they lead to: between two items, before a value, and behind `--`.
abbrev FromBetween : List Bytes → Type 0
FromBetween words = (given : Given) (before : Progress) (read : Command) → command_from (reader_at place.Between given before) words ≡ Some read → Leads given before words read

abbrev FromName : List Bytes → Type 0
FromName words = (name : OptionName) (given : Given) (before : Progress) (read : Command) → command_from (reader_at (place.Before name) given before) words ≡ Some read
    → (value : Bytes) × (rest : List Bytes) × (more : Given) × (words ≡ value ∷ rest) × (give name value given ≡ Some more) × Leads more before rest read

from_behind : (words : List Bytes) (given : Given) (before : Progress) (read : Command) → command_from (reader_at place.Behind given before) words ≡ Some read
    → (counted : Progress) × Counts before words counted × (command_by counted (settings_of given) ≡ Some read)
from_behind [] given before read e = (before, refl, e)
from_behind (word ∷ words) given before read e =
    let first = and_then-Some (λ (next : Reader). command_from next words) (with_number word (reader_at place.Behind given before)) read e in
    let found = and_then-Some (λ (counted : Progress). Some (reader_at place.Behind given counted)) (count_on before word) first.0 first.1 in
    let rest = from_behind words given found.0 read (subst (λ (r : Reader). command_from r words ≡ Some read) (same_Some _ _ (sym found.2)) first.2) in
    (rest.0, (found.0, found.1, rest.1), rest.2)

leads-apart : (name : OptionName) (value : Bytes) (rest : List Bytes) (given more : Given) (before : Progress) (read : Command)
    → give name value given ≡ Some more → Leads more before rest read → Leads given before (text_of name ∷ (value ∷ rest)) read
leads-apart name value rest given more before read e l = record {
  line = with_front (Item.apart name value) l.line;
  all_given = l.all_given;
  counted = l.counted;
  words_are = ap (λ (ws : List Bytes). text_of name ∷ (value ∷ ws)) l.words_are;
  fills = EachFills-more name value given more l.all_given (values_by_name l.line) (Gives-from_give name value given more e) l.fills;
  counts = l.counts;
  command = l.command;
}

leads-joined : (name : OptionName) (value : Bytes) (rest : List Bytes) (given more : Given) (before : Progress) (read : Command)
    → give name value given ≡ Some more → Leads more before rest read → Leads given before ((text_of name ++ (codes "=" ++ value)) ∷ rest) read
leads-joined name value rest given more before read e l = record {
  line = with_front (Item.joined name value) l.line;
  all_given = l.all_given;
  counted = l.counted;
  words_are = ap (λ (ws : List Bytes). (text_of name ++ (codes "=" ++ value)) ∷ ws) l.words_are;
  fills = EachFills-more name value given more l.all_given (values_by_name l.line) (Gives-from_give name value given more e) l.fills;
  counts = l.counts;
  command = l.command;
}

leads-number : (word : Bytes) (rest : List Bytes) (given : Given) (before after : Progress) (read : Command)
    → count_on before word ≡ Some after → Leads given after rest read → Leads given before (word ∷ rest) read
leads-number word rest given before after read e l = record {
  line = with_front (Item.number word) l.line;
  all_given = l.all_given;
  counted = l.counted;
  words_are = ap (λ (ws : List Bytes). word ∷ ws) l.words_are;
  fills = l.fills;
  counts = (after, e, l.counts);
  command = l.command;
}

leads-dashes : (words : List Bytes) (given : Given) (before counted : Progress) (read : Command)
    → Counts before words counted → command_by counted (settings_of given) ≡ Some read → Leads given before (codes "--" ∷ words) read
leads-dashes words given before counted read h e = record {
  line = record { items = []; ending = Ending.dashes words };
  all_given = given;
  counted = counted;
  words_are = refl;
  fills = λ name. refl;
  counts = h;
  command = e;
}

-- by what the first word is
from_item : (word : Bytes) (words : List Bytes) → FromBetween words → FromName words → (given : Given) (before : Progress) (read : Command) (next : Reader)
    → IsItem word given before next → command_from next words ≡ Some read → Leads given before (word ∷ words) read
from_item word words between named given before read next (IsItem.at_dashes is goes) e =
    let rest = from_behind words given before read (subst (λ (r : Reader). command_from r words ≡ Some read) goes e) in
    subst (λ (w : Bytes). Leads given before (w ∷ words) read) (sym is) (leads-dashes words given before rest.0 read rest.1 rest.2)
from_item word words between named given before read next (IsItem.at_name name is goes) e =
    let rest = named name given before read (subst (λ (r : Reader). command_from r words ≡ Some read) goes e) in
    subst (λ (w : Bytes). Leads given before (w ∷ words) read) (sym is)
    (subst (λ (ws : List Bytes). Leads given before (text_of name ∷ ws) read) (sym rest.3) (leads-apart name rest.0 rest.1 given rest.2 before read rest.4 rest.5))
from_item word words between named given before read next (IsItem.at_joined name value more is gives goes) e =
    subst (λ (w : Bytes). Leads given before (w ∷ words) read) (sym is)
    (leads-joined name value words given more before read gives (between more before read (subst (λ (r : Reader). command_from r words ≡ Some read) goes e)))
from_item word words between named given before read next (IsItem.at_number after counts goes) e =
    leads-number word words given before after read counts (between given after read (subst (λ (r : Reader). command_from r words ≡ Some read) goes e))

from_words : (words : List Bytes) → FromBetween words × FromName words
from_words [] = (
  (λ given before read e. record {
    line = record { items = []; ending = Ending.nothing };
    all_given = given;
    counted = before;
    words_are = refl;
    fills = λ name. refl;
    counts = refl;
    command = e;
  }),
  λ name given before read e. cc,
)
from_words (word ∷ words) =
    let rest = from_words words in (
      (λ given before read e.
          let first = and_then-Some (λ (next : Reader). command_from next words) (with_item word (reader_at place.Between given before)) read e in
          from_item word words rest.0 rest.1 given before read first.0 (is_item word given before first.0 first.1) first.2),
      λ name given before read e.
          let first = and_then-Some (λ (next : Reader). command_from next words) (with_option (Some name) word (reader_at (place.Before name) given before)) read e in
          let found = and_then-Some (λ (more : Given). Some (reader_at place.Between more before)) (give name word given) first.0 first.1 in
          (word, words, found.0, refl, found.1, rest.0 found.0 before read (subst (λ (r : Reader). command_from r words ≡ Some read) (same_Some _ _ (sym found.2)) first.2)),
    )

-- the settings are those of what is given
has_settings : (line : Line) (given : Given) → EachFills nothing_given (values_by_name line) given → HasSettings line (settings_of given)
has_settings line given fills = record {
  workers = (given.workers, IsGiven-from_Fills option.Workers (values_of option.Workers line) given.workers (fills option.Workers), refl);
  bases = (given.bases, IsGiven-from_Fills option.Bases (values_of option.Bases line) given.bases (fills option.Bases), refl);
  shards = (given.shards, IsGiven-from_Fills option.Shards (values_of option.Shards line) given.shards (fills option.Shards), refl);
  stop_at = IsGiven-from_Fills option.StopAt (values_of option.StopAt line) given.stop_at (fills option.StopAt);
}

from_start : (words : List Bytes) (first : Bytes) (a b : Bool) (read : Command) → bytes_eq first (codes "run") ≡ a → bytes_eq first (codes "gen") ≡ b
    → option_and_then (λ start. command_from (reader_of start) words) (if a then Some progress.Run else (if b then Some progress.Generate else None)) ≡ Some read → IsCommand (first ∷ words) read
from_start words first true b read ea eb e =
    let l = (from_words words).0 nothing_given progress.Run read e in
    let none = Counts-Run (numbers_of l.line) l.counted l.counts in
    let is : command_by progress.Run (settings_of l.all_given) ≡ Some read = subst (λ (p : Progress). command_by p (settings_of l.all_given) ≡ Some read) none.1 l.command in
    subst (λ (c : Command). IsCommand (first ∷ words) c) (same_Some _ _ is)
    (l.line, ap (λ (w : Bytes). w ∷ words) ((bytes_eq-Decides first (codes "run")).0 ea) ∙ ap (λ (ws : List Bytes). codes "run" ∷ ws) l.words_are, none.0, has_settings l.line l.all_given l.fills)
from_start words first false true read ea eb e =
    let l = (from_words words).0 nothing_given progress.Generate read e in
    let made = GivesGeneration-from_Counts (numbers_of l.line) l.counted (settings_of l.all_given) read l.counts l.command in
    subst (λ (c : Command). IsCommand (first ∷ words) c) (sym made.2)
    (l.line, ap (λ (w : Bytes). w ∷ words) ((bytes_eq-Decides first (codes "gen")).0 eb) ∙ ap (λ (ws : List Bytes). codes "gen" ∷ ws) l.words_are, made.1, has_settings l.line l.all_given l.fills)
from_start words first false false read ea eb e = cc

pub is_command : (words : List Bytes) (read : Command) → command_of words ≡ Some read → IsCommand words read
is_command [] read e = cc
is_command (first ∷ words) read e = from_start words first (bytes_eq first (codes "run")) (bytes_eq first (codes "gen")) read refl refl e
