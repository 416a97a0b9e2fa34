-- What numbers, one after the other, make of the numbers before them.
use Rattle.std.proofs.Common.{◌≡◌, ℕ, List, [], ◌∷◌, Some, refl, sym, subst}
use Rattle.query_words.specs.declared.command.Command.{Command}
use Rattle.query_words.specs.declared.command.Command.TheVariants as command
use Rattle.query_words.specs.declared.command.Generation.{Generation}
use Rattle.query_words.specs.declared.command.Settings.{Settings}
use Rattle.query_words.specs.declared.reader.Progress.{Progress}
use Rattle.query_words.specs.declared.reader.Progress.TheVariants as progress
use Rattle.query_words.specs.Numbers.{number_in}
use Rattle.query_words.specs.Grammar.{Bytes, AreNumbersOf}
use Rattle.query_words.specs.Steps.{count_on, command_by}
use Rattle.query_words.proofs.Options.{and_then-Some, same_Some}

abbrev pub Counts : Progress → List Bytes → Progress → Type 0
Counts before [] after = after ≡ before
Counts before (word ∷ words) after = (next : Progress) × (count_on before word ≡ Some next) × Counts next words after

pub Counts-Run : (words : List Bytes) (after : Progress) → Counts progress.Run words after → (words ≡ []) × (after ≡ progress.Run)
Counts-Run [] after h = (refl, h)
Counts-Run (word ∷ words) after h = cc h.1

pub Counts-Queries : (generation : Generation) (words : List Bytes) (after : Progress) → Counts (progress.Queries generation) words after → (words ≡ []) × (after ≡ progress.Queries generation)
Counts-Queries generation [] after h = (refl, h)
Counts-Queries generation (word ∷ words) after h = cc h.1

-- three numbers
pub Counts-from_numbers : (generation : Generation) (words : List Bytes) → AreNumbersOf generation words → Counts progress.Generate words (progress.Queries generation)
Counts-from_numbers generation [] h = absurd h
Counts-from_numbers generation (seed ∷ []) h = absurd h
Counts-from_numbers generation (seed ∷ (docs ∷ [])) h = absurd h
Counts-from_numbers generation (seed ∷ (docs ∷ (queries ∷ []))) h =
    (progress.Seed generation.seed, rw (h.0) refl, (progress.Docs generation.seed generation.docs, rw (h.1) refl, (progress.Queries generation, rw (h.2) refl, refl)))
Counts-from_numbers generation (seed ∷ (docs ∷ (queries ∷ (word ∷ words)))) h = absurd h

-- what the numbers of `gen` come to
abbrev pub GivesGeneration : List Bytes → Settings → Command → Type 0
GivesGeneration words settings given = (generation : Generation) × AreNumbersOf generation words × (given ≡ command.Generate generation settings)

pub GivesGeneration-from_Counts : (words : List Bytes) (after : Progress) (settings : Settings) (given : Command)
    → Counts progress.Generate words after → command_by after settings ≡ Some given → GivesGeneration words settings given
GivesGeneration-from_Counts [] after settings given h e =
    let no : command_by progress.Generate settings ≡ Some given = subst (λ (p : Progress). command_by p settings ≡ Some given) h e in cc
GivesGeneration-from_Counts (seed ∷ words) after settings given h e = from_seed words after settings given seed h e
  where
    from_queries : (seed docs queries : Bytes) (s d q : ℕ) (words : List Bytes) (after : Progress) (settings : Settings) (given : Command)
        → number_in 0 18446744073709551615 seed ≡ Some s → number_in 0 20000 docs ≡ Some d → number_in 0 4096 queries ≡ Some q
        → Counts (progress.Queries (record { seed = s; docs = d; queries = q })) words after → command_by after settings ≡ Some given
        → GivesGeneration (seed ∷ (docs ∷ (queries ∷ words))) settings given
    from_queries seed docs queries s d q [] after settings given hs hd hq h e =
        let generation : Generation = record { seed = s; docs = d; queries = q } in
        let done : command_by (progress.Queries generation) settings ≡ Some given = subst (λ (p : Progress). command_by p settings ≡ Some given) h e in
        (generation, (hs, hd, hq), cc)
    from_queries seed docs queries s d q (word ∷ words) after settings given hs hd hq h e = cc h.1

    from_docs : (words : List Bytes) (after : Progress) (settings : Settings) (given : Command) (seed docs : Bytes) (s d : ℕ)
        → number_in 0 18446744073709551615 seed ≡ Some s → number_in 0 20000 docs ≡ Some d
        → Counts (progress.Docs s d) words after → command_by after settings ≡ Some given
        → GivesGeneration (seed ∷ (docs ∷ words)) settings given
    from_docs [] after settings given seed docs s d hs hd h e =
        let no : command_by (progress.Docs s d) settings ≡ Some given = subst (λ (p : Progress). command_by p settings ≡ Some given) h e in cc
    from_docs (queries ∷ words) after settings given seed docs s d hs hd h e =
        let found = and_then-Some (λ (q : ℕ). Some (progress.Queries (record { seed = s; docs = d; queries = q }))) (number_in 0 4096 queries) h.0 h.1 in
        from_queries seed docs queries s d found.0 words after settings given hs hd found.1
        (subst (λ (p : Progress). Counts p words after) (same_Some _ _ (sym found.2)) h.2) e

    from_seed_is : (words : List Bytes) (after : Progress) (settings : Settings) (given : Command) (seed : Bytes) (s : ℕ)
        → number_in 0 18446744073709551615 seed ≡ Some s → Counts (progress.Seed s) words after → command_by after settings ≡ Some given
        → GivesGeneration (seed ∷ words) settings given
    from_seed_is [] after settings given seed s hs h e =
        let no : command_by (progress.Seed s) settings ≡ Some given = subst (λ (p : Progress). command_by p settings ≡ Some given) h e in cc
    from_seed_is (docs ∷ words) after settings given seed s hs h e =
        let found = and_then-Some (λ (d : ℕ). Some (progress.Docs s d)) (number_in 0 20000 docs) h.0 h.1 in
        from_docs words after settings given seed docs s found.0 hs found.1 (subst (λ (p : Progress). Counts p words after) (same_Some _ _ (sym found.2)) h.2) e

    from_seed : (words : List Bytes) (after : Progress) (settings : Settings) (given : Command) (seed : Bytes)
        → Counts progress.Generate (seed ∷ words) after → command_by after settings ≡ Some given → GivesGeneration (seed ∷ words) settings given
    from_seed words after settings given seed h e =
        let found = and_then-Some (λ (s : ℕ). Some (progress.Seed s)) (number_in 0 18446744073709551615 seed) h.0 h.1 in
        from_seed_is words after settings given seed found.0 found.1 (subst (λ (p : Progress). Counts p words after) (same_Some _ _ (sym found.2)) h.2) e
