-- What an expression is seen as.
use Rattle.std.specs.Prelude.{◌≡◌, ℕ, zero, suc, ◌+◌, List, [], ◌∷◌, ◌++◌, refl}
use Rattle.std.specs.Coded.{Coded, code_by, coded×, coded_ℕ, coded_list}
use Rattle.std.proofs.Common.{append_assoc, ap, sym, ◌∙◌}
use Rattle.std.proofs.lemmas.List.{append-nil}
use Rattle.fan_base.specs.declared.word.Word.{Word}

-- a word, and how expressions are joined
pub data Tree : Type 0 where
  word : Word → Tree
  not : Tree → Tree
  both : Tree → Tree → Tree
  either : Tree → Tree → Tree

-- the number of a tree's parts
abbrev pub size_of : Tree → ℕ
size_of (word w) = 1
size_of (not e) = size_of e + 1
size_of (both a b) = size_of a + size_of b + 1
size_of (either a b) = size_of a + size_of b + 1

-- A tree is stored as the list of its parts, each behind the parts that it joins: a number for the kind, and a word.
abbrev pub Parts : Type 0
Parts = List (ℕ × List ℕ)

abbrev pub parts_of : Tree → Parts
parts_of (word w) = (0, w) ∷ []
parts_of (not e) = parts_of e ++ (1, []) ∷ []
parts_of (both a b) = parts_of a ++ (parts_of b ++ (2, []) ∷ [])
parts_of (either a b) = parts_of a ++ (parts_of b ++ (3, []) ∷ [])

-- one part, over the trees made before it, the newest first
abbrev pub joined : ℕ → Word → List Tree → List Tree
joined zero w made = word w ∷ made
joined (suc zero) w [] = []
joined (suc zero) w (e ∷ made) = not e ∷ made
joined (suc (suc n)) w [] = []
joined (suc (suc n)) w (b ∷ []) = []
joined (suc (suc zero)) w (b ∷ (a ∷ made)) = both a b ∷ made
joined (suc (suc (suc n))) w (b ∷ (a ∷ made)) = either a b ∷ made

abbrev pub built : Parts → List Tree → List Tree
built [] made = made
built (part ∷ parts) made = built parts (joined part.0 part.1 made)

abbrev pub newest : List Tree → Tree
newest [] = word []
newest (e ∷ es) = e

pub built-parts_of : (e : Tree) (parts : Parts) (made : List Tree) → built (parts_of e ++ parts) made ≡ built parts (e ∷ made)
built-parts_of (word w) parts made = refl
built-parts_of (not e) parts made =
    ap (λ (ps : Parts). built ps made) (append_assoc (parts_of e) ((1, []) ∷ []) parts) ∙ built-parts_of e ((1, []) ∷ parts) made
built-parts_of (both a b) parts made =
    ap (λ (ps : Parts). built ps made) (append_assoc (parts_of a) (parts_of b ++ (2, []) ∷ []) parts ∙ ap (λ (ps : Parts). parts_of a ++ ps) (append_assoc (parts_of b) ((2, []) ∷ []) parts))
    ∙ (built-parts_of a (parts_of b ++ (2, []) ∷ parts) made ∙ built-parts_of b ((2, []) ∷ parts) (a ∷ made))
built-parts_of (either a b) parts made =
    ap (λ (ps : Parts). built ps made) (append_assoc (parts_of a) (parts_of b ++ (3, []) ∷ []) parts ∙ ap (λ (ps : Parts). parts_of a ++ ps) (append_assoc (parts_of b) ((3, []) ∷ []) parts))
    ∙ (built-parts_of a (parts_of b ++ (3, []) ∷ parts) made ∙ built-parts_of b ((3, []) ∷ parts) (a ∷ made))

pub newest-built : (e : Tree) → newest (built (parts_of e) []) ≡ e
newest-built e = ap (λ (ps : Parts). newest (built ps [])) (sym (append-nil (parts_of e))) ∙ ap newest (built-parts_of e [] [])

abbrev pub tree_code : Coded Tree
tree_code = code_by Parts (coded_list (coded× coded_ℕ (coded_list coded_ℕ))) parts_of (λ parts. newest (built parts [])) newest-built
