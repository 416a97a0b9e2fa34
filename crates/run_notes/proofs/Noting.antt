-- The notes of the bases, from what was compared and what each base's close says.
use Rattle.std.proofs.Common.{◌≡◌, ℕ, zero, suc, ◌+◌, ◌*◌, ◌<◌, List, [], ◌∷◌, ◌++◌, length, map, get_or, refl, ap, ◌∙◌, arith}
use Rattle.std.specs.List.{range_with_len}
use Rattle.std.proofs.lemmas.List.{map-append}
use Rattle.event_base.specs.Seen.{NoteSeen}
use Rattle.query_model.specs.declared.line.Line.{Line}
use Rattle.query_model.specs.Documents.{queries_of}
use Rattle.query_model.specs.Order.{Asked}
use Rattle.fan_model.specs.Answered.{answered_in}
use Rattle.fan_model.specs.Notes.{Note, emptied, note_of_base, notes_of}
use Rattle.fan_model.specs.Tasks.{printer_exec}
use Rattle.run_notes.specs.declared.counting.Counted.{Counted}
use Rattle.run_notes.specs.Counting.{AreEmptied, ArePutBy, HasCounted, IsEmptied, gathered_on}
use Rattle.run_notes.specs.Told.{note_of}

in_order : (f : ℕ → Note) (first n : ℕ) (notes : List NoteSeen) → length notes ≡ n → ((k : ℕ) (d : NoteSeen) → k < n → note_of (get_or notes k d) ≡ f (first + k)) → map note_of notes ≡ map f (range_with_len first n)
in_order f first zero [] l e = refl
in_order f first zero (x ∷ xs) l e = absurd (omega (arith, l))
in_order f first (suc n) [] l e = absurd (omega (arith, l))
in_order f first (suc n) (x ∷ xs) l e =
    ap (λ (y : Note). y ∷ map note_of xs) (e 0 x (omega arith) ∙ ap f (omega arith))
    ∙ ap (λ (r : List Note). f first ∷ r) (in_order f (first + 1) n xs (omega (arith, l)) (λ k d below. e (suc k) d (omega (arith, below)) ∙ ap f (omega arith)))

one_note : (n : NoteSeen) (base count : ℕ) → IsEmptied base n → n.put ≡ count → note_of n ≡ emptied (record { 0 = base }) count
one_note n base count is put i = record { exec = is.exec i; put = put i; taken = (is.taken ∙ put) i; left = is.left i }

pub base_notes : (shards bases : ℕ) (queries : List Asked) (notes : List NoteSeen) → length notes ≡ bases
    → ((k : ℕ) (d : NoteSeen) → k < bases → IsEmptied (1 + k) (get_or notes k d))
    → ((k : ℕ) (d : NoteSeen) → k < bases → (get_or notes k d).put ≡ shards * gathered_on bases queries (1 + k))
    → map note_of notes ≡ map (note_of_base shards bases queries) (range_with_len 1 bases)
base_notes shards bases queries notes many each put =
    in_order (note_of_base shards bases queries) 1 bases notes many (λ k d below. one_note (get_or notes k d) (1 + k) (shards * gathered_on bases queries (1 + k)) (each k d below) (put k d below))

pub all_notes : (lines : List Line) (shards bases : ℕ) (notes : List NoteSeen) (printer : NoteSeen) → map note_of notes ≡ map (note_of_base shards bases (answered_in lines)) (range_with_len 1 bases)
    → note_of printer ≡ emptied (printer_exec bases) (length (queries_of lines)) → map note_of (notes ++ printer ∷ []) ≡ notes_of lines shards bases
unfolding notes_of
all_notes lines shards bases notes printer are last =
    map-append note_of notes (printer ∷ []) ∙ (ap (λ (l : List Note). l ++ note_of printer ∷ []) are
    ∙ ap (λ (n : Note). map (note_of_base shards bases (answered_in lines)) (range_with_len 1 bases) ++ n ∷ []) last)

length_of_range : (f : ℕ → ℕ) (a n : ℕ) → length (map f (range_with_len a n)) ≡ n
length_of_range f a zero = refl
length_of_range f a (suc n) = ap suc (length_of_range f (a + 1) n)

at_of_range : (f : ℕ → ℕ) (a n k : ℕ) → k < n → get_or (map f (range_with_len a n)) k 0 ≡ f (a + k)
at_of_range f a zero k below = absurd (omega (arith, below))
at_of_range f a (suc n) zero below = ap f (omega arith)
at_of_range f a (suc n) (suc k) below = at_of_range f (a + 1) n k (omega (arith, below)) ∙ ap f (omega arith)

pub those_of_the_run : (lines : List Line) (shards bases : ℕ) (counted : Counted) (notes : List NoteSeen) (printer : NoteSeen) → HasCounted lines bases counted → ArePutBy shards counted.by_base.items notes
    → AreEmptied notes → note_of printer ≡ emptied (printer_exec bases) (length (queries_of lines)) → map note_of (notes ++ printer ∷ []) ≡ notes_of lines shards bases
those_of_the_run lines shards bases counted notes printer has put each last =
    let f : ℕ → ℕ = gathered_on bases (answered_in lines) in
    let many : length notes ≡ bases = put.as_many ∙ (ap length has.by_base ∙ length_of_range f 1 bases) in
    all_notes lines shards bases notes printer
    (base_notes shards bases (answered_in lines) notes many (λ k d below. each.each k d (omega (arith, below, many)))
    (λ k d below. put.each k d (omega (arith, below, many)) ∙ ap (λ (n : ℕ). shards * n) (ap (λ (l : List ℕ). get_or l k 0) has.by_base ∙ at_of_range f 1 bases k below)))
    last
