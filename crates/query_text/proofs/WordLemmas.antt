-- Reading words one by one gives the words of all.
use Rattle.std.proofs.Common.{◌≡◌, ℕ, zero, suc, ◌<◌, ◌≤◌, List, [], ◌∷◌, ◌++◌, length, take, Bool, true, false, ◌&&◌, Result, Ok, Err, refl, sym, ap, ◌∙◌, arith, append_assoc, append-nil, length-append}
use Rattle.std.specs.Prelude.{nat_le}
use Rattle.std.specs.List.{list_all}
use Rattle.std.proofs.lemmas.Bool.{le-leb}
use Rattle.std.proofs.lemmas.Bool.Decides.{nat_tests}
use Rattle.std.proofs.lemmas.List.{take_all}
use Rattle.std.proofs.lemmas.List.Folds.{list_all-append}
use Rattle.std.proofs.Math.Seq.{take-append_seam}
use Rattle.fan_base.specs.Word.{is_word}
use Rattle.fan_base.specs.declared.word.Word.{Word}
use Rattle.query_model.specs.declared.fault.BadKind.{BadKind}
use Rattle.query_model.specs.declared.fault.BadKind.TheVariants.{BadWord}
use Rattle.query_model.specs.declared.fault.BadKind.TheVariants as bad
use Rattle.query_model.specs.declared.fault.Limit.TheVariants as limit
use Rattle.query_model.specs.Results.{◌>>=◌, check}
use Rattle.query_model.specs.Pieces.{Bytes}
use Rattle.query_model.specs.Lines.{words_of}
use Rattle.query_text.specs.declared.fault.LineFault.{LineFault}
use Rattle.query_text.specs.declared.fault.LineFault.TheVariants as fault
use Rattle.query_text.specs.Outcomes.{FailsAs}
use Rattle.query_text.specs.Sayings.{word_in}

-- the words taken so far are the front of all
pub record HasTaken (taken left all : List Bytes) : Type 0 where
  pub whole : all ≡ taken ++ left
  pub words : list_all is_word taken ≡ true
  pub few : length taken ≤ 1000

word_ok : (text word : Bytes) → word_in text ≡ Ok word → (is_word text ≡ true) × (text ≡ word)
word_ok text word e = by (is_word text) refl e
  where
    by : (good : Bool) → is_word text ≡ good → (check good BadWord >>= λ u. Ok text) ≡ Ok word → (is_word text ≡ true) × (text ≡ word)
    by true good e = (good, cc)
    by false good e = absurd cc

word_bad : (text : Bytes) (kind : BadKind) → word_in text ≡ Err kind → (is_word text ≡ false) × (BadWord ≡ kind)
word_bad text kind e = by (is_word text) refl e
  where
    by : (good : Bool) → is_word text ≡ good → (check good BadWord >>= λ u. Ok text) ≡ Err kind → (is_word text ≡ false) × (BadWord ≡ kind)
    by true good e = absurd cc
    by false good e = (good, cc)

pub taken_none : (all : List Bytes) → HasTaken [] all all
taken_none all = record { whole = refl; words = refl; few = omega arith }

pub taken_more : (taken left rest all : List Bytes) (text word : Bytes) → HasTaken taken left all → left ≡ text ∷ rest → word_in text ≡ Ok word → length taken < 1000
    → HasTaken (taken ++ word ∷ []) rest all
taken_more taken left rest all text word h front is few =
    let found = word_ok text word is in
    record {
      whole = h.whole ∙ (ap (λ xs. taken ++ xs) (front ∙ ap (λ w. w ∷ rest) found.1) ∙ sym (append_assoc taken (word ∷ []) rest));
      words = list_all-append is_word taken (word ∷ []) ∙ (ap (λ b. b && (is_word word && true)) h.words ∙ ap (λ b. b && true) (ap is_word (sym found.1) ∙ found.0));
      few = omega (arith, length-append taken (word ∷ []), few);
    }

abbrev given : Bool → Bool → List Bytes → Result (List Word) BadKind
given each few all = check each BadWord >>= λ u. (check few (bad.Limit limit.Words) >>= λ v. Ok all)

pub taken_all : (taken left all : List Bytes) → HasTaken taken left all → left ≡ [] → words_of all ≡ Ok taken
taken_all taken left all h none =
    let same : all ≡ taken = h.whole ∙ (ap (λ xs. taken ++ xs) none ∙ append-nil taken) in
    ap words_of same
    ∙ (ap (λ b. given b (nat_le (length taken) 1000) taken) (ap (list_all is_word) (take_all 1000 taken h.few) ∙ h.words)
    ∙ ap (λ b. given true b taken) (le-leb (length taken) 1000 h.few))

above : (m n : ℕ) → m < n → nat_le n m ≡ false
above m n h = grind (arith, nat_tests)

pub too_many : (taken left rest all : List Bytes) (text : Bytes) → HasTaken taken left all → left ≡ text ∷ rest → length taken ≡ 1000 → words_of all ≡ Err (bad.Limit limit.Words)
too_many taken left rest all text h front full =
    let front_taken : take 1000 all ≡ taken = ap (take 1000) h.whole ∙ (ap (λ n. take n (taken ++ left)) (sym full) ∙ take-append_seam taken left) in
    let long : 1000 < length all = omega (arith, ap length h.whole, length-append taken left, ap length front, full) in
    ap (λ b. given b (nat_le (length all) 1000) all) (ap (list_all is_word) front_taken ∙ h.words)
    ∙ ap (λ b. given true b all) (above 1000 (length all) long)

take-past : (xs : List Bytes) (n : ℕ) (y : Bytes) (ys : List Bytes) → length xs < n → (k : ℕ) × (take n (xs ++ y ∷ ys) ≡ xs ++ (y ∷ take k ys))
take-past [] zero y ys h = absurd (omega arith)
take-past [] (suc n) y ys h = (n, refl)
take-past (x ∷ xs) zero y ys h = absurd (omega arith)
take-past (x ∷ xs) (suc n) y ys h = let rest = take-past xs n y ys (omega arith) in (rest.0, ap (λ zs. x ∷ zs) rest.1)

none_of : (a b c : Bool) → b ≡ false → (a && (b && c)) ≡ false
none_of true b c e = ap (λ x. x && c) e
none_of false b c e = refl

pub bad_word : (taken left rest all : List Bytes) (text : Bytes) (kind : BadKind) → HasTaken taken left all → left ≡ text ∷ rest → word_in text ≡ Err kind → length taken < 1000
    → words_of all ≡ Err kind
bad_word taken left rest all text kind h front is few =
    let found = word_bad text kind is in
    let cut = take-past taken 1000 text rest few in
    let first : take 1000 all ≡ taken ++ (text ∷ take cut.0 rest) = ap (take 1000) (h.whole ∙ ap (λ xs. taken ++ xs) front) ∙ cut.1 in
    ap (λ b. given b (nat_le (length all) 1000) all)
    (ap (list_all is_word) first ∙ (list_all-append is_word taken (text ∷ take cut.0 rest) ∙ none_of (list_all is_word taken) (is_word text) (list_all is_word (take cut.0 rest)) found.0))
    ∙ ap (λ k. Err k) found.1

pub bad_word_fails : (taken left rest all : List Bytes) (text : Bytes) (e : LineFault) → HasTaken taken left all → left ≡ text ∷ rest → FailsAs e (word_in text) → length taken < 1000
    → FailsAs e (words_of all)
bad_word_fails taken left rest all text (fault.Bad kind) h front is few = bad_word taken left rest all text kind h front is few
bad_word_fails taken left rest all text fault.Memory h front is few = tt
