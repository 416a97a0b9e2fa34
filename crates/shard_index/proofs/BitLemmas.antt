-- Bits of documents: one that is set, which of the places are kept by them, and those of words.
use Rattle.std.proofs.Common.{◌≡◌, ℕ, zero, suc, ◌+◌, ◌*◌, ◌/◌, ◌%◌, ◌^◌, ◌<◌, ◌≤◌, List, [], ◌∷◌, ◌++◌, length, Bool, true, false, not, ◌&&◌, ◌||◌, cond, eqb, get_or, replicate, set, take, filter, inl, inr, refl, sym, ap, subst, ◌∙◌, arith}
use mir.Val.{bool_byte}
use Rattle.std.specs.Int.{bit_at, w64}
use Rattle.std.specs.Int.RustNames.{bit_or}
use Rattle.std.specs.List.{All}
use Rattle.std.proofs.lemmas.Bool.{cases_lt, eq-eqb, eqb-false, eqb-true}
use Rattle.std.proofs.lemmas.List.{get_or-set_other, get_or-set_same, get_or_append_left, get_or_default, get_or_push, length_push, take_all, take_more}
use Rattle.std.proofs.lemmas.List.Elements.{filter-append}
use Rattle.std.proofs.lemmas.List.Folds.{list_any_more}
use Rattle.std.proofs.lemmas.Nat.Bits.{bit_at-zero, bit_at_set_other, bit_at_set_same}
use Rattle.std.proofs.Math.Bool.{or-false, or-true}
use Rattle.fan_base.specs.declared.doc.Doc.{Doc}
use Rattle.fan_base.specs.declared.word.Word.{Word}
use Rattle.word_table.specs.declared.sorted.Sorted.{Sorted}
use Rattle.word_table.specs.Numbered.{word_at}
use Rattle.word_table.specs.Numbers.{number_in}
use Rattle.word_table.specs.Told.{HasTold, distinct}
use Rattle.word_table.proofs.PairLemmas.{all-at}
use Rattle.shard_index.specs.Bits.{AreBits, AreSortedFor, StandBeside, bit_of}
use Rattle.shard_index.specs.Narrowing.{has_place}
use Rattle.shard_index.specs.Places.{has_word, places_where, standing_of}
use Rattle.shard_index.proofs.NarrowLemmas.{kept-from, stand-where, written}
use Rattle.shard_index.proofs.PlaceLemmas.{distinct-standing, places-below}

neq-eqb : (x y : ℕ) → (x ≡ y → ⊥) → eqb x y ≡ false
neq-eqb x y differ = by (eqb x y) refl
  where
    by : (b : Bool) → eqb x y ≡ b → b ≡ false
    by true is = absurd (differ (eqb-true x y is))
    by false is = refl

-- one bit more is set
pub bit-set : (bits : List ℕ) (place i : ℕ) → place < 64 * length bits
    → bit_of (set bits (place / 64) (bit_or (get_or bits (place / 64) 0) (1 * 2 ^ (place % 64) % 2 ^ 64))) i ≡ (bit_of bits i || eqb i place)
bit-set bits place i low = by (eqb (i / 64) at) refl
  where
    at : ℕ
    at = place / 64

    old : ℕ
    old = get_or bits at 0

    more : ℕ
    more = bit_or old (1 * 2 ^ (place % 64) % 2 ^ 64)

    within : at < length bits
    within = omega (arith, low)

    other : (i ≡ place → ⊥) → (bit_of bits i || eqb i place) ≡ bit_of bits i
    other differ = ap (λ (b : Bool). bit_of bits i || b) (neq-eqb i place differ) ∙ or-false (bit_of bits i)

    here : i / 64 ≡ at → (b : Bool) → eqb (i % 64) (place % 64) ≡ b → eqb (bit_at more (i % 64)) 1 ≡ (bit_of bits i || eqb i place)
    here is true same =
        let rest : i % 64 ≡ place % 64 = eqb-true (i % 64) (place % 64) same in
        let one : i ≡ place = omega (arith, is, rest) in
        ap (λ (k : ℕ). eqb (bit_at more k) 1) rest ∙ (ap (λ (n : ℕ). eqb n 1) (bit_at_set_same w64 old (place % 64) (omega arith))
        ∙ sym (ap (λ (b : Bool). bit_of bits i || b) (eq-eqb i place one) ∙ or-true (bit_of bits i)))
    here is false same =
        ap (λ (n : ℕ). eqb n 1) (bit_at_set_other w64 old (place % 64) (omega arith) (i % 64) (eqb-false (i % 64) (place % 64) same))
        ∙ (ap (λ (k : ℕ). eqb (bit_at (get_or bits k 0) (i % 64)) 1) (sym is)
        ∙ sym (other (λ one. eqb-false (i % 64) (place % 64) same (ap (λ (n : ℕ). n % 64) one))))

    by : (b : Bool) → eqb (i / 64) at ≡ b → bit_of (set bits at more) i ≡ (bit_of bits i || eqb i place)
    by true same =
        let is : i / 64 ≡ at = eqb-true (i / 64) at same in
        ap (λ (k : ℕ). eqb (bit_at (get_or (set bits at more) k 0) (i % 64)) 1) is
        ∙ (ap (λ (n : ℕ). eqb (bit_at n (i % 64)) 1) (get_or-set_same bits at more 0 within) ∙ here is (eqb (i % 64) (place % 64)) refl)
    by false same =
        let apart = eqb-false (i / 64) at same in
        ap (λ (n : ℕ). eqb (bit_at n (i % 64)) 1) (get_or-set_other bits at (i / 64) more 0 apart)
        ∙ sym (other (λ one. apart (ap (λ (n : ℕ). n / 64) one)))

zero-in : (n i : ℕ) → get_or (replicate n zero) i zero ≡ zero
zero-in zero i = refl
zero-in (suc n) zero = refl
zero-in (suc n) (suc i) = zero-in n i

pub bit-none : (n i : ℕ) → bit_of (replicate n 0) i ≡ false
bit-none n i = ap (λ (x : ℕ). eqb (bit_at x (i % 64)) 1) (zero-in n (i / 64)) ∙ ap (λ (b : ℕ). eqb b 1) (bit_at-zero (i % 64))

-- the bits of the first places are set, and of one place more
pub bits-more : (places old new : List ℕ) (index : ℕ) → index < length places → ((i : ℕ) → bit_of old i ≡ has_place (take index places) i)
    → ((i : ℕ) → bit_of new i ≡ (bit_of old i || eqb i (get_or places index 0))) → (i : ℕ) → bit_of new i ≡ has_place (take (index + 1) places) i
bits-more places old new index low before is i =
    is i ∙ (ap (λ (b : Bool). b || eqb i (get_or places index 0)) (before i) ∙ sym (list_any_more (eqb i) places index 0 low))

pub are-bits : (bits places : List ℕ) (index count : ℕ) (test : Doc → Bool) (docs : List Doc) → length bits ≡ count / 64 + 1 → length docs ≡ count → length places ≤ index
    → ((i : ℕ) → bit_of bits i ≡ has_place (take index places) i) → places ≡ places_where test docs → AreBits bits test docs
are-bits bits places index count test docs long many past is are = record {
  enough = omega (arith, long, many);
  are = λ i d low. is i ∙ (ap (λ (ps : List ℕ). has_place ps i) (take_all index places past) ∙ (stand-where test docs places are).are i d low);
}

-- the bits of the first documents
pub bits-front : (bits : List ℕ) (test : Doc → Bool) (docs : List Doc) (front : ℕ) → AreBits bits test docs → AreBits bits test (take front docs)
bits-front bits test docs front has = record {
  enough = omega (arith, shorter front docs, has.enough);
  are = λ i d low. has.are i d (omega (arith, low, shorter front docs)) ∙ ap test (sym (first front docs i d low));
}
  where
    shorter : (n : ℕ) (ds : List Doc) → length (take n ds) ≤ length ds
    shorter zero ds = omega arith
    shorter (suc n) [] = omega arith
    shorter (suc n) (d ∷ ds) = omega (arith, shorter n ds)

    first : (n : ℕ) (ds : List Doc) (i : ℕ) (d : Doc) → i < length (take n ds) → get_or (take n ds) i d ≡ get_or ds i d
    first zero ds i d low = absurd (omega (arith, low))
    first (suc n) [] i d low = refl
    first (suc n) (e ∷ ds) zero d low = refl
    first (suc n) (e ∷ ds) (suc i) d low = first n ds i d (omega (arith, low))

-- places that are kept by bits

abbrev pub keeps : List ℕ → Bool → ℕ → Bool
keeps bits wanted place = cond wanted (bit_of bits place) (not (bit_of bits place))

filter-more : (test : ℕ → Bool) (xs : List ℕ) (i : ℕ) → i < length xs → filter test (take (i + 1) xs) ≡ filter test (take i xs) ++ cond (test (get_or xs i 0)) (get_or xs i 0 ∷ []) []
filter-more test xs i low = ap (λ (ys : List ℕ). filter test ys) (take_more xs i 0 low) ∙ (filter-append test (take i xs) (get_or xs i 0 ∷ []) ∙ ap (λ (ys : List ℕ). filter test (take i xs) ++ ys) (one (test (get_or xs i 0))))
  where
    one : (b : Bool) → cond b (get_or xs i 0 ∷ filter test []) (filter test []) ≡ cond b (get_or xs i 0 ∷ []) []
    one true = refl
    one false = refl

pub kept-by-more : (bits places room : List ℕ) (wanted kept : Bool) (index many next : ℕ) → take many room ≡ filter (keeps bits wanted) (take index places) → index < length places → many < length room
    → kept ≡ keeps bits wanted (get_or places index 0) → next ≡ many + bool_byte kept → take next (set room many (get_or places index 0)) ≡ filter (keeps bits wanted) (take (index + 1) places)
kept-by-more bits places room wanted kept index many next before low within is on =
    let x = get_or places index 0 in
    written room many next x kept within on ∙ ((λ k. before k ++ cond (is k) (x ∷ []) []) ∙ sym (filter-more (keeps bits wanted) places index low))

pub kept-by-where : (bits places kept : List ℕ) (wanted : Bool) (index : ℕ) (p q : Doc → Bool) (docs : List Doc) → kept ≡ filter (keeps bits wanted) (take index places) → length places ≤ index
    → places ≡ places_where p docs → AreBits bits q docs → kept ≡ places_where (λ doc. p doc && cond wanted (q doc) (not (q doc))) docs
kept-by-where bits places kept wanted index p q docs is past are has =
    is ∙ (ap (λ (ps : List ℕ). filter (keeps bits wanted) ps) (take_all index places past ∙ are)
    ∙ kept-from 0 p (λ doc. cond wanted (q doc) (not (q doc))) (keeps bits wanted) docs
    (λ i d low. ap (λ (b : Bool). cond wanted b (not b)) (ap (λ (n : ℕ). bit_of bits n) (let e : 0 + i ≡ i = omega arith in e) ∙ has.are i d low)))

-- places of the first documents lie within the bits of all
pub places-within : (bits places : List ℕ) (p q : Doc → Bool) (front : ℕ) (docs : List Doc) → AreBits bits q docs → places ≡ places_where p (take front docs) → All (λ place. place < 64 * length bits) places
places-within bits places p q front docs has are i d low =
    let all = bits-front bits q docs front has in
    omega (arith, all.enough, ap (λ (ps : List ℕ). get_or ps i d) are, all-at (λ x. x < 0 + length (take front docs)) (places_where p (take front docs)) i d (places-below 0 p (take front docs)) (omega (arith, low, ap length are)))

-- words with their bits

pub beside-more : (numbers : List ℕ) (bits : List (List ℕ)) (new : List ℕ) (more : List (List ℕ)) (number : ℕ) (one : List ℕ) (known : List Word) (docs : List Doc) → new ≡ numbers ++ number ∷ [] → more ≡ bits ++ one ∷ []
    → ((word : Word) → number ≡ number_in known word → AreBits one (has_word word) docs) → StandBeside numbers bits known docs → StandBeside new more known docs
beside-more numbers bits new more number one known docs pushed put has before = record {
  many = omega (arith, many-new, many-more, before.many);
  each = λ i word low is. elim (cases_lt i (length numbers)) [
    | inl less ↦ subst (λ (bs : List ℕ). AreBits bs (has_word word) docs)
        (sym (ap (λ (bs : List (List ℕ)). get_or bs i []) put ∙ get_or_append_left bits (one ∷ []) [] i (omega (arith, less, before.many))))
        (before.each i word less (sym (ap (λ (ns : List ℕ). get_or ns i 0) pushed ∙ get_or_append_left numbers (number ∷ []) 0 i less) ∙ is))
    | inr past ↦
        let at : length numbers ≡ i = omega (arith, low, past, many-new) in
        subst (λ (bs : List ℕ). AreBits bs (has_word word) docs)
        (sym (ap (λ (bs : List (List ℕ)). get_or bs i []) put ∙ get_or_push bits one [] i (omega (arith, at, before.many))))
        (has word (sym (ap (λ (ns : List ℕ). get_or ns i 0) pushed ∙ get_or_push numbers number 0 i at) ∙ is))
  ];
}
  where
    many-new : length new ≡ length numbers + 1
    many-new = ap length pushed ∙ length_push numbers number

    many-more : length more ≡ length bits + 1
    many-more = ap length put ∙ length_push bits one

-- the sorted places of a number are those of its word
pub places-of-word : (sorted : Sorted) (known : List Word) (docs : List Doc) (number : ℕ) (word : Word) (places : List ℕ) → AreSortedFor sorted known docs → number ≡ number_in known word
    → ((standing : List ℕ) → HasTold sorted number standing → places ≡ distinct standing) → places ≡ places_where (has_word word) docs
places-of-word sorted known docs number word places for is tell =
    tell (standing_of word docs) (subst (λ (n : ℕ). HasTold sorted n (standing_of word docs)) (sym is) (for.places.places word)) ∙ distinct-standing word docs

-- they lie within the documents
pub places-low : (sorted : Sorted) (known : List Word) (docs : List Doc) (number : ℕ) (places : List ℕ) → AreSortedFor sorted known docs → number < length known
    → ((standing : List ℕ) → HasTold sorted number standing → places ≡ distinct standing) → All (λ place. place < length docs) places
places-low sorted known docs number places for low tell i d within =
    let word : Word = word_at known number in
    let is : number_in known word ≡ number = for.differ number word (record { within = low; is = sym (get_or_default known number [] word low) }) in
    let are = places-of-word sorted known docs number word places for (sym is) tell in
    omega (arith, ap (λ (ps : List ℕ). get_or ps i d) are, all-at (λ x. x < 0 + length docs) (places_where (has_word word) docs) i d (places-below 0 (has_word word) docs) (omega (arith, within, ap length are)))
