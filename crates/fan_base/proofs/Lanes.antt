-- Sixteen bytes together: how many of the first may stand in a word, and some of them with zeros behind.
use Rattle.std.proofs.Common.{◌≡◌, ℕ, zero, suc, ◌+◌, ◌-◌, ◌%◌, ◌^◌, ◌<◌, ◌≤◌, eqb, leb, ltb, cond, Bool, true, false, not, ◌&&◌, List, [], ◌∷◌, ◌++◌, map, length, take, drop, get_or, replicate, Fits, w8, refl, sym, ap, ap₂, ◌∙◌, subst, arith, append_assoc, ◌⊎◌, inl, inr}
use Rattle.std.specs.List.{prefix_len, list_all, range_with_len}
use Rattle.std.proofs.lemmas.Bool.{agree_below, agree_below_at, cond-true, cond-false, eq-eqb, ne_eqb, cases_lt, lt-ltb, le-ltb, le-leb}
use Rattle.std.proofs.lemmas.Bool.Decides.{nat_tests}
use Rattle.std.proofs.lemmas.List.{length-append, length-map, length-replicate, length-take-le, get_or-take, take-take, drop-replicate, replicate-append-replicate}
use Rattle.std.proofs.lemmas.Simd.{map-map, mask_l-mod, first_set_mask_l, tops_compared, zip2_splat, put_chunk_is}
use lib.Count.{count_trailing_zeros}
use lib.Lanes.{zip2, mask_l, sel_l, put_chunk, top}
use Rattle.fan_base.specs.Word.{is_word, is_word_byte, padded}

zip2-map : (h : ℕ → ℕ → ℕ) (f g : ℕ → ℕ) (xs : List ℕ) → zip2 h (map f xs) (map g xs) ≡ map (λ x. h (f x) (g x)) xs
zip2-map h f g [] = refl
zip2-map h f g (x ∷ xs) = ap (λ r. h (f x) (g x) ∷ r) (zip2-map h f g xs)

-- an operation on two vectors that were computed lane by lane from v
pub joined : (h : ℕ → ℕ → ℕ) (f g : ℕ → ℕ) (v : List ℕ) {a b : List ℕ} → a ≡ map f v → b ≡ map g v → zip2 h a b ≡ map (λ x. h (f x) (g x)) v
joined h f g v p q = ap₂ (zip2 h) p q ∙ zip2-map h f g v

splat_left : (h : ℕ → ℕ → ℕ) (y : ℕ) (xs : List ℕ) → zip2 h (replicate (length xs) y) xs ≡ map (h y) xs
splat_left h y [] = refl
splat_left h y (x ∷ xs) = ap (λ r. h y x ∷ r) (splat_left h y xs)

-- `simd_gt` has its sides changed
pub from_splat : (h : ℕ → ℕ → ℕ) (v : List ℕ) (n y : ℕ) → length v ≡ n → zip2 h (replicate n y) v ≡ map (h y) v
from_splat h v n y long = ap (λ k. zip2 h (replicate k y) v) (sym long) ∙ splat_left h y v

prefix_len_same : (p q : ℕ → Bool) (xs : List ℕ) → ((k : ℕ) → k < length xs → p (get_or xs k 0) ≡ q (get_or xs k 0)) → prefix_len p xs ≡ prefix_len q xs
prefix_len_same p q [] same = refl
prefix_len_same p q (x ∷ xs) same =
    ap (λ b. cond b (1 + prefix_len p xs) 0) (same 0 (omega arith)) ∙ ap (λ n. cond (q x) (1 + n) 0) (prefix_len_same p q xs (λ k inside. same (suc k) (omega arith)))

-- from the marks of 16 bytes, each of which is marked where it can't stand in a word
module _ (bytes : List ℕ) (room : 16 ≤ length bytes) (fits : (k : ℕ) → Fits w8 (get_or bytes k 0)) (z : List ℕ) (f : ℕ → ℕ)
    (lanes : z ≡ map f (take 16 bytes)) (agree : agree_below (λ x. not (top 7 (f x))) is_word_byte 256 ≡ true) where
  abbrev marked : ℕ → Bool
  marked x = top 7 (f x)

  abbrev front : List ℕ
  front = take 16 bytes

  long : length front ≡ 16
  long = length-take-le 16 bytes room

  marks : mask_l (map (top 7) z) % 2 ^ 64 ≡ mask_l (map marked front)
  marks = ap (λ l. mask_l l % 2 ^ 64) (ap (map (top 7)) lanes ∙ map-map (top 7) f front) ∙ mask_l-mod (map marked front) 64 (omega (arith, length-map front marked, long))

  clear : (k : ℕ) → k < length front → not (marked (get_or front k 0)) ≡ is_word_byte (get_or front k 0)
  clear k inside =
      subst (λ b. not (marked b) ≡ is_word_byte b) (sym (get_or-take 16 bytes k 0 (omega (arith, long))))
      (agree_below_at (λ x. not (marked x)) is_word_byte 256 (get_or bytes k 0) agree (fits k).fits)

  first : cond (eqb (mask_l (map marked front)) 0) 16 (count_trailing_zeros 64 (mask_l (map marked front))) ≡ prefix_len is_word_byte front
  first = first_set_mask_l marked front 16 long (omega arith) ∙ prefix_len_same (λ x. not (marked x)) is_word_byte front clear

  pub none_marked : mask_l (map (top 7) z) % 2 ^ 64 ≡ 0 → 16 ≡ prefix_len is_word_byte (take 16 bytes)
  none_marked none = sym (cond-true _ _ _ (eq-eqb _ _ (sym marks ∙ none))) ∙ first

  pub first_marked : (mask_l (map (top 7) z) % 2 ^ 64 ≡ 0 → ⊥) → count_trailing_zeros 64 (mask_l (map (top 7) z) % 2 ^ 64) ≡ prefix_len is_word_byte (take 16 bytes)
  first_marked some = ap (count_trailing_zeros 64) marks ∙ (sym (cond-false _ _ _ (ne_eqb _ _ (λ none. some (marks ∙ none)))) ∙ first)

one_more : (k n : ℕ) → leb (suc k) (1 + n) ≡ leb k n
one_more k n = grind (arith, nat_tests)

not_below : (k : ℕ) → leb (suc k) 0 ≡ false
not_below k = grind (arith, nat_tests)

-- so many first ones pass a test
all_in_front : (p : ℕ → Bool) (xs : List ℕ) (k n : ℕ) → k ≤ n → k ≤ length xs → leb k (prefix_len p (take n xs)) ≡ list_all p (take k xs)
all_in_front p xs zero n few many = le-leb 0 (prefix_len p (take n xs)) (omega arith)
all_in_front p [] (suc k) n few many = absurd (omega arith)
all_in_front p (x ∷ xs) (suc k) zero few many = absurd (omega arith)
all_in_front p (x ∷ xs) (suc k) (suc n) few many = by (p x) (all_in_front p xs k n (omega arith) (omega arith))
  where
    by : (b : Bool) → leb k (prefix_len p (take n xs)) ≡ list_all p (take k xs) → leb (suc k) (cond b (1 + prefix_len p (take n xs)) 0) ≡ (b && list_all p (take k xs))
    by true rest = one_more k (prefix_len p (take n xs)) ∙ rest
    by false rest = not_below k

pub front_is_word : (bytes : List ℕ) (size passed : ℕ) → 16 ≤ length bytes → size ≤ 16 → 0 < size → passed ≡ prefix_len is_word_byte (take 16 bytes)
    → leb size passed ≡ is_word (take size bytes)
front_is_word bytes size passed room few some found =
    let long : length (take size bytes) ≡ size = length-take-le size bytes (omega arith) in
    let starts : leb 1 (length (take size bytes)) ≡ true = le-leb 1 (length (take size bytes)) (omega (arith, long)) in
    let fits : leb (length (take size bytes)) 32 ≡ true = le-leb (length (take size bytes)) 32 (omega (arith, long)) in
    ap (leb size) found
    ∙ (all_in_front is_word_byte bytes size 16 few (omega arith) ∙ sym (λ i. starts i && (fits i && list_all is_word_byte (take size bytes))))

no_lanes : (k : ℕ) (xs : List ℕ) → length xs ≡ 0 → [] ≡ take k xs ++ replicate (0 - k) 0
no_lanes zero [] none = refl
no_lanes (suc k) [] none = let same : 0 ≡ 0 - suc k = omega arith in ap (λ n. replicate n 0) same
no_lanes k (x ∷ xs) none = absurd (omega arith)

-- of n lanes, which stand from place a on, those below a size are kept
kept_lanes : (size a n : ℕ) (xs : List ℕ) → length xs ≡ n → sel_l (map (λ k. ltb k size) (range_with_len a n)) xs (replicate n 0) ≡ take (size - a) xs ++ replicate (n - (size - a)) 0
kept_lanes size a zero xs long = no_lanes (size - a) xs long
kept_lanes size a (suc n) [] long = absurd (omega arith)
kept_lanes size a (suc n) (x ∷ xs) long = by (cases_lt a size) (kept_lanes size (a + 1) n xs (omega arith))
  where
    by : (a < size) ⊎ (size ≤ a) → sel_l (map (λ k. ltb k size) (range_with_len (a + 1) n)) xs (replicate n 0) ≡ take (size - (a + 1)) xs ++ replicate (n - (size - (a + 1))) 0
        → sel_l (map (λ k. ltb k size) (range_with_len a (suc n))) (x ∷ xs) (replicate (suc n) 0) ≡ take (size - a) (x ∷ xs) ++ replicate (suc n - (size - a)) 0
    by (inl below) rest =
        let one : suc (size - (a + 1)) ≡ size - a = omega arith in
        let left : n - (size - (a + 1)) ≡ suc n - (size - a) = omega arith in
        ap (λ b. cond b x 0 ∷ sel_l (map (λ k. ltb k size) (range_with_len (a + 1) n)) xs (replicate n 0)) (lt-ltb a size below)
        ∙ (ap (λ l. x ∷ l) rest ∙ (λ i. take (one i) (x ∷ xs) ++ replicate (left i) 0))
    by (inr above) rest =
        let none : 0 ≡ size - a = omega arith in
        let more : size - (a + 1) ≡ 0 = omega arith in
        let whole : n - 0 ≡ n = omega arith in
        let all : suc n ≡ suc n - (size - a) = omega arith in
        ap (λ b. cond b x 0 ∷ sel_l (map (λ k. ltb k size) (range_with_len (a + 1) n)) xs (replicate n 0)) (le-ltb a size above)
        ∙ (ap (λ l. 0 ∷ l) (rest ∙ (λ i. take (more i) xs ++ replicate (n - more i) 0) ∙ ap (λ m. replicate m 0) whole) ∙ (λ i. take (none i) (x ∷ xs) ++ replicate (all i) 0))

-- the first ones of 16 bytes, stored over zeros
module _ (bytes : List ℕ) (size : ℕ) (room : 16 ≤ length bytes) (few : size ≤ 16) where
  abbrev lanes_kept : List ℕ
  lanes_kept = sel_l (map (top 7) (zip2 (λ a b. cond (ltb a b) 255 0) (range_with_len 0 16) (replicate 16 size))) (take 16 bytes) (replicate 16 0)

  kept : lanes_kept ≡ take size bytes ++ replicate (16 - size) 0
  kept =
      let whole : length (take 16 bytes) ≡ 16 = length-take-le 16 bytes room in
      let tests : map (top 7) (zip2 (λ a b. cond (ltb a b) 255 0) (range_with_len 0 16) (replicate 16 size)) ≡ map (λ k. ltb k size) (range_with_len 0 16) =
      tops_compared w8 ltb (range_with_len 0 16) (replicate 16 size) ∙ zip2_splat ltb (range_with_len 0 16) 16 size refl in
      ap (λ ms. sel_l ms (take 16 bytes) (replicate 16 0)) tests
      ∙ (kept_lanes size 0 16 (take 16 bytes) whole
      ∙ ((λ i. take (same i) (take 16 bytes) ++ replicate (16 - same i) 0) ∙ ap (λ xs. xs ++ replicate (16 - size) 0) (take-take size 16 bytes few)))
    where
      same : size - 0 ≡ size
      same = omega arith

  pub stored : put_chunk 0 (replicate 32 0) lanes_kept ≡ padded (take size bytes)
  stored =
      let long : length (take size bytes) ≡ size = length-take-le size bytes (omega arith) in
      let lanes : length lanes_kept ≡ 16 = ap length kept ∙ many in
      put_chunk_is 0 (replicate 32 0) lanes_kept (omega (arith, lanes))
      ∙ ((λ i. kept i ++ drop (lanes i) (replicate 32 0))
      ∙ (ap (λ zeros. (take size bytes ++ replicate (16 - size) 0) ++ zeros) (drop-replicate 16 32 0)
      ∙ (append_assoc (take size bytes) (replicate (16 - size) 0) (replicate 16 0)
      ∙ (ap (λ zeros. take size bytes ++ zeros) (replicate-append-replicate (16 - size) 16 0)
      ∙ ap (λ n. take size bytes ++ replicate n 0) (omega (arith, long))))))
    where
      many : length (take size bytes ++ replicate (16 - size) 0) ≡ 16
      many = omega (arith, length-append (take size bytes) (replicate (16 - size) 0), length-take-le size bytes (omega arith), length-replicate {A = ℕ} (16 - size) 0)
