-- How many messages there are, counted by their senders.
use Rattle.std.proofs.Common.{◌≡◌, ◌≢◌, ℕ, zero, suc, ◌+◌, ◌*◌, ◌<◌, ◌≤◌, cond, List, [], ◌∷◌, ◌++◌, ◌^◌, length, map, take, get_or, set, sym, refl, ap, subst, ◌∙◌, arith}
use Rattle.std.specs.List.{All, sum_by}
use Rattle.std.proofs.lemmas.List.Sums.{sum_by-cons}
use Rattle.std.proofs.lemmas.Bool.{eq-eqb, ne_eqb}
use Rattle.std.proofs.Common.{get_or-set_same, get_or-set_other}
use Rattle.std.proofs.Math.ListN.{length-set}
use Rattle.std.proofs.lemmas.List.{length-append, length-take-le, take_all, take_more}
use mathlib.Core.Logic.{dite}
use native.Mathlib.Decide.{ℕ_discrete}
use Rattle.notify_queue.specs.declared.stamp.Stamped.{Stamped}
use Rattle.notify_queue.specs.Stamps.{stamped_of, messages_of}
use Rattle.notify_queue.proofs.Histories.{messages_of-same, messages_of-other, length-messages_of-le}

-- f of each number below n, added up
unfoldable pub sum_below : (ℕ → ℕ) → ℕ → ℕ
sum_below f zero = 0
sum_below f (suc n) = sum_below f n + f n

pub sum_below-none : (f : ℕ → ℕ) (n : ℕ) → ((k : ℕ) → k < n → f k ≡ 0) → sum_below f n ≡ 0
unfolding sum_below
sum_below-none f zero none = refl
sum_below-none f (suc n) none = omega (arith, sum_below-none f n (λ k lt. none k (omega arith)), none n (omega arith))

pub sum_below-le : (f : ℕ → ℕ) (n m : ℕ) → ((k : ℕ) → f k ≤ m) → sum_below f n ≤ n * m
unfolding sum_below
sum_below-le f zero m bound = omega arith
sum_below-le f (suc n) m bound = omega (arith, sum_below-le f n m bound, bound n)

sum_below-past : (f g : ℕ → ℕ) (i n : ℕ) → n ≤ i → ((k : ℕ) → k ≢ i → f k ≡ g k) → sum_below f n ≡ sum_below g n
unfolding sum_below
sum_below-past f g i zero le same = refl
sum_below-past f g i (suc n) le same = omega (arith, sum_below-past f g i n (omega arith) same, same n (λ e. omega arith))

-- so much more at the number i, which is below n
sum_below-more : (f g : ℕ → ℕ) (d i n : ℕ) → i < n → f i ≡ g i + d → ((k : ℕ) → k ≢ i → f k ≡ g k) → sum_below f n ≡ sum_below g n + d
unfolding sum_below
sum_below-more f g d i zero lt here else = absurd (omega arith)
sum_below-more f g d i (suc n) lt here else = dite (ℕ_discrete i n)
    (λ e. let last : f n ≡ g n + d = subst (λ (k : ℕ). f k ≡ g k + d) e here in omega (arith, sum_below-past f g i n (omega arith) else, last))
    (λ ne. omega (arith, sum_below-more f g d i n (omega arith) here else, else n (λ e. ne (sym e))))

module _ {M : Type 0} where
  -- each message is one of its sender
  pub length-by_sender : (n : ℕ) (xs : List (Stamped M)) → All (λ x. x.stamp.sender < n) xs → length xs ≡ sum_below (λ s. length (messages_of s xs)) n
  length-by_sender n [] all = sym (sum_below-none (λ s. length (messages_of {M = M} s [])) n (λ k lt. refl))
  length-by_sender n (x ∷ xs) all =
      let here : length (messages_of x.stamp.sender (x ∷ xs)) ≡ length (messages_of x.stamp.sender xs) + 1 =
      ap (λ b. length (map (λ (y : Stamped M). y.message) (cond b (x ∷ stamped_of x.stamp.sender xs) (stamped_of x.stamp.sender xs)))) (eq-eqb x.stamp.sender x.stamp.sender refl) ∙ omega arith in
      let other : (s : ℕ) → s ≢ x.stamp.sender → length (messages_of s (x ∷ xs)) ≡ length (messages_of s xs) =
      λ s ne. ap (λ b. length (map (λ (y : Stamped M). y.message) (cond b (x ∷ stamped_of s xs) (stamped_of s xs)))) (ne_eqb x.stamp.sender s (λ e. ne (sym e))) in
      let below : x.stamp.sender < n = all 0 x (omega arith) in
      omega (
        arith,
        length-by_sender n xs (λ k d lt. all (suc k) d (omega arith)),
        sum_below-more (λ s. length (messages_of s (x ∷ xs))) (λ s. length (messages_of s xs)) 1 x.stamp.sender n below here other,
      )

  -- however messages are weighed, each weighs with its sender
  pub weight-by_sender : (weight : M → ℕ) (n : ℕ) (xs : List (Stamped M)) → All (λ x. x.stamp.sender < n) xs → sum_by (λ x. weight x.message) xs ≡ sum_below (λ s. sum_by weight (messages_of s xs)) n
  weight-by_sender weight n [] all = sym (sum_below-none (λ s. sum_by weight (messages_of {M = M} s [])) n (λ k lt. refl))
  weight-by_sender weight n (x ∷ xs) all =
      let P : List (Stamped M) → List M = map (λ (y : Stamped M). y.message) in
      let here : sum_by weight (messages_of x.stamp.sender (x ∷ xs)) ≡ sum_by weight (messages_of x.stamp.sender xs) + weight x.message =
      ap (λ b. sum_by weight (P (cond b (x ∷ stamped_of x.stamp.sender xs) (stamped_of x.stamp.sender xs)))) (eq-eqb x.stamp.sender x.stamp.sender refl)
      ∙ omega (arith, sum_by-cons weight x.message (messages_of x.stamp.sender xs)) in
      let other : (s : ℕ) → s ≢ x.stamp.sender → sum_by weight (messages_of s (x ∷ xs)) ≡ sum_by weight (messages_of s xs) =
      λ s ne. ap (λ b. sum_by weight (P (cond b (x ∷ stamped_of s xs) (stamped_of s xs)))) (ne_eqb x.stamp.sender s (λ e. ne (sym e))) in
      let below : x.stamp.sender < n = all 0 x (omega arith) in
      omega (
        arith,
        sum_by-cons (λ (y : Stamped M). weight y.message) x xs,
        weight-by_sender weight n xs (λ k d lt. all (suc k) d (omega arith)),
        sum_below-more (λ s. sum_by weight (messages_of s (x ∷ xs))) (λ s. sum_by weight (messages_of s xs)) (weight x.message) x.stamp.sender n below here other,
      )

  -- so at most so many in all
  pub length-few : (n : ℕ) (xs : List (Stamped M)) → n ≤ 64 → All (λ x. x.stamp.sender < n) xs → ((s : ℕ) → length (messages_of s xs) < 2 ^ 32) → length xs ≤ 2 ^ 38
  length-few n xs few all short =
      let each : (s : ℕ) → length (messages_of s xs) ≤ 2 ^ 32 = λ s. let h = short s in omega arith in
      let most = sum_below-le (λ s. length (messages_of s xs)) n (2 ^ 32) each in
      let total = length-by_sender n xs all in
      omega (arith, most, total)

  -- the messages before this place are counted, each for its sender
  pub record CountedTo (before after : List ℕ) (messages : List (Stamped M)) (place : ℕ) : Type 0 where
    pub as_many : length after ≡ length before
    pub counts : (s : ℕ) → s < length before → get_or after s 0 ≡ get_or before s 0 + length (messages_of s (take place messages))

  pub counted_none : (before : List ℕ) (messages : List (Stamped M)) → CountedTo before before messages 0
  counted_none before messages = record { as_many = refl; counts = λ s lt. omega arith }

  pub counted_on : (before after : List ℕ) (messages : List (Stamped M)) (place : ℕ) (x : Stamped M) → CountedTo before after messages place → place < length messages → get_or messages place x ≡ x → x.stamp.sender < length before
      → CountedTo before (set after x.stamp.sender (get_or after x.stamp.sender 0 + 1)) messages (place + 1)
  counted_on before after messages place x c inside at from =
      let i = x.stamp.sender in
      let new = get_or after i 0 + 1 in
      let more : take (place + 1) messages ≡ take place messages ++ x ∷ [] = take_more messages place x inside ∙ ap (λ (y : Stamped M). take place messages ++ y ∷ []) at in
      record {
        as_many = length-set after i new ∙ c.as_many;
        counts = λ s lt. dite (ℕ_discrete s i)
            (λ e.
            let room : i < length after = omega (arith, c.as_many) in
            let here : get_or (set after i new) i 0 ≡ new = rw get_or-set_same in
            let F : ℕ → Type 0 = λ k. get_or (set after i new) k 0 ≡ get_or before k 0 + length (messages_of k (take (place + 1) messages)) in
            subst F (sym e) (omega (arith, here, c.counts i from, ap (λ l. length (messages_of i l)) more, ap length (messages_of-same i (take place messages) x refl), length-append (messages_of i (take place messages)) (x.message ∷ []))))
            (λ ne.
            let else : get_or (set after i new) s 0 ≡ get_or after s 0 = rw get_or-set_other in
            omega (arith, else, c.counts s lt, ap (λ l. length (messages_of s l)) more, ap length (messages_of-other s (take place messages) x (λ e. ne (sym e)))));
      }

  pub counted_all : (before after : List ℕ) (messages : List (Stamped M)) (place : ℕ) → CountedTo before after messages place → length messages ≤ place
      → (s : ℕ) → s < length before → get_or after s 0 ≡ get_or before s 0 + length (messages_of s messages)
  counted_all before after messages place c done s lt = c.counts s lt ∙ ap (λ l. get_or before s 0 + length (messages_of s l)) (take_all place messages done)

  -- a count that is under way is small
  pub counted_small : (before after : List ℕ) (messages : List (Stamped M)) (place s n : ℕ) → CountedTo before after messages place → place ≤ length messages → s < length before → get_or before s 0 + length messages < n → get_or after s 0 < n
  counted_small before after messages place s n c le lt room = omega (arith, c.counts s lt, length-messages_of-le s (take place messages), length-take-le place messages le)
