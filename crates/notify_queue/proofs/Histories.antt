-- Lists of stamped messages, and a history that gets longer by one event.
use Rattle.std.proofs.Common.{◌≡◌, ◌≢◌, ℕ, zero, suc, ◌+◌, ◌≤◌, ◌⊎◌, Bool, not, cond, eqb, List, [], ◌∷◌, ◌++◌, length, map, take, Some, sym, refl, ap, ◌∙◌, subst, inl, inr, ⊎_elim, append_assoc, append-nil, arith}
use Rattle.std.specs.List.{slice_get}
use Rattle.std.proofs.lemmas.Bool.{eq-eqb, ne_eqb}
use Rattle.std.proofs.lemmas.List.{take-append-le, take_all, map-append, length-map, length-append}
use Rattle.std.proofs.lemmas.List.Elements.{filter-append}
use Rattle.std.proofs.lemmas.List.Filters.{length-filter_both}
use mathlib.Core.List.{IsPrefix}
use mathlib.Core.Logic.{dite}
use native.Mathlib.Decide.{dec_le, ℕ_discrete}
use Rattle.notify_queue.specs.declared.stamp.Stamped.{Stamped}
use Rattle.notify_queue.specs.Stamps.{stamped_of, messages_of, IsInOrder}
use Rattle.notify_queue.specs.History.{Event, put, taken, puts, takes, QueueHistory}

pub get-front : {A : Type 0} (xs ys : List A) (k : ℕ) (x : A) → slice_get xs k ≡ Some x → slice_get (xs ++ ys) k ≡ Some x
get-front [] ys k x e = cc
get-front (y ∷ xs) ys zero x e = e
get-front (y ∷ xs) ys (suc k) x e = get-front xs ys k x e

pub get-snoc : {A : Type 0} (xs : List A) (y x : A) (k : ℕ) → slice_get (xs ++ y ∷ []) k ≡ Some x → (slice_get xs k ≡ Some x) ⊎ ((k ≡ length xs) × (y ≡ x))
get-snoc [] y x zero e = inr (refl, cc)
get-snoc [] y x (suc k) e = cc
get-snoc (z ∷ xs) y x zero e = inl e
get-snoc (z ∷ xs) y x (suc k) e = ⊎_elim (λ h. inl h) (λ (h : (k ≡ length xs) × (y ≡ x)). inr (ap suc h.0, h.1)) (get-snoc xs y x k e)

pub prefix_more : {A : Type 0} (xs ys zs : List A) → IsPrefix xs ys → IsPrefix xs (ys ++ zs)
prefix_more xs ys zs p = (p.0 ++ zs, sym (append_assoc xs p.0 zs) ∙ ap (λ l. l ++ zs) p.1)

module _ {M : Type 0} where
  pub puts-append : (h e : List (Event M)) → puts (h ++ e) ≡ puts h ++ puts e
  puts-append [] e = refl
  puts-append (put x ∷ h) e = ap (λ l. x ∷ l) (puts-append h e)
  puts-append (taken x ∷ h) e = puts-append h e

  pub takes-append : (h e : List (Event M)) → takes (h ++ e) ≡ takes h ++ takes e
  takes-append [] e = refl
  takes-append (put x ∷ h) e = takes-append h e
  takes-append (taken x ∷ h) e = ap (λ l. x ∷ l) (takes-append h e)

  pub stamped_of-append : (s : ℕ) (xs ys : List (Stamped M)) → stamped_of s (xs ++ ys) ≡ stamped_of s xs ++ stamped_of s ys
  stamped_of-append s xs ys = filter-append (λ (x : Stamped M). eqb x.stamp.sender s) xs ys

  pub messages_of-append : (s : ℕ) (xs ys : List (Stamped M)) → messages_of s (xs ++ ys) ≡ messages_of s xs ++ messages_of s ys
  messages_of-append s xs ys = ap (map (λ (x : Stamped M). x.message)) (stamped_of-append s xs ys) ∙ map-append (λ (x : Stamped M). x.message) (stamped_of s xs) (stamped_of s ys)

  pub length-messages_of : (s : ℕ) (xs : List (Stamped M)) → length (messages_of s xs) ≡ length (stamped_of s xs)
  length-messages_of s xs = length-map (stamped_of s xs) (λ (x : Stamped M). x.message)

  -- one message more, of this sender or of another
  pub stamped_of-same : (s : ℕ) (x : Stamped M) → x.stamp.sender ≡ s → stamped_of s (x ∷ []) ≡ x ∷ []
  stamped_of-same s x e = ap (λ b. cond b (x ∷ []) []) (eq-eqb x.stamp.sender s e)

  pub stamped_of-other : (s : ℕ) (x : Stamped M) → x.stamp.sender ≢ s → stamped_of s (x ∷ []) ≡ []
  stamped_of-other s x ne = ap (λ b. cond b (x ∷ []) []) (ne_eqb x.stamp.sender s ne)

  pub messages_of-same : (s : ℕ) (xs : List (Stamped M)) (x : Stamped M) → x.stamp.sender ≡ s → messages_of s (xs ++ x ∷ []) ≡ messages_of s xs ++ x.message ∷ []
  messages_of-same s xs x e = messages_of-append s xs (x ∷ []) ∙ ap (λ l. messages_of s xs ++ map (λ (y : Stamped M). y.message) l) (stamped_of-same s x e)

  pub messages_of-other : (s : ℕ) (xs : List (Stamped M)) (x : Stamped M) → x.stamp.sender ≢ s → messages_of s (xs ++ x ∷ []) ≡ messages_of s xs
  messages_of-other s xs x ne = messages_of-append s xs (x ∷ []) ∙ ap (λ l. messages_of s xs ++ map (λ (y : Stamped M). y.message) l) (stamped_of-other s x ne) ∙ append-nil (messages_of s xs)

  pub in_order_front : (xs ys : List (Stamped M)) → IsInOrder (xs ++ ys) → IsInOrder xs
  in_order_front xs ys o = record {
    index_is = λ s k x e. o.index_is s k x (rw (stamped_of-append s xs ys) (get-front (stamped_of s xs) (stamped_of s ys) k x e));
  }

  pub in_order_more : (xs : List (Stamped M)) (x : Stamped M) → IsInOrder xs → x.stamp.index ≡ length (messages_of x.stamp.sender xs) → IsInOrder (xs ++ x ∷ [])
  in_order_more xs x o at = record {
    index_is = λ s k y e. dite (ℕ_discrete x.stamp.sender s)
        (λ same.
        let got : slice_get (stamped_of s xs ++ x ∷ []) k ≡ Some y = rw (← stamped_of-same s x same, ← stamped_of-append s xs (x ∷ [])) e in
        ⊎_elim (λ old. o.index_is s k y old)
        (λ (new : (k ≡ length (stamped_of s xs)) × (x ≡ y)). ap (λ (z : Stamped M). z.stamp.index) (sym new.1) ∙ at ∙ ap (λ n. length (messages_of n xs)) same ∙ length-messages_of s xs ∙ sym new.0)
        (get-snoc (stamped_of s xs) x y k got))
        (λ other.
        let got : slice_get (stamped_of s xs) k ≡ Some y = rw (← append-nil (stamped_of s xs), ← stamped_of-other s x other, ← stamped_of-append s xs (x ∷ [])) e in
        o.index_is s k y got);
  }

  -- up to the last event nothing is new
  moments : (h : List (Event M)) (e : Event M) → ((n : ℕ) → IsPrefix (takes (take n h)) (puts (take n h))) → IsPrefix (takes (h ++ e ∷ [])) (puts (h ++ e ∷ []))
      → (n : ℕ) → IsPrefix (takes (take n (h ++ e ∷ []))) (puts (take n (h ++ e ∷ [])))
  moments h e before last n = dite (dec_le n (length h))
      (λ le. let f = take-append-le n h (e ∷ []) le in rw f (before n))
      (λ gt. let f = take_all n (h ++ e ∷ []) (omega (arith, length-append h (e ∷ []), gt)) in rw f last)

  whole : (h : List (Event M)) → ((n : ℕ) → IsPrefix (takes (take n h)) (puts (take n h))) → IsPrefix (takes h) (puts h)
  whole h all = let f = take_all (length h) h (omega arith) in rw f at (all (length h))

  pub lawful_put : (h : List (Event M)) (x : Stamped M) → QueueHistory h → x.stamp.index ≡ length (messages_of x.stamp.sender (puts h)) → QueueHistory (h ++ put x ∷ [])
  lawful_put h x q at = record {
    in_order = rw (puts-append h (put x ∷ [])) (in_order_more (puts h) x q.in_order at);
    oldest_first = moments h (put x) q.oldest_first
        (rw (puts-append h (put x ∷ []), takes-append h (put x ∷ []), append-nil) (prefix_more (takes h) (puts h) (x ∷ []) (whole h q.oldest_first)));
  }

  pub lawful_take : (h : List (Event M)) (x : Stamped M) (items : List (Stamped M)) → QueueHistory h → puts h ≡ takes h ++ x ∷ items → QueueHistory (h ++ taken x ∷ [])
  lawful_take h x items q held = record {
    in_order = rw (puts-append h (taken x ∷ []), append-nil) q.in_order;
    oldest_first = moments h (taken x) q.oldest_first
        (rw (puts-append h (taken x ∷ []), takes-append h (taken x ∷ []), append-nil) (items, append_assoc (takes h) (x ∷ []) items ∙ sym held));
  }

  pub puts-taken : (xs : List (Stamped M)) → puts (map taken xs) ≡ []
  puts-taken [] = refl
  puts-taken (x ∷ xs) = puts-taken xs

  pub takes-taken : (xs : List (Stamped M)) → takes (map taken xs) ≡ xs
  takes-taken [] = refl
  takes-taken (x ∷ xs) = ap (λ l. x ∷ l) (takes-taken xs)

  pub lawful_takes : (h : List (Event M)) (xs items : List (Stamped M)) → QueueHistory h → puts h ≡ takes h ++ (xs ++ items) → QueueHistory (h ++ map taken xs)
  lawful_takes h [] items q held = rw append-nil q
  lawful_takes h (x ∷ xs) items q held =
      let more : List (Event M) = h ++ taken x ∷ [] in
      let now : puts more ≡ takes more ++ (xs ++ items) = puts-append h (taken x ∷ []) ∙ append-nil (puts h) ∙ held ∙ sym (append_assoc (takes h) (x ∷ []) (xs ++ items)) ∙ ap (λ l. l ++ (xs ++ items)) (sym (takes-append h (taken x ∷ []))) in
      subst (λ (l : List (Event M)). QueueHistory l) (append_assoc h (taken x ∷ []) (map taken xs)) (lawful_takes more xs items (lawful_take h x (xs ++ items) q held) now)

  pub length-messages_of-le : (s : ℕ) (xs : List (Stamped M)) → length (messages_of s xs) ≤ length xs
  length-messages_of-le s xs =
      let p : Stamped M → Bool = λ x. eqb x.stamp.sender s in
      omega (arith, length-messages_of s xs, length-filter_both p (λ x. not (p x)) (λ x. refl) xs)
