-- Passes are put to gathered ones, from the last queue to the first.
use Rattle.std.proofs.Common.{◌≡◌, ℕ, zero, suc, List, [], ◌∷◌, ◌++◌, length, map, reverse, set, get_or, Option, Some, refl, sym, ap, ◌∙◌, subst, arith}
use Rattle.std.specs.Prelude.{slice_get, unwrap_or}
use Rattle.std.specs.declared.alloc.Global.{Global}
use Rattle.std.proofs.lemmas.List.{reverse-append}
use Rattle.crossbeam_queue.specs.SegTies.{SegId}
use Rattle.task_queue.specs.Seen.{AdderSeen, GatheredSeen}
use Rattle.prio_pool.specs.Gathering.{each_with, behind_with, only_adder, HasGathered, ChangedAt}
use Rattle.std.proofs.lemmas.Option.{get_or_from_slice_get}

module _ {G X : Type 0} (f : G → X → G) where
  -- one more, in front of the others
  pub one_more : (k : ℕ) (gs : List G) (xs : List X) (g : G) (x : X) → slice_get gs k ≡ Some g → set (behind_with f (suc k) gs xs) k (f g x) ≡ behind_with f k gs (x ∷ xs)
  one_more k [] xs g x at = cc
  one_more zero (h ∷ gs) xs g x at = let is : h ≡ g = ap (λ (o : Option G). unwrap_or o h) at in ap (λ (y : G). f y x ∷ each_with f gs xs) (sym is)
  one_more (suc k) (h ∷ gs) xs g x at = ap (λ (l : List G). h ∷ l) (one_more k gs xs g x at)

  -- the first ones are as they were
  pub still_there : (k : ℕ) (gs : List G) (xs : List X) → slice_get (behind_with f (suc k) gs xs) k ≡ slice_get gs k
  still_there k [] xs = refl
  still_there zero (g ∷ gs) xs = refl
  still_there (suc k) (g ∷ gs) xs = still_there k gs xs

  -- at first nothing has changed
  pub none_yet : (k : ℕ) (gs : List G) → k ≡ length gs → behind_with f k gs [] ≡ gs
  none_yet zero [] is = refl
  none_yet zero (g ∷ gs) is = absurd (omega (arith, is))
  none_yet (suc k) [] is = absurd (omega (arith, is))
  none_yet (suc k) (g ∷ gs) is = ap (λ (l : List G). g ∷ l) (none_yet k gs (omega (arith, is)))

-- the one in the middle
pub middle : {X Y : Type 0} (f : X → Y) (xs : List X) (x : X) (ys : List X) → slice_get (map f (xs ++ x ∷ ys)) (length xs) ≡ Some (f x)
middle f [] x ys = refl
middle f (z ∷ zs) x ys = middle f zs x ys

pub has_gathered : (gs : List GatheredSeen) (k : ℕ) (queue : SegId Global) → slice_get (map (λ (g : GatheredSeen). g.queue) gs) k ≡ Some queue → HasGathered gs k queue
has_gathered [] k queue at = cc
has_gathered (g ∷ gs) zero queue at = record { one = g; at = refl; of_queue = ap (λ (o : Option (SegId Global)). unwrap_or o g.queue) at }
has_gathered (g ∷ gs) (suc k) queue at = let h = has_gathered gs k queue at in record { one = h.one; at = h.at; of_queue = h.of_queue }

-- what was found at its place is of its queue, and was changed there
module _ (old : List GatheredSeen) (k : ℕ) (queue : SegId Global) (h : HasGathered old k queue) (found : GatheredSeen) (is : found ≡ get_or old k found) where
  pub found_queue : found.queue ≡ queue
  found_queue = ap (λ (g : GatheredSeen). g.queue) (is ∙ get_or_from_slice_get old k h.one found h.at) ∙ h.of_queue

  pub found_changed : (f : GatheredSeen → GatheredSeen) (new : GatheredSeen) → new ≡ f found → ChangedAt f old k (set old k new)
  found_changed f new made = record { one = h.one; at = h.at; new_is = ap (set old k) (made ∙ ap f (is ∙ get_or_from_slice_get old k h.one found h.at)) }

-- the queue at this place is this one
pub same_queue : (qs : List (SegId Global)) (k : ℕ) (a q : SegId Global) → slice_get qs k ≡ Some a → q ≡ get_or qs k q → a ≡ q
same_queue [] k a q at is = cc
same_queue (x ∷ xs) zero a q at is = sym (ap (λ (o : Option (SegId Global)). unwrap_or o x) at) ∙ sym is
same_queue (x ∷ xs) (suc k) a q at is = same_queue xs k a q at is

pub queues_of_only : (adders : List AdderSeen) → map (λ (g : GatheredSeen). g.queue) (map only_adder adders) ≡ map (λ (a : AdderSeen). a.queue) adders
queues_of_only [] = refl
queues_of_only (a ∷ rest) = ap (λ (l : List (SegId Global)). a.queue ∷ l) (queues_of_only rest)

-- the last of some adders is the next of them turned round
pub next_only : (adders more : List AdderSeen) (a : AdderSeen) → adders ≡ more ++ a ∷ [] → map only_adder (reverse adders) ≡ only_adder a ∷ map only_adder (reverse more)
next_only adders more a is = ap (λ (l : List AdderSeen). map only_adder (reverse l)) is ∙ ap (map only_adder) (reverse-append more (a ∷ []))

-- the queue of the next adder
pub next_queue : (qs : List (SegId Global)) (all adders more : List AdderSeen) (a : AdderSeen) (gathered : List GatheredSeen) (q : SegId Global) → map (λ (x : AdderSeen). x.queue) all ≡ qs
    → gathered ++ map only_adder (reverse adders) ≡ map only_adder all → adders ≡ more ++ a ∷ [] → q ≡ get_or qs (length gathered) q → a.queue ≡ q
next_queue qs all adders more a gathered q queues whole is at =
    let list : gathered ++ only_adder a ∷ map only_adder (reverse more) ≡ map only_adder all = ap (λ (l : List GatheredSeen). gathered ++ l) (sym (next_only adders more a is)) ∙ whole in
    let seen : map (λ (g : GatheredSeen). g.queue) (gathered ++ only_adder a ∷ map only_adder (reverse more)) ≡ qs = ap (map (λ (g : GatheredSeen). g.queue)) list ∙ (queues_of_only all ∙ queues) in
    same_queue qs (length gathered) a.queue q (subst (λ (l : List (SegId Global)). slice_get l (length gathered) ≡ Some a.queue) seen (middle (λ (g : GatheredSeen). g.queue) gathered (only_adder a) (map only_adder (reverse more)))) at
