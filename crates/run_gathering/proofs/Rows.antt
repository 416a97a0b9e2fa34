-- What a table awaits, as queries are put into it and parts are brought.
use Rattle.std.proofs.Common.{◌≡◌, ℕ, zero, suc, ◌<◌, ◌≤◌, true, false, List, [], ◌∷◌, All, map, length, get_or, set, replicate, refl, sym, ap, ◌∙◌, subst, Option, Some, None, arith}
use Rattle.std.specs.Prelude.{IfSome, Result, Ok, Err}
use Rattle.std.proofs.lemmas.List.{get_or-map, get_or_past, length-map, length-replicate, map-set}
use Rattle.std.proofs.lemmas.List.Elements.{All-cons, All-get_or, All-head, All-nil, All-tail}
use Rattle.fan_base.specs.declared.outcome.Try.{Try}
use Rattle.collect_ops.specs.Bringing.{CompletesOwned, KeepsOwned, ReturnsOwned}
use Rattle.collect_ops.specs.Answers.{KeptBy}
use Rattle.collect_ops.specs.Seen.{DeskId, OwnedSeen, ReceiptSeen}
use Rattle.fan_parts.specs.Seen.{EndSeen, PartSeen}
use Rattle.run_gathering.specs.declared.table.Awaited.{Awaited}
use Rattle.run_gathering.specs.declared.table.Awaited.TheVariants as awaited
use Rattle.run_gathering.specs.Awaited.{AwaitedSeen, Awaits, IsAwaited, IsOfQuery, IsRow, TableSeen, all_awaited, awaited_at, awaited_in, place_of, with_at, without_shard}
use Rattle.run_gathering.specs.Bringing.{AwaitsNone, CompletesQuery, IsDeskTaken, IsTaken, KeepsPart, RefusesQuery, TakesDesk, TakesEnd, TakesOf, WasAwaited}

module _ {N : Type 0} where
  row_awaited : (w : ℕ) (it : Awaited N) (a : AwaitedSeen) → IsRow w it → awaited_in w it ≡ Some a → IsAwaited w a
  row_awaited w awaited.Nothing a row is = absurd cc
  row_awaited w (awaited.All end) a row is =
      let same : all_awaited w end ≡ a = cc in
      subst (λ (x : AwaitedSeen). IsAwaited w x) same (record { as_many = length-replicate w true; end = end; end_is = refl; number_is = refl })
  row_awaited w (awaited.Rest number desk) a row is =
      let same : record { number = number; end = desk.desk.end; shards = desk.awaited } ≡ a = cc in
      subst (λ (x : AwaitedSeen). IsAwaited w x) same row.1

  row_at : (w : ℕ) (items : List (Awaited N)) (place : ℕ) (a : AwaitedSeen) → All (IsRow w) items → get_or (map (awaited_in w) items) place None ≡ Some a → IsAwaited w a
  row_at w [] place a all is = absurd cc
  row_at w (it ∷ items) zero a all is = row_awaited w it a (All-head (IsRow w) it items all) is
  row_at w (it ∷ items) (suc place) a all is = row_at w items place a (All-tail (IsRow w) it items all) is

  -- the table with this at a place
  pub set_row : (old : TableSeen) (items : List (Awaited N)) (bases w place number : ℕ) (it given : Awaited N) → record { queries = map (awaited_in w) items; bases = bases; shards = w } ≡ old
      → place ≡ place_of old number → it ≡ given
      → record { queries = map (awaited_in w) (set items place it); bases = bases; shards = w } ≡ with_at (place_of old number) (awaited_in old.shards given) old
  set_row old items bases w place number it given seen at same =
      (λ i. record { queries = (map-set (awaited_in w) items place it ∙ ap (λ (x : Awaited N). set (map (awaited_in w) items) place (awaited_in w x)) same) i; bases = bases; shards = w })
      ∙ (ap (λ (p : ℕ). record { queries = set (map (awaited_in w) items) p (awaited_in w given); bases = bases; shards = w }) at
      ∙ ap (λ (t : TableSeen). with_at (place_of old number) (awaited_in t.shards given) t) seen)

  -- what stands at a place is taken
  pub taken_row : (old : TableSeen) (items : List (Awaited N)) (bases w place number : ℕ) (it none : Awaited N) → record { queries = map (awaited_in w) items; bases = bases; shards = w } ≡ old
      → All (IsRow w) items → place ≡ place_of old number → place < length items → it ≡ get_or items place it → IsOfQuery number it → none ≡ awaited.Nothing
      → IsTaken number old it (record { queries = map (awaited_in w) (set items place none); bases = bases; shards = w })
  taken_row old items bases w place number it none seen all at within here of gone = by it takes
    where
      new : TableSeen
      new = record { queries = map (awaited_in w) (set items place none); bases = bases; shards = w }

      stood : awaited_at old (place_of old number) ≡ awaited_in old.shards it
      stood = sym (ap (λ (t : TableSeen). awaited_at t (place_of old number)) seen)
          ∙ (ap (λ (p : ℕ). get_or (map (awaited_in w) items) p None) (sym at)
          ∙ (get_or-map (awaited_in w) items place it None within ∙ (ap (awaited_in w) (sym here) ∙ ap (λ (t : TableSeen). awaited_in t.shards it) seen)))

      row : IsRow w it
      row = subst (IsRow w) (sym here) (All-get_or (IsRow w) items place it within all)

      takes : TakesOf {N = N} number old it new
      takes = record {
        stood = stood;
        row = subst (λ (t : TableSeen). IsRow t.shards it) seen row;
        of = of;
        place = omega (arith, at, within, ap (λ (t : TableSeen). length t.queries) seen, length-map items (awaited_in w));
        left = set_row old items bases w place number none awaited.Nothing seen at gone;
      }

      by : (x : Awaited N) → TakesOf {N = N} number old x new → IsTaken number old x new
      by awaited.Nothing t = absurd t.of
      by (awaited.All end) t = t
      by (awaited.Rest of desk) t = t

  -- no part of a shard that isn't there is awaited
  pub no_shard : (old : TableSeen) (items : List (Awaited N)) (bases w number shard : ℕ) → record { queries = map (awaited_in w) items; bases = bases; shards = w } ≡ old
      → All (IsRow w) items → w ≤ shard → AwaitsNone number shard old old
  no_shard old items bases w number shard seen all past = record { lacks = by (awaited_at old (place_of old number)) refl; same = refl }
    where
      by : (o : Option AwaitedSeen) → awaited_at old (place_of old number) ≡ o → IfSome o (λ a. Awaits number shard a → ⊥)
      by None is = tt
      by (Some a) is = λ awaits.
          let row = row_at w items (place_of old number) a all (ap (λ (t : TableSeen). awaited_at t (place_of old number)) seen ∙ is) in
          let none : get_or a.shards shard false ≡ false = get_or_past a.shards shard false (omega (arith, row.as_many, past)) in
          let clash : true ≡ false = sym awaits.1 ∙ none in absurd cc

-- the part of a shard of a query, all of whose parts are awaited
pub refuses : (number shard : ℕ) (old new : TableSeen) (end : EndSeen) → TakesEnd number old end new → shard < old.shards → RefusesQuery number shard old new end
refuses number shard old new end taken within = record {
  was = record { awaited = all_awaited old.shards end; stood = taken.stood; awaits = (taken.of, all_true old.shards shard within); left = taken.left };
  all = refl;
  end_is = refl;
}
  where
    all_true : (n k : ℕ) → k < n → get_or (replicate n true) k false ≡ true
    all_true zero k less = absurd (omega (arith, less))
    all_true (suc n) zero less = refl
    all_true (suc n) (suc k) less = all_true n k (omega (arith, less))

-- the part was the last one
pub completes : (number shard : ℕ) (old new : TableSeen) (desk : OwnedSeen EndSeen) (outcome : Try PartSeen) (parts : List (Try PartSeen)) (end : EndSeen) → TakesDesk number old desk new
    → CompletesOwned desk shard outcome parts end → CompletesQuery number shard outcome old new parts end
completes number shard old new desk outcome parts end taken done = record {
  was = record {
    awaited = taken.awaited;
    stood = taken.stood;
    awaits = (ap (λ (a : AwaitedSeen). a.number) taken.is, ap (λ (a : AwaitedSeen). get_or a.shards shard false) taken.is ∙ done.awaited);
    left = taken.left;
  };
  end_is = ap (λ (a : AwaitedSeen). a.end) taken.is ∙ done.end_is;
  as_many = done.long ∙ taken.size;
  own = done.own;
}

-- what is awaited at a place is put back, seen as it was or with a shard less
put_back : (number : ℕ) (old mid new : TableSeen) (desk : OwnedSeen EndSeen) (w : ℕ) (a : Option AwaitedSeen) → TakesDesk number old desk mid
    → new ≡ with_at (place_of mid number) a mid → new ≡ with_at (place_of old number) a old
put_back number old mid new desk w a taken put =
    put ∙ (ap (λ (t : TableSeen). with_at (place_of t number) a t) taken.left
    ∙ (λ i. record { queries = set_twice old.queries (place_of old number) None a i; bases = old.bases; shards = old.shards }))
  where
    set_twice : (xs : List (Option AwaitedSeen)) (k : ℕ) (x y : Option AwaitedSeen) → set (set xs k x) k y ≡ set xs k y
    set_twice [] k x y = refl
    set_twice (z ∷ xs) zero x y = refl
    set_twice (z ∷ xs) (suc k) x y = ap (λ (l : List (Option AwaitedSeen)). z ∷ l) (set_twice xs k x y)

-- the part is kept
pub keeps : (number shard : ℕ) (old mid new : TableSeen) (desk left : OwnedSeen EndSeen) (a : Option AwaitedSeen) (outcome : Try PartSeen) (receipt : ReceiptSeen (Try PartSeen) EndSeen)
    → TakesDesk number old desk mid → KeepsOwned desk shard outcome left receipt
    → a ≡ Some (record { number = number; end = left.desk.end; shards = left.awaited }) → new ≡ with_at (place_of mid number) a mid
    → KeepsPart number shard outcome old new receipt
keeps number shard old mid new desk left a outcome receipt taken kept is put = record {
  was = record {
    awaited = taken.awaited;
    stood = taken.stood;
    awaits = (ap (λ (x : AwaitedSeen). x.number) taken.is, ap (λ (x : AwaitedSeen). get_or x.shards shard false) taken.is ∙ kept.awaited);
    left = put_back number old mid new desk 0 a taken put
        ∙ ap (λ (o : Option AwaitedSeen). with_at (place_of old number) o old)
        (is ∙ (ap (λ (d : OwnedSeen EndSeen). Some (record { number = number; end = d.desk.end; shards = d.awaited })) kept.left ∙ ap (λ (x : AwaitedSeen). Some (without_shard shard x)) (sym taken.is)));
  };
  at_end = ap (λ (r : ReceiptSeen (Try PartSeen) EndSeen). r.desk.end) kept.kept.is ∙ ap (λ (x : AwaitedSeen). x.end) (sym taken.is);
  kept = subst (λ (d : DeskId EndSeen). KeptBy (record { desk = d; index = shard }) outcome receipt) (ap (λ (r : ReceiptSeen (Try PartSeen) EndSeen). r.desk) (sym kept.kept.is)) kept.kept;
}

-- the part had come before
pub returned : (number shard : ℕ) (old mid new : TableSeen) (desk back : OwnedSeen EndSeen) (outcome given : Try PartSeen) (a : Option AwaitedSeen) → TakesDesk number old desk mid
    → ReturnsOwned desk shard outcome back given → a ≡ Some (record { number = number; end = back.desk.end; shards = back.awaited }) → new ≡ with_at (place_of mid number) a mid
    → AwaitsNone number shard old new
returned number shard old mid new desk back outcome given a taken came is put = record {
  lacks = subst (λ (o : Option AwaitedSeen). IfSome o (λ x. Awaits number shard x → ⊥)) (sym taken.stood) (λ awaits.
      let none : true ≡ false = sym awaits.1 ∙ (ap (λ (x : AwaitedSeen). get_or x.shards shard false) taken.is ∙ came.came) in absurd cc);
  same = put_back number old mid new desk 0 a taken put
      ∙ (ap (λ (o : Option AwaitedSeen). with_at (place_of old number) o old)
      (is ∙ (ap (λ (d : OwnedSeen EndSeen). Some (record { number = number; end = d.desk.end; shards = d.awaited })) came.same ∙ (ap Some (sym taken.is) ∙ sym taken.stood)))
      ∙ (λ i. record { queries = set_same old.queries (place_of old number) i; bases = old.bases; shards = old.shards }));
}
  where
    set_same : (xs : List (Option AwaitedSeen)) (k : ℕ) → set xs k (get_or xs k None) ≡ xs
    set_same [] k = refl
    set_same (x ∷ xs) zero = refl
    set_same (x ∷ xs) (suc k) = ap (λ (l : List (Option AwaitedSeen)). x ∷ l) (set_same xs k)

-- what is read at a place twice is the same
pub same_read : {X : Type 0} (xs : List X) (k : ℕ) (x y : X) → k < length xs → x ≡ get_or xs k x → y ≡ get_or xs k y → x ≡ y
same_read [] k x y within first second = absurd (omega (arith, within))
same_read (z ∷ xs) zero x y within first second = first ∙ sym second
same_read (z ∷ xs) (suc k) x y within first second = same_read xs k x y (omega (arith, within)) first second

pub desk_taken : (number : ℕ) (old new : TableSeen) (r : Result (OwnedSeen EndSeen) EndSeen) (desk : OwnedSeen EndSeen) → r ≡ Ok desk → IsDeskTaken number old (Some r) new → TakesDesk number old desk new
desk_taken number old new r desk is taken = subst (λ (x : Result (OwnedSeen EndSeen) EndSeen). IsDeskTaken number old (Some x) new) is taken

pub end_taken : (number : ℕ) (old new : TableSeen) (r : Result (OwnedSeen EndSeen) EndSeen) (end : EndSeen) → r ≡ Err end → IsDeskTaken number old (Some r) new → TakesEnd number old end new
end_taken number old new r end is taken = subst (λ (x : Result (OwnedSeen EndSeen) EndSeen). IsDeskTaken number old (Some x) new) is taken

-- a new table awaits nothing
pub none_awaited : {N : Type 0} (w : ℕ) (items : List (Awaited N)) → All (λ it. it ≡ awaited.Nothing) items → All (λ a. a ≡ None) (map (awaited_in w) items)
none_awaited w [] all = All-nil (λ a. a ≡ None)
none_awaited w (it ∷ items) all =
    All-cons (λ a. a ≡ None) (awaited_in w it) (map (awaited_in w) items) (ap (awaited_in w) (All-head (λ x. x ≡ awaited.Nothing) it items all)) (none_awaited w items (All-tail (λ x. x ≡ awaited.Nothing) it items all))
