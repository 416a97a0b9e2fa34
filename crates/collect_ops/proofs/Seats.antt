-- The seats of an owned desk, as outcomes are brought to it.
use Rattle.std.proofs.Common.{◌≡◌, ◌≢◌, ◌⊎◌, inl, inr, ⊎_elim, ℕ, zero, suc, ◌+◌, ◌<◌, true, false, Bool, List, [], ◌∷◌, ◌++◌, map, length, get_or, set, replicate, refl, sym, ap, ◌∙◌, subst, Option, Some, None, slice_get, arith, length-set}
use Rattle.std.proofs.lemmas.List.{get_or-set_other, get_or-set_same, length-append, map-append, map-set, replicate_more}
use Rattle.std.proofs.lemmas.Option.{get_or_from_slice_get, slice_get-map, slice_get_read, slice_get_within, slice_get-get_or}
use Rattle.std.specs.Prelude.{is_some, option_map}
use mathlib.Core.Logic.{dite}
use native.Mathlib.Decide.{ℕ_discrete}
use Rattle.atomic_table.specs.Seated.{TableId}
use Rattle.atomic_table.specs.declared.shared.Seat.{Seat}
use Rattle.collect_ops.specs.declared.view.Phase.TheVariants as phase
use Rattle.collect_ops.specs.declared.view.View.{View}
use Rattle.collect_ops.specs.declared.view.View.TheVariants as view
use Rattle.collect_ops.specs.Bringing.{KeepsOwned, awaits}
use Rattle.collect_ops.specs.Owned.{HasArrivals, IsAwaited, owned_in}
use Rattle.collect_ops.specs.Rule.{Held}
use Rattle.collect_ops.specs.Answers.{KeptBy}
use Rattle.collect_ops.specs.Seen.{DeskId, OwnedSeen, ReceiptSeen}
use Rattle.collect_ops.specs.Steps.{IsDealer, IsReady, Sits, Standing, at}
use Rattle.collect_ops.specs.Views.{desk_in}

-- an element of a list with one more at its end is one of the list, or that one
pushed_at : {A : Type 0} (xs : List A) (y : A) (k : ℕ) (x : A) → slice_get (xs ++ y ∷ []) k ≡ Some x → (slice_get xs k ≡ Some x) ⊎ ((k ≡ length xs) × (x ≡ y))
pushed_at [] y zero x e = let same : y ≡ x = cc in inr (refl, sym same)
pushed_at [] y (suc k) x e = absurd cc
pushed_at (z ∷ xs) y zero x e = inl e
pushed_at (z ∷ xs) y (suc k) x e = ⊎_elim (λ old. inl old) (λ last. inr (ap suc last.0, last.1)) (pushed_at xs y k x e)

module _ {X E : Type 0} where
  -- what stands at a place of the list
  pub stands : (items : List (Option (Seat (Held X E) (View X E)))) (index : ℕ) (here : Option (Seat (Held X E) (View X E))) (seat : Seat (Held X E) (View X E)) → index < length items
      → here ≡ get_or items index here → here ≡ Some seat → slice_get items index ≡ Some (Some seat)
  stands items index here seat within value some = slice_get_read items (length items) index here refl within value ∙ ap Some some

  -- the arrivals without this one
  pub without : (desk : DeskId E) (items : List (Option (Seat (Held X E) (View X E)))) (index : ℕ) (none : Option (Seat (Held X E) (View X E))) → HasArrivals desk items → none ≡ None → HasArrivals desk (set items index none)
  without desk items index none has is = record {
    as_many = length-set items index none ∙ has.as_many;
    each = λ j seat there. dite (ℕ_discrete j index)
        (λ (e : j ≡ index).
        let within : j < length (set items index none) = slice_get_within (set items index none) j (Some seat) there in
        let here : get_or (set items index none) index None ≡ none = get_or-set_same items index none None (omega (arith, within, e, length-set items index none)) in
        let read : get_or (set items index none) j None ≡ Some seat = get_or_from_slice_get (set items index none) j (Some seat) None there in
        let clash : None ≡ Some seat = sym is ∙ (sym here ∙ (ap (λ (k : ℕ). get_or (set items index none) k None) (sym e) ∙ read)) in absurd cc)
        (λ (d : j ≢ index).
        let within : j < length items = omega (arith, slice_get_within (set items index none) j (Some seat) there, length-set items index none) in
        let read : get_or (set items index none) j None ≡ Some seat = get_or_from_slice_get (set items index none) j (Some seat) None there in
        has.each j seat (slice_get-get_or items j None within ∙ ap Some (sym (get_or-set_other items index j none None d) ∙ read)));
  }

  -- an outcome was awaited where its arrival stands
  pub was_awaited : (desk : DeskId E) (items : List (Option (Seat (Held X E) (View X E)))) (index : ℕ) (seat : Seat (Held X E) (View X E)) → slice_get items index ≡ Some (Some seat)
      → awaits (owned_in desk items) index ≡ true
  was_awaited desk items index seat there =
      get_or_from_slice_get (map is_some items) index true false (slice_get-map is_some items index ∙ ap (λ (o : Option (Option (Seat (Held X E) (View X E)))). option_map is_some o) there)

  pub not_awaited : (desk : DeskId E) (items : List (Option (Seat (Held X E) (View X E)))) (index : ℕ) → slice_get items index ≡ Some None → awaits (owned_in desk items) index ≡ false
  not_awaited desk items index there =
      get_or_from_slice_get (map is_some items) index false false (slice_get-map is_some items index ∙ ap (λ (o : Option (Option (Seat (Held X E) (View X E)))). option_map is_some o) there)

  pub keeps : (desk : DeskId E) (items : List (Option (Seat (Held X E) (View X E)))) (index : ℕ) (seat : Seat (Held X E) (View X E)) (none : Option (Seat (Held X E) (View X E))) (old new : OwnedSeen E) (outcome : X) (receipt : ReceiptSeen X E)
      → old ≡ owned_in desk items → new ≡ owned_in desk (set items index none) → slice_get items index ≡ Some (Some seat) → none ≡ None → KeptBy (record { desk = desk; index = index }) outcome receipt
      → KeepsOwned old index outcome new receipt
  keeps desk items index seat none old new outcome receipt old_is new_is there is kept = record {
    awaited = ap (λ (o : OwnedSeen E). awaits o index) old_is ∙ was_awaited desk items index seat there;
    kept = subst (λ (d : DeskId E). KeptBy (record { desk = d; index = index }) outcome receipt) (ap (λ (o : OwnedSeen E). o.desk) (sym old_is)) kept;
    left = new_is ∙ ((λ i. record { desk = desk; awaited = (map-set is_some items index none ∙ ap (λ (o : Option (Seat (Held X E) (View X E))). set (map is_some items) index (is_some o)) is) i })
        ∙ ap (λ (o : OwnedSeen E). record { desk = o.desk; awaited = set o.awaited index false }) (sym old_is));
  }

  -- so many arrivals were dealt by the seat that deals, which was this one at first
  pub record DealtOut (size : ℕ) (table : TableId) (first seat : Seat (Held X E) (View X E)) (index : ℕ) (items : List (Option (Seat (Held X E) (View X E)))) : Type 0 where
    pub dealer : IsDealer size index table seat
    pub same : desk_in table seat.me.0 ≡ desk_in table first.me.0
    pub as_many : length items ≡ index
    pub each : (k : ℕ) (s : Seat (Held X E) (View X E)) → slice_get items k ≡ Some (Some s) → IsAwaited (desk_in table first.me.0) k s
    pub all : map is_some items ≡ replicate index true

  pub dealt_none : (size : ℕ) (table : TableId) (first : Seat (Held X E) (View X E)) (items : List (Option (Seat (Held X E) (View X E)))) → IsDealer size 0 table first → items ≡ []
      → DealtOut size table first first 0 items
  dealt_none size table first items dealer none = record {
    dealer = dealer;
    same = refl;
    as_many = ap length none;
    each = λ k s there. let clash : None ≡ Some (Some s) = sym (ap (λ (l : List (Option (Seat (Held X E) (View X E)))). slice_get l k) none) ∙ there in absurd cc;
    all = ap (λ (l : List (Option (Seat (Held X E) (View X E)))). map is_some l) none;
  }

  pub dealt_one : (size : ℕ) (table : TableId) (first seat next arrival : Seat (Held X E) (View X E)) (index : ℕ) (items more : List (Option (Seat (Held X E) (View X E))))
      → (so : DealtOut size table first seat index items)
      → Sits table next (view.Dealing size so.dealer.ending (index + 1), []) → Sits table arrival (at size so.dealer.ending index phase.Ready)
      → more ≡ items ++ Some arrival ∷ [] → DealtOut size table first next (index + 1) more
  dealt_one size table first seat next arrival index items more so deals ready pushed =
      let r = so.dealer.ending in
      let whole : desk_in table (view.Dealing size r index) ≡ desk_in table first.me.0 = sym (ap (λ (m : Standing X E). desk_in table m.0) so.dealer.sits.stands) ∙ so.same in
      let own : desk_in table arrival.me.0 ≡ desk_in table first.me.0 = ap (λ (m : Standing X E). desk_in table m.0) ready.stands ∙ whole in
      let size_is : size ≡ (desk_in table first.me.0).size = ap (λ (d : DeskId E). d.size) whole in
      let sits : IsReady size index table arrival = record { ending = r; sits = ready; room = so.dealer.room } in
      let new : IsAwaited (desk_in table first.me.0) index arrival = record { ready = subst (λ (n : ℕ). IsReady n index table arrival) size_is sits; same = own } in
      record {
        dealer = record { ending = r; sits = deals; room = so.dealer.room };
        same = ap (λ (m : Standing X E). desk_in table m.0) deals.stands ∙ whole;
        as_many = ap length pushed ∙ (length-append items (Some arrival ∷ []) ∙ ap (λ (n : ℕ). n + 1) so.as_many);
        each = λ k s there. ⊎_elim
            (λ (old : slice_get items k ≡ Some (Some s)). so.each k s old)
            (λ (last : (k ≡ length items) × (Some s ≡ Some arrival)).
            let here : s ≡ arrival = cc in
            subst (λ (n : ℕ). IsAwaited (desk_in table first.me.0) n s) (sym (last.0 ∙ so.as_many)) (subst (λ (a : Seat (Held X E) (View X E)). IsAwaited (desk_in table first.me.0) index a) (sym here) new))
            (pushed_at items (Some arrival) k (Some s) (sym (ap (λ (l : List (Option (Seat (Held X E) (View X E)))). slice_get l k) pushed) ∙ there));
        all = ap (λ (l : List (Option (Seat (Held X E) (View X E)))). map is_some l) pushed
            ∙ (map-append is_some items (Some arrival ∷ []) ∙ (ap (λ (l : List Bool). l ++ true ∷ []) so.all ∙ replicate_more index true));
      }
