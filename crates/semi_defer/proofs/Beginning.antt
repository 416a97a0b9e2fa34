-- How the pair is made, and how its two seats are put together.
use Rattle.std.proofs.Common.{◌≡◌, ℕ, inl, inr, ⊎_elim, List, [], ◌∷◌, ◌++◌, Option, Some, None, sym, ap, ◌∙◌, subst}
use Rattle.std.specs.Prelude.{slice_set, slice_index}
use mathlib.Core.Option as maybe
use lib.ListN.{get_elem?}
use Rattle.atomic_table.specs.Table.{keeps, Allows, Splits, Joins}
use Rattle.semi_defer.specs.declared.state.Chosen.{Chosen}
use Rattle.semi_defer.specs.declared.view.Adding.{Adding}
use Rattle.semi_defer.specs.declared.view.Adding.TheVariants as adding
use Rattle.semi_defer.specs.declared.view.Choosing.{Choosing}
use Rattle.semi_defer.specs.declared.view.Choosing.TheVariants as choosing
use Rattle.semi_defer.specs.declared.view.View.{View}
use Rattle.semi_defer.specs.declared.view.View.TheVariants as view
use Rattle.semi_defer.specs.declared.history.AddEvent.TheVariants as added
use Rattle.semi_defer.specs.History.{Deferral}
use Rattle.semi_defer.specs.Views.{add_of, choice_of, got_event, ActsFit, Fit}
use Rattle.semi_defer.specs.Rule.{words_of, homes_of, DeferHolds}
use Rattle.semi_defer.specs.Steps.{Standing, BothAgree, begin_adder, begin_holder, both_views, compares}
use Rattle.semi_defer.proofs.Sides.{of_one, of_two}

module _ {J : Type 0} where
  pairs : (id : ℕ) → Splits {S = Option J} DeferHolds id view.Pair (view.Adder adding.Ready) (view.Holder choosing.Ready)
  pairs id s (inl u) at =
      let here = of_one id view.Pair view.Pair (subst (λ (vs : List (View J)). get_elem? vs id ≡ maybe.some view.Pair) u.views at) in
      inr (inl record {
        a = adding.Ready;
        h = choosing.Ready;
        views = λ k. slice_set (u.views k) (here.0 k) (view.Adder adding.Ready) ++ view.Holder choosing.Ready ∷ [];
        words = u.words;
        homes = u.homes;
        fit = record { acts = tt; range = tt };
      })
  pairs id s (inr (inl b)) at = absurd (⊎_elim (λ (r : (id ≡ 0) × (view.Pair ≡ view.Adder b.a)). let e = r.1 in cc) (λ (r : (id ≡ 1) × (view.Pair ≡ view.Holder b.h)). let e = r.1 in cc)
      (of_two id (view.Adder b.a) (view.Holder b.h) view.Pair (subst (λ (vs : List (View J)). get_elem? vs id ≡ maybe.some view.Pair) b.views at)))
  pairs id s (inr (inr t)) at = absurd (⊎_elim (λ (r : (id ≡ 0) × (view.Pair ≡ view.Both t.a t.h)). let e = r.1 in cc) (λ (r : (id ≡ 1) × (view.Pair ≡ view.Spent)). let e = r.1 in cc)
      (of_two id (view.Both t.a t.h) view.Spent view.Pair (subst (λ (vs : List (View J)). get_elem? vs id ≡ maybe.some view.Pair) t.views at)))

  -- the maker of a pair becomes the adder, and a new seat the holder
  pub pairs_allowed : (id : ℕ) (v : View J) → v ≡ view.Pair → Splits {S = Option J} DeferHolds id v (begin_adder v) (begin_holder v)
  pairs_allowed id v e = subst (λ (w : View J). Splits {S = Option J} DeferHolds id w (begin_adder w) (begin_holder w)) (sym e) (pairs id)

  joins : (id other : ℕ) (a : Adding J) (h : Choosing J) → Joins {S = Option J} DeferHolds id (view.Adder a) other (view.Holder h) (view.Both a h) view.Spent
  joins id other a h s (inl u) at apart there =
      let r = of_one id view.Pair (view.Adder a) (subst (λ (vs : List (View J)). get_elem? vs id ≡ maybe.some (view.Adder a)) u.views at) in
      let e = r.1 in absurd (cc)
  joins id other a h s (inr (inl b)) at apart there = ⊎_elim
      (λ (r : (id ≡ 0) × (view.Adder a ≡ view.Adder b.a)).
      let e = r.1 in
      let same : b.a ≡ a = cc in
      let set : slice_set s.views id (view.Both a h) ≡ view.Both a h ∷ view.Holder b.h ∷ [] = λ k. slice_set (b.views k) (r.0 k) (view.Both a h) in
      let second = of_two other (view.Both a h) (view.Holder b.h) (view.Holder h) (subst (λ (vs : List (View J)). get_elem? vs other ≡ maybe.some (view.Holder h)) set there) in
      ⊎_elim (λ (x : (other ≡ 0) × (view.Holder h ≡ view.Both a h)). absurd (apart (x.0 ∙ sym r.0)))
      (λ (x : (other ≡ 1) × (view.Holder h ≡ view.Holder b.h)).
      let f = x.1 in
      let chose : b.h ≡ h = cc in
      inr (inr record {
        a = a;
        h = h;
        views = λ k. slice_set (set k) (x.0 k) view.Spent;
        words = b.words ∙ (λ k. words_of (same k) (chose k));
        homes = b.homes ∙ (λ k. homes_of (same k) (chose k));
        fit = subst (λ (z : Adding J × Choosing J). Fit z.0 z.1) (λ k. (same k, chose k)) b.fit;
      }))
      second)
      (λ (r : (id ≡ 1) × (view.Adder a ≡ view.Holder b.h)). let e = r.1 in absurd (cc))
      (of_two id (view.Adder b.a) (view.Holder b.h) (view.Adder a) (subst (λ (vs : List (View J)). get_elem? vs id ≡ maybe.some (view.Adder a)) b.views at))
  joins id other a h s (inr (inr t)) at apart there = absurd (⊎_elim (λ (r : (id ≡ 0) × (view.Adder a ≡ view.Both t.a t.h)). let e = r.1 in cc) (λ (r : (id ≡ 1) × (view.Adder a ≡ view.Spent)). let e = r.1 in cc)
      (of_two id (view.Both t.a t.h) view.Spent (view.Adder a) (subst (λ (vs : List (View J)). get_elem? vs id ≡ maybe.some (view.Adder a)) t.views at)))

  -- an adder's seat takes in the holder's
  pub joins_allowed : (id other : ℕ) (a : Adding J) (h : Choosing J) (v w : View J) → v ≡ view.Adder a → w ≡ view.Holder h → Joins {S = Option J} DeferHolds id v other w (both_views v w) view.Spent
  joins_allowed id other a h v w is_v is_w = subst (λ (z : View J × View J). Joins {S = Option J} DeferHolds id z.0 other z.1 (both_views z.0 z.1) view.Spent) (λ k. (sym is_v k, sym is_w k)) (joins id other a h)

  kept_agrees : (job : J) (what : Chosen) (got : Option J) → got ≡ Some job → Deferral (added.Kept job) (got_event what got)
  kept_agrees job what None e = absurd (cc)
  kept_agrees job what (Some other) e = cc

  late_agrees : (job : J) (found what : Chosen) (got : Option J) → found ≡ what → got ≡ None → Deferral (added.Late job found) (got_event what got)
  late_agrees job found what None same none = same
  late_agrees job found what (Some other) same none = absurd (cc)

  -- what fits agrees
  agrees : (a : Adding J) (h : Choosing J) → ActsFit a h → BothAgree (add_of a) (choice_of h)
  agrees adding.Ready h acts = tt
  agrees adding.Holding h acts = tt
  agrees (adding.Kept job) choosing.Ready acts = tt
  agrees (adding.Kept job) (choosing.Taking what got) acts = acts
  agrees (adding.Kept job) (choosing.Chose what got) acts = kept_agrees job what got acts
  agrees (adding.Returning job found) choosing.Ready acts = absurd acts
  agrees (adding.Returning job found) (choosing.Taking what got) acts = absurd acts
  agrees (adding.Returning job found) (choosing.Chose what got) acts = late_agrees job found what got acts.0 acts.1
  agrees (adding.Late job found) choosing.Ready acts = absurd acts
  agrees (adding.Late job found) (choosing.Taking what got) acts = absurd acts
  agrees (adding.Late job found) (choosing.Chose what got) acts = late_agrees job found what got acts.0 acts.1

  looks : (slots id : ℕ) (cs : List (ℕ × Option J)) (a : Adding J) (h : Choosing J) → Allows DeferHolds slots id (view.Both a h, cs) 0 (λ n. n) (compares (view.Both a h, cs))
  looks slots id cs a h s (inl u) long at small =
      let r = of_one id view.Pair (view.Both a h) (subst (λ (vs : List (View J)). get_elem? vs id ≡ maybe.some (view.Both a h)) u.views at) in
      let e = r.1 in absurd (cc)
  looks slots id cs a h s (inr (inl b)) long at small = absurd (⊎_elim (λ (r : (id ≡ 0) × (view.Both a h ≡ view.Adder b.a)). let e = r.1 in cc) (λ (r : (id ≡ 1) × (view.Both a h ≡ view.Holder b.h)). let e = r.1 in cc)
      (of_two id (view.Adder b.a) (view.Holder b.h) (view.Both a h) (subst (λ (vs : List (View J)). get_elem? vs id ≡ maybe.some (view.Both a h)) b.views at)))
  looks slots id cs a h s (inr (inr t)) long at small = ⊎_elim
      (λ (r : (id ≡ 0) × (view.Both a h ≡ view.Both t.a t.h)).
      let e = r.1 in
      let same : t.a ≡ a = cc in
      let chose : t.h ≡ h = cc in (
        view.Both a h,
        keeps,
        tt,
        inr (inr record {
          a = t.a;
          h = t.h;
          views = (λ k. slice_set (t.views k) (r.0 k) (view.Both a h)) ∙ (λ k. view.Both (sym same k) (sym chose k) ∷ view.Spent ∷ []);
          words = ap (λ ws. slice_set ws 0 (slice_index ws 0)) t.words;
          homes = t.homes;
          fit = t.fit;
        }),
        agrees a h (subst (λ (z : Adding J × Choosing J). ActsFit z.0 z.1) (λ k. (same k, chose k)) t.fit.acts),
      ))
      (λ (r : (id ≡ 1) × (view.Both a h ≡ view.Spent)). let e = r.1 in absurd (cc))
      (of_two id (view.Both t.a t.h) view.Spent (view.Both a h) (subst (λ (vs : List (View J)). get_elem? vs id ≡ maybe.some (view.Both a h)) t.views at))

  -- a seat that has both views sees that they agree
  pub looks_allowed : (slots id : ℕ) (me : Standing J) (cs : List (ℕ × Option J)) (a : Adding J) (h : Choosing J) (v w : View J) → v ≡ view.Adder a → w ≡ view.Holder h → me ≡ (both_views v w, cs) → Allows DeferHolds slots id me 0 (λ n. n) (compares me)
  looks_allowed slots id me cs a h v w is_v is_w e = subst (λ (m : Standing J). Allows DeferHolds slots id m 0 (λ n. n) (compares m)) (λ k. sym (e ∙ (λ j. (both_views (is_v j) (is_w j), cs))) k) (looks slots id cs a h)
