-- Each kind of step keeps the rule of the count.
use Rattle.std.proofs.Common.{◌≡◌, ◌≢◌, ℕ, zero, suc, ◌+◌, ◌-◌, ◌%◌, ◌^◌, ◌<◌, ◌≤◌, List, [], ◌∷◌, eqb, get_or, set, sym, refl, ap, ◌∙◌, subst, ⊎_elim, arith}
use mathlib.Core.Logic.{dite}
use mathlib.Core.Option.{none, some, some-injective}
use native.Mathlib.Decide.{ℕ_discrete}
use lib.ListN.{get_elem?}
use prog.Atomic.{either}
use Rattle.atomic_table.specs.Table.{State, Me, step, keeps, stepped, Allows, Splits, Joins}
use Rattle.atomic_table.proofs.Lists.{at_set, at_snoc, exchanged}
use Rattle.keep_alive.specs.declared.view.View.{View}
use Rattle.keep_alive.specs.declared.view.View.TheVariants.{Making, Owner, Token, Offering, Copying, Released, Left, Closed, Clash, Spent}
use Rattle.keep_alive.specs.History.{Event, copy, release, owner_left, IsLawful, count_of, copies_of, releases_of, leaves_of}
use Rattle.keep_alive.specs.Views.{tokens_of, room_of, owner_of, released_of, HasFoundNone, KnowsWhole}
use Rattle.keep_alive.specs.Rule.{total, CountHolds}
use Rattle.keep_alive.specs.Steps.{IsWithinRoom, kept_part, given_part, offers, copies, releases, leaves, watches}
use Rattle.keep_alive.proofs.Totals.{total-set, total-snoc, total_at}

abbrev St : Type 0
St = State ℕ View

-- the count is what the seats hold
pub count_is : (s : St) (r : CountHolds s) → count_of r.history ≡ total tokens_of s.views + total owner_of s.views
count_is s r = let a = r.released in let b = r.copied in let c = r.owner in omega arith

word_is : (s : St) (r : CountHolds s) → get_or s.words 0 0 ≡ count_of r.history
word_is s r = ap (λ (ws : List ℕ). get_or ws 0 0) r.word

-- at the start
pub begins : (room : ℕ) → room < 4294967296 → CountHolds record { words = 2 ∷ []; homes = []; views = Making room ∷ [] }
begins room small = record {
  history = [];
  lawful = tt;
  word = refl;
  released = refl;
  copied = refl;
  owner = refl;
  whole = room;
  small = small;
  fits = omega arith;
  known = first_known;
  closed = none_yet;
}
  where
    first_known : (j : ℕ) (v : View) → get_elem? (Making room ∷ []) j ≡ some v → KnowsWhole room v
    first_known zero v at = subst (KnowsWhole room) (some-injective _ _ at) refl
    first_known (suc j) v at = absurd (cc)

    none_yet : (j : ℕ) (v : View) → get_elem? (Making room ∷ []) j ≡ some v → HasFoundNone v → count_of [] ≡ 0
    none_yet zero v at found = absurd (subst HasFoundNone (sym (some-injective _ _ at)) found)
    none_yet (suc j) v at found = absurd (cc)

-- the seat with the view v gets the view w, the history becomes h, and the word what h leaves
placed : (s : St) (r : CountHolds s) (n id : ℕ) (cs : List (ℕ × ℕ)) (v w : View) (h : List Event) → get_elem? s.views id ≡ some v → IsLawful h → n ≡ count_of h
    → releases_of h + released_of v ≡ releases_of r.history + released_of w → copies_of h + (tokens_of v + released_of v) ≡ copies_of r.history + (tokens_of w + released_of w)
    → leaves_of h + owner_of w ≡ leaves_of r.history + owner_of v → tokens_of w + room_of w ≤ tokens_of v + room_of v → (KnowsWhole r.whole v → KnowsWhole r.whole w) → (count_of r.history ≡ 0 → count_of h ≡ 0) → (HasFoundNone w → count_of h ≡ 0)
    → CountHolds (stepped s 0 n id cs w keeps)
placed s r n id cs v w h at lawful is rel cop own fit knows stays new =
    let t = total-set tokens_of s.views id v w at in
    let m = total-set room_of s.views id v w at in
    let o = total-set owner_of s.views id v w at in
    let l = total-set released_of s.views id v w at in
    let r1 = r.released in
    let r2 = r.copied in
    let r3 = r.owner in
    let r4 = r.fits in
    record {
      history = h;
      lawful = lawful;
      word = ap (λ (ws : List ℕ). set ws 0 n) r.word ∙ ap (λ (k : ℕ). k ∷ []) is;
      released = omega arith;
      copied = omega arith;
      owner = omega arith;
      whole = r.whole;
      small = r.small;
      fits = omega arith;
      known = λ j u there. ⊎_elim (λ (e : (j ≡ id) × (w ≡ u)). subst (KnowsWhole r.whole) e.1 (knows (r.known id v at)))
          (λ (e : (j ≢ id) × (get_elem? s.views j ≡ some u)). r.known j u e.1)
          (at_set s.views id j w u there);
      closed = λ j u there found. ⊎_elim (λ (e : (j ≡ id) × (w ≡ u)). new (subst HasFoundNone (sym e.1) found))
          (λ (e : (j ≢ id) × (get_elem? s.views j ≡ some u)). stays (r.closed j u e.1 found))
          (at_set s.views id j w u there);
    }

abbrev Mine : Type 0
Mine = Me ℕ View

-- the word as it is, though it is exchanged for itself
unmoved : (x : ℕ) → either (eqb x 0) 0 x ≡ x
unmoved x = exchanged x 0 0 (λ n. n ≡ x) (λ e. sym e) (λ _. refl)

pub offering : (slots id room whole given : ℕ) → given < room → Allows CountHolds slots id (Token room whole, []) 0 (λ x. either (eqb x 0) 0 x) (offers (step slots 0 0 0 (some given)) (Token room whole, []))
offering slots id room whole given below s r long at small =
    let w = Offering (room - (given + 1)) given whole in
    let x : ℕ = get_or s.words 0 0 in
    (w, keeps, tt, placed s r (either (eqb x 0) 0 x) id [] (Token room whole) w r.history at r.lawful (unmoved x ∙ word_is s r) refl refl refl (omega arith) (λ k. k) (λ e. e) (λ found. absurd found), refl)

pub copying : (slots id kept given whole : ℕ) → Allows CountHolds slots id (Offering kept given whole, []) 0 (λ x. (x + 1) % 2 ^ 64) (copies (step slots 0 1 0 none) (Offering kept given whole, []))
copying slots id kept given whole s r long at small =
    let w = Copying kept given whole in
    let x : ℕ = get_or s.words 0 0 in
    let is = count_is s r in
    let mine : 1 ≤ total tokens_of s.views = total_at tokens_of s.views id (Offering kept given whole) at in
    let word = word_is s r in
    let fits = r.fits in
    let own = r.owner in
    let a = r.released in
    let b = r.copied in
    (w, keeps, tt, placed s r ((x + 1) % 2 ^ 64) id [] (Offering kept given whole) w (copy ∷ r.history) at (omega arith, r.lawful) (omega arith) refl (omega arith) refl (omega arith) (λ k. k) (λ e. omega arith) (λ found. absurd found), refl)

pub releasing : (slots id room whole : ℕ) → Allows CountHolds slots id (Token room whole, []) 0 (λ x. (x + (2 ^ 64 - 1)) % 2 ^ 64) (releases (step slots 0 1 0 none) (Token room whole, []))
releasing slots id room whole s r long at small =
    let x : ℕ = get_or s.words 0 0 in
    let w = Released x in
    let is = count_is s r in
    let mine : 1 ≤ total tokens_of s.views = total_at tokens_of s.views id (Token room whole) at in
    let rooms : room ≤ total room_of s.views = total_at room_of s.views id (Token room whole) at in
    let knows : whole ≡ r.whole = r.known id (Token room whole) at in
    let word = word_is s r in
    let fits = r.fits in
    let own = r.owner in
    let a = r.released in
    let b = r.copied in
    (w, keeps, tt, placed s r ((x + (2 ^ 64 - 1)) % 2 ^ 64) id [] (Token room whole) w (release ∷ r.history) at (omega arith, r.lawful) (omega arith) (omega arith) (omega arith) refl (omega arith) (λ _. tt) (λ e. omega arith) (λ one. omega (arith, one)), (omega arith, omega arith, refl))

pub leaving : (slots id : ℕ) → Allows CountHolds slots id (Owner, []) 0 (λ x. (x + (2 ^ 64 - 1)) % 2 ^ 64) (leaves (step slots 0 1 0 none) (Owner, []))
leaving slots id s r long at small =
    let x : ℕ = get_or s.words 0 0 in
    let is = count_is s r in
    let mine : 1 ≤ total owner_of s.views = total_at owner_of s.views id Owner at in
    let word = word_is s r in
    let fits = r.fits in
    let own = r.owner in
    let a = r.released in
    let b = r.copied in
    (Left, keeps, tt, placed s r ((x + (2 ^ 64 - 1)) % 2 ^ 64) id [] Owner Left (owner_left ∷ r.history) at (omega arith, r.lawful) (omega arith) refl refl (omega arith) (omega arith) (λ _. tt) (λ e. omega arith) (λ found. absurd found), refl)

pub watching : (slots id : ℕ) → Allows CountHolds slots id (Left, []) 0 (λ x. x) (watches (step slots 0 0 0 none) (Left, []))
watching slots id s r long at small =
    let x : ℕ = get_or s.words 0 0 in
    let word = word_is s r in
    dite (ℕ_discrete x 0)
    (λ zero_found. (Closed, keeps, tt, placed s r x id [] Left Closed r.history at r.lawful word refl refl refl (omega arith) (λ _. tt) (λ e. e) (λ _. sym word ∙ zero_found), ((λ _. refl), (λ other. absurd (other zero_found)))))
    (λ more. (Left, keeps, tt, placed s r x id [] Left Left r.history at r.lawful word refl refl refl (omega arith) (λ _. tt) (λ e. e) (λ found. absurd found), ((λ none_left. absurd (more none_left)), (λ _. refl))))

-- beside a seat that knows the count to be 0 there is none that counts
pub clash : (s : St) (r : CountHolds s) (i j : ℕ) (v w : View) → get_elem? s.views i ≡ some v → get_elem? s.views j ≡ some w → HasFoundNone v → 1 ≤ tokens_of w + owner_of w → ⊥
clash s r i j v w at there found counts =
    let none_left = r.closed i v at found in
    let is = count_is s r in
    let tokens = total_at tokens_of s.views j w there in
    let owners = total_at owner_of s.views j w there in
    omega arith

-- two seats that exclude each other are put together
excluded : (id other : ℕ) (v w : View) → ((s : St) → CountHolds s → get_elem? s.views id ≡ some v → get_elem? s.views other ≡ some w → ⊥) → Joins CountHolds id v other w Clash Spent
excluded id other v w never_both s r at apart there =
    absurd (⊎_elim (λ (e : (other ≡ id) × (Clash ≡ w)). apart e.0) (λ (e : (other ≢ id) × (get_elem? s.views other ≡ some w)). never_both s r at e.1) (at_set s.views id other Clash w there))

-- an owner that has found 0, and a token
pub meeting : (id other room whole : ℕ) → Joins CountHolds id Closed other (Token room whole) Clash Spent
meeting id other room whole = excluded id other Closed (Token room whole) (λ s r at there. clash s r id other Closed (Token room whole) at there tt (omega arith))

-- an owner that hasn't left, and a release that found 1
pub owner_after_last : (id other : ℕ) → Joins CountHolds id Owner other (Released 1) Clash Spent
owner_after_last id other = excluded id other Owner (Released 1) (λ s r at there. clash s r other id (Released 1) Owner there at refl (omega arith))

-- a token, and a release that found 1
pub token_after_last : (id other room whole : ℕ) → Joins CountHolds id (Token room whole) other (Released 1) Clash Spent
token_after_last id other room whole = excluded id other (Token room whole) (Released 1) (λ s r at there. clash s r other id (Released 1) (Token room whole) there at refl (omega arith))

pub never : (slots id : ℕ) → Allows CountHolds slots id (Clash, []) 0 (λ x. x) (λ _ _. ⊥)
never slots id s r long at small =
    let none_left = r.closed id Clash at tt in
    let is = count_is s r in
    let mine : 1 ≤ total tokens_of s.views = total_at tokens_of s.views id Clash at in
    absurd (omega arith)

-- cutting a view in two
parted : (id : ℕ) (v : View) → tokens_of (kept_part v) + tokens_of (given_part v) ≡ tokens_of v → room_of (kept_part v) + room_of (given_part v) ≡ room_of v
    → owner_of (kept_part v) + owner_of (given_part v) ≡ owner_of v → released_of (kept_part v) + released_of (given_part v) ≡ released_of v
    → ((whole : ℕ) → KnowsWhole whole v → KnowsWhole whole (kept_part v) × KnowsWhole whole (given_part v))
    → (HasFoundNone (kept_part v) → ⊥) → (HasFoundNone (given_part v) → ⊥) → Splits CountHolds id v (kept_part v) (given_part v)
parted id v tok room own rel know first second s r at =
    let left = kept_part v in
    let right = given_part v in
    let t = total-set tokens_of s.views id v left at in
    let m = total-set room_of s.views id v left at in
    let o = total-set owner_of s.views id v left at in
    let l = total-set released_of s.views id v left at in
    let t' = total-snoc tokens_of (set s.views id left) right in
    let m' = total-snoc room_of (set s.views id left) right in
    let o' = total-snoc owner_of (set s.views id left) right in
    let l' = total-snoc released_of (set s.views id left) right in
    let r1 = r.released in
    let r2 = r.copied in
    let r3 = r.owner in
    let r4 = r.fits in
    record {
      history = r.history;
      lawful = r.lawful;
      word = r.word;
      released = omega arith;
      copied = omega arith;
      owner = omega arith;
      whole = r.whole;
      small = r.small;
      fits = omega arith;
      known = λ j u there. ⊎_elim
          (λ (e : get_elem? (set s.views id left) j ≡ some u). ⊎_elim (λ (b : (j ≡ id) × (left ≡ u)). subst (KnowsWhole r.whole) b.1 (know r.whole (r.known id v at)).0) (λ (b : (j ≢ id) × (get_elem? s.views j ≡ some u)). r.known j u b.1) (at_set s.views id j left u e))
          (λ (e : right ≡ u). subst (KnowsWhole r.whole) e (know r.whole (r.known id v at)).1)
          (at_snoc (set s.views id left) right u j there);
      closed = λ j u there found. ⊎_elim
          (λ (e : get_elem? (set s.views id left) j ≡ some u). ⊎_elim (λ (b : (j ≡ id) × (left ≡ u)). absurd (first (subst HasFoundNone (sym b.1) found))) (λ (b : (j ≢ id) × (get_elem? s.views j ≡ some u)). r.closed j u b.1 found) (at_set s.views id j left u e))
          (λ (e : right ≡ u). absurd (second (subst HasFoundNone (sym e) found)))
          (at_snoc (set s.views id left) right u j there);
    }

pub making : (id room : ℕ) → Splits CountHolds id (Making room) Owner (Token room room)
making id room = parted id (Making room) refl (omega arith) refl refl (λ whole k. (tt, k)) (λ e. e) (λ e. e)

pub handing : (id kept given whole : ℕ) → Splits CountHolds id (Copying kept given whole) (Token kept whole) (Token given whole)
handing id kept given whole = parted id (Copying kept given whole) refl refl refl refl (λ all k. (k, k)) (λ e. e) (λ e. e)
