-- What the tables await, one turn further.
use Rattle.std.proofs.Common.{◌≡◌, ◌≢◌, ◌⊎◌, ℕ, zero, suc, ◌+◌, ◌/◌, ◌<◌, ◌≤◌, inl, inr, List, [], ◌∷◌, ◌++◌, All, length, get_or, set, refl, sym, ap, ◌∙◌, subst, ⊎_elim, Option, Some, None, slice_get, arith, length-set}
use Rattle.std.proofs.lemmas.List.Elements.{All-head, All-tail}
use Rattle.std.proofs.lemmas.Grind.{get_or-set_at}
use Rattle.std.proofs.lemmas.List.{get_or-set_other}
use Rattle.query_model.specs.Order.{Asked}
use Rattle.fan_model.specs.Comings.{Coming, ComesAt, comings_of}
use Rattle.fan_model.specs.Notes.{base_of}
use Rattle.fan_model.specs.Report.{Asking}
use Rattle.fan_parts.specs.Seen.{EndSeen}
use Rattle.run_gathering.specs.Awaited.{AwaitedSeen, TableSeen, all_awaited, awaited_at, place_of, with_at}
use Rattle.run_gathering.specs.Dealt.{AreDealt, AwaitsBegun, AwaitsQuery}
use Rattle.run_desks.specs.Tables.{HasRoomFor, with_query}
use Rattle.run_desks.proofs.Places.{has_place, same_number, same_or_not}

same_asked : (asked : Asking) (place : ℕ) (a : Asked) (coming : Coming) → ComesAt asked.lines place (Coming.begins a) → ComesAt asked.lines place coming → coming ≡ Coming.begins a
same_asked asked place a coming first second =
    let same : Some coming ≡ Some (Coming.begins a) = sym second.at ∙ first.at in cc

-- one place more, at which nothing is begun for this base
pub same_table : (asked : Asking) (place base : ℕ) (t : TableSeen)
    → ((query : Asked) → ComesAt asked.lines place (Coming.begins query) → base_of asked.bases query.number ≡ base → ⊥)
    → AwaitsBegun asked place base t → AwaitsBegun asked (place + 1) base t
same_table asked place base t none so = record {
  of = so.of;
  places = so.places;
  each = λ at query before comes on. ⊎_elim
      (λ (e : at ≡ place). absurd (none query (subst (λ (p : ℕ). ComesAt asked.lines p (Coming.begins query)) e comes) on))
      (λ (d : at ≢ place). so.each at query (omega (arith, before, d)) comes on)
      (same_or_not at place);
  only = λ at awaited stands.
      let is = so.only at awaited stands in record {
        place = is.place;
        query = is.query;
        before = omega (arith, is.before);
        comes = is.comes;
        number_is = is.number_is;
        on_base = is.on_base;
        at_is = is.at_is;
      };
}

none_or : (o : Option AwaitedSeen) → ((awaited : AwaitedSeen) → o ≡ Some awaited → ⊥) → o ≡ None
none_or None lacks = refl
none_or (Some awaited) lacks = absurd (lacks awaited refl)

-- The table has a place for the query that is begun next, and nothing is awaited there.
room_for : (asked : Asking) (place base : ℕ) (query : Asked) (t : TableSeen) → 0 < asked.bases
    → ((at : ℕ) (a : Asked) → ComesAt asked.lines at (Coming.begins a) → 1 ≤ a.number)
    → ((at other : ℕ) (a b : Asked) → ComesAt asked.lines at (Coming.begins a) → ComesAt asked.lines other (Coming.begins b) → a.number ≡ b.number → at ≡ other)
    → ComesAt asked.lines place (Coming.begins query) → query.number ≤ length (comings_of asked.lines) → base_of asked.bases query.number ≡ base
    → AwaitsBegun asked place base t → HasRoomFor query.number t
room_for asked place base query t some from_one once comes few on so =
    let n = query.number in
    let place_is : (m : ℕ) → place_of t m ≡ m / asked.bases = λ m. ap (λ (b : ℕ). m / b) so.of.0 in
    record {
      place = omega (arith, place_is n, so.places, has_place n (length (comings_of asked.lines)) asked.bases some few);
      empty = none_or (awaited_at t (place_of t n)) (λ awaited stands.
          let is = so.only (place_of t n) awaited stands in
          let one : 1 ≤ awaited.number = omega (arith, is.number_is, from_one is.place is.query is.comes) in
          let row : n / asked.bases ≡ awaited.number / asked.bases = sym (place_is n) ∙ (is.at_is ∙ place_is awaited.number) in
          let on_it : base_of asked.bases awaited.number ≡ base = ap (base_of asked.bases) is.number_is ∙ is.on_base in
          let same : n ≡ awaited.number = same_number asked.bases n awaited.number some (from_one place query comes) one (omega (arith, on, on_it)) row in
          let here : place ≡ is.place = once place is.place query is.query comes is.comes (same ∙ is.number_is) in
          omega (arith, here, is.before));
    }

-- the same of the table in a list of tables, by another name of the number
pub dealt_room : (asked : Asking) (place k number : ℕ) (query : Asked) (tables : List TableSeen) (table : TableSeen) → 0 < asked.bases
    → ((at : ℕ) (a : Asked) → ComesAt asked.lines at (Coming.begins a) → 1 ≤ a.number)
    → ((at other : ℕ) (a b : Asked) → ComesAt asked.lines at (Coming.begins a) → ComesAt asked.lines other (Coming.begins b) → a.number ≡ b.number → at ≡ other)
    → ComesAt asked.lines place (Coming.begins query) → query.number ≤ length (comings_of asked.lines) → 1 + k ≡ base_of asked.bases query.number
    → slice_get tables k ≡ Some table → AreDealt asked place tables → number ≡ query.number → HasRoomFor number table
dealt_room asked place k number query tables table some from_one once comes few base there so same =
    subst (λ (n : ℕ). HasRoomFor n table) (sym same) (room_for asked place (1 + k) query table some from_one once comes few (sym base) (so.each k table there))

-- One place more, at which this query is begun for this base, and all its parts are awaited.
begun_table : (asked : Asking) (place base : ℕ) (query : Asked) (end : EndSeen) (t : TableSeen) → 0 < asked.bases
    → ((at : ℕ) (a : Asked) → ComesAt asked.lines at (Coming.begins a) → 1 ≤ a.number)
    → ComesAt asked.lines place (Coming.begins query) → query.number ≤ length (comings_of asked.lines) → base_of asked.bases query.number ≡ base → end.ask.number ≡ query.number
    → AwaitsBegun asked place base t → AwaitsBegun asked (place + 1) base (with_query end t)
begun_table asked place base query end t some from_one comes few on number so =
    let n = query.number in
    let here : ℕ = place_of t end.ask.number in
    let put : Option AwaitedSeen = Some (all_awaited t.shards end) in
    let new = with_query end t in
    let place_is : (m : ℕ) → place_of t m ≡ m / asked.bases = λ m. ap (λ (b : ℕ). m / b) so.of.0 in
    let at_n : here ≡ place_of t n = ap (place_of t) number in
    let room : here < length t.queries = omega (arith, at_n, place_is n, so.places, has_place n (length (comings_of asked.lines)) asked.bases some few) in
    let own : AwaitsQuery asked n new = record {
      end = end;
      number_is = number;
      stands = get_or-set_at t.queries here (place_of t n) put None (sym at_n) room ∙ ap (λ (w : ℕ). Some (all_awaited w end)) so.of.1;
    } in
    let kept : (m : ℕ) → 1 ≤ m → base_of asked.bases m ≡ base → AwaitsQuery asked m t → AwaitsQuery asked m new =
    λ m one m_on was. ⊎_elim
    (λ (e : m ≡ n). subst (λ (k : ℕ). AwaitsQuery asked k new) (sym e) own)
    (λ (d : m ≢ n). record {
      end = was.end;
      number_is = was.number_is;
      stands = get_or-set_other t.queries here (place_of t m) put None
          (λ (same : place_of t m ≡ here). d (same_number asked.bases m n some one (from_one place query comes) (omega (arith, m_on, on)) (sym (place_is m) ∙ (same ∙ (at_n ∙ place_is n)))))
          ∙ was.stands;
    })
    (same_or_not m n) in
    record {
      of = so.of;
      places = length-set t.queries here put ∙ so.places;
      each = λ at a before a_comes a_on. ⊎_elim
          (λ (e : at ≡ place).
          let same : Coming.begins a ≡ Coming.begins query = same_asked asked place query (Coming.begins a) comes (subst (λ (p : ℕ). ComesAt asked.lines p (Coming.begins a)) e a_comes) in
          let a_number : a.number ≡ n = cc in
          subst (λ (k : ℕ). AwaitsQuery asked k new) (sym a_number) own)
          (λ (d : at ≢ place). kept a.number (from_one at a a_comes) a_on (so.each at a (omega (arith, before, d)) a_comes a_on))
          (same_or_not at place);
      only = λ at awaited stands. ⊎_elim
          (λ (e : at ≡ here).
          let is : put ≡ Some awaited = sym (get_or-set_at t.queries here at put None e room) ∙ stands in
          let same : all_awaited t.shards end ≡ awaited = cc in
          let awaited_number : awaited.number ≡ end.ask.number = ap (λ (w : AwaitedSeen). w.number) (sym same) in record {
            place = place;
            query = query;
            before = omega arith;
            comes = comes;
            number_is = awaited_number ∙ number;
            on_base = on;
            at_is = e ∙ ap (place_of t) (sym awaited_number);
          })
          (λ (d : at ≢ here).
          let is = so.only at awaited (sym (get_or-set_other t.queries here at put None d) ∙ stands) in record {
            place = is.place;
            query = is.query;
            before = omega (arith, is.before);
            comes = is.comes;
            number_is = is.number_is;
            on_base = is.on_base;
            at_is = is.at_is;
          })
          (same_or_not at here);
    }

get_set_same : {X : Type 0} (xs : List X) (i : ℕ) (y z : X) → slice_get (set xs i y) i ≡ Some z → y ≡ z
get_set_same [] i y z e = absurd cc
get_set_same (x ∷ xs) zero y z e = cc
get_set_same (x ∷ xs) (suc i) y z e = get_set_same xs i y z e

get_set_other : {X : Type 0} (xs : List X) (i j : ℕ) (y : X) → j ≢ i → slice_get (set xs i y) j ≡ slice_get xs j
get_set_other [] i j y d = refl
get_set_other (x ∷ xs) zero zero y d = absurd (d refl)
get_set_other (x ∷ xs) zero (suc j) y d = refl
get_set_other (x ∷ xs) (suc i) zero y d = refl
get_set_other (x ∷ xs) (suc i) (suc j) y d = get_set_other xs i j y (λ (e : j ≡ i). d (ap suc e))

-- All tables, one place more, at which this query is begun: its base's table awaits its parts too.
pub dealt_begun : (asked : Asking) (place k : ℕ) (query : Asked) (end : EndSeen) (tables : List TableSeen) (table : TableSeen) → 0 < asked.bases
    → ((at : ℕ) (a : Asked) → ComesAt asked.lines at (Coming.begins a) → 1 ≤ a.number)
    → ComesAt asked.lines place (Coming.begins query) → query.number ≤ length (comings_of asked.lines) → 1 + k ≡ base_of asked.bases query.number → end.ask.number ≡ query.number
    → slice_get tables k ≡ Some table → AreDealt asked place tables
    → AreDealt asked (place + 1) (set tables k (with_query end table))
dealt_begun asked place k query end tables table some from_one comes few base number_is there so =
    let put = with_query end table in
    record {
      each = λ j t at. ⊎_elim
          (λ (e : j ≡ k).
          let is : put ≡ t = get_set_same tables k put t (subst (λ (i : ℕ). slice_get (set tables k put) i ≡ Some t) e at) in
          subst (λ (i : ℕ). AwaitsBegun asked (place + 1) (1 + i) t) (sym e) (subst (λ (x : TableSeen). AwaitsBegun asked (place + 1) (1 + k) x) is
          (begun_table asked place (1 + k) query end table some from_one comes few (sym base) number_is (so.each k table there))))
          (λ (d : j ≢ k).
          same_table asked place (1 + j) t
          (λ a a_comes on.
          let same : Coming.begins a ≡ Coming.begins query = same_asked asked place query (Coming.begins a) comes a_comes in
          let number : a.number ≡ query.number = cc in
          let bases : base_of asked.bases a.number ≡ base_of asked.bases query.number = ap (base_of asked.bases) number in
          d (omega (arith, on, bases, base)))
          (so.each j t (sym (get_set_other tables k j put d) ∙ at)))
          (same_or_not j k);
    }

-- all tables, one place more, at which a query is cancelled
pub dealt_cancelled : (asked : Asking) (place : ℕ) (query : Asked) (tables : List TableSeen) → ComesAt asked.lines place (Coming.cancels query)
    → AreDealt asked place tables → AreDealt asked (place + 1) tables
dealt_cancelled asked place query tables comes so = record {
  each = λ k t at. same_table asked place (1 + k) t
      (λ a a_comes on.
      let same : Coming.cancels query ≡ Coming.begins a = same_asked asked place a (Coming.cancels query) a_comes comes in
      absurd cc)
      (so.each k t at);
}

none_stands : (parts : List (Option AwaitedSeen)) (at : ℕ) → All (λ part. part ≡ None) parts → get_or parts at None ≡ None
none_stands [] at all = refl
none_stands (part ∷ parts) zero all = All-head (λ x. x ≡ None) part parts all
none_stands (part ∷ parts) (suc at) all = none_stands parts at (All-tail (λ x. x ≡ None) part parts all)

-- a table in which nothing stands, before the first place
new_table : (asked : Asking) (highest base bases shards : ℕ) (t : TableSeen) → bases ≡ asked.bases → shards ≡ asked.shards → highest ≡ length (comings_of asked.lines)
    → (t.bases ≡ bases) × (t.shards ≡ shards) → All (λ awaited. awaited ≡ None) t.queries → length t.queries ≡ highest / bases + 1 → AwaitsBegun asked 0 base t
new_table asked highest base bases shards t bases_are shards_are comings numbers nothing places = record {
  of = (numbers.0 ∙ bases_are, numbers.1 ∙ shards_are);
  places = places ∙ (ap (λ (n : ℕ). n / bases + 1) comings ∙ ap (λ (b : ℕ). length (comings_of asked.lines) / b + 1) bases_are);
  each = λ at query before comes on. absurd (omega (arith, before));
  only = λ at awaited stands. let none : None ≡ Some awaited = sym (none_stands t.queries at nothing) ∙ stands in absurd cc;
}

get_push : {X : Type 0} (xs : List X) (y z : X) (k : ℕ) → slice_get (xs ++ y ∷ []) k ≡ Some z → (slice_get xs k ≡ Some z) ⊎ ((k ≡ length xs) × (y ≡ z))
get_push [] y z zero e = inr (refl, cc)
get_push [] y z (suc k) e = absurd cc
get_push (x ∷ xs) y z zero e = inl e
get_push (x ∷ xs) y z (suc k) e = ⊎_elim (λ (old : slice_get xs k ≡ Some z). inl old) (λ (new : (k ≡ length xs) × (y ≡ z)). inr (ap suc new.0, new.1)) (get_push xs y z k e)

pub dealt_none : (asked : Asking) (tables : List TableSeen) → tables ≡ [] → AreDealt asked 0 tables
dealt_none asked tables none = record { each = λ k table there. let past : None ≡ Some table = ap (λ (ts : List TableSeen). slice_get ts k) (sym none) ∙ there in absurd cc }

-- one table more, in which nothing stands
dealt_more : (asked : Asking) (tables : List TableSeen) (t : TableSeen) → ((base : ℕ) → AwaitsBegun asked 0 base t) → AreDealt asked 0 tables → AreDealt asked 0 (tables ++ t ∷ [])
dealt_more asked tables t new so = record {
  each = λ k table there. ⊎_elim
      (λ (old : slice_get tables k ≡ Some table). so.each k table old)
      (λ (last : (k ≡ length tables) × (t ≡ table)). subst (λ (x : TableSeen). AwaitsBegun asked 0 (1 + k) x) last.1 (new (1 + k)))
      (get_push tables t table k there);
}

-- a new table, behind those that were made
pub dealt_new : (asked : Asking) (highest bases shards : ℕ) (old new : List TableSeen) (t : TableSeen) → bases ≡ asked.bases → shards ≡ asked.shards → highest ≡ length (comings_of asked.lines)
    → (t.bases ≡ bases) × (t.shards ≡ shards) → All (λ awaited. awaited ≡ None) t.queries → length t.queries ≡ highest / bases + 1
    → new ≡ old ++ t ∷ [] → AreDealt asked 0 old → AreDealt asked 0 new
dealt_new asked highest bases shards old new t bases_are shards_are comings numbers nothing places is so =
    subst (λ (ts : List TableSeen). AreDealt asked 0 ts) (sym is)
    (dealt_more asked old t (λ base. new_table asked highest base bases shards t bases_are shards_are comings numbers nothing places) so)

-- the base by the keys' number of bases and the ask's number of the query is the base of the query
pub base_is : (bases known number own k : ℕ) → 1 + k ≡ base_of known number → known ≡ bases → number ≡ own → 1 + k ≡ base_of bases own
base_is bases known number own k is same_bases same_number = is ∙ (ap (λ (n : ℕ). base_of n number) same_bases ∙ ap (λ (n : ℕ). base_of bases n) same_number)
