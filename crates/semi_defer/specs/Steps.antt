-- What each step on a home's table tells its caller, and where a seat then stands: its view, and the slot that it has with what it holds.
use Rattle.std.specs.Prelude.{◌≡◌, ◌≢◌, ℕ, ◌<◌, ◌^◌, ◌+◌, List, [], ◌∷◌, Option, Some, None}
use Rattle.atomic_table.specs.Table.{Me}
use Rattle.atomic_table.specs.Seated.{TableId}
use Rattle.atomic_table.specs.declared.shared.Seat.{Seat}
use Rattle.semi_defer.specs.declared.state.Chosen.{Chosen}
use Rattle.semi_defer.specs.declared.view.Adding.{Adding}
use Rattle.semi_defer.specs.declared.view.Adding.TheVariants as adding
use Rattle.semi_defer.specs.declared.view.Choosing.{Choosing}
use Rattle.semi_defer.specs.declared.view.Choosing.TheVariants as choosing
use Rattle.semi_defer.specs.declared.view.View.{View}
use Rattle.semi_defer.specs.declared.view.View.TheVariants as view
use Rattle.semi_defer.specs.declared.history.AddEvent.{AddEvent}
use Rattle.semi_defer.specs.declared.history.ChooseEvent.{ChooseEvent}
use Rattle.semi_defer.specs.History.{Deferral}
use Rattle.semi_defer.specs.State.{word_of}
use Rattle.semi_defer.specs.Views.{add_in, choice_in}

-- where a seat stands
abbrev pub Standing : Type 0 → Type 0
Standing J = Me (Option J) (View J)

-- a home has one word and one slot
pub record IsHome (home : TableId) : Type 0 where
  pub words : home.words ≡ 1
  pub slots : home.slots ≡ 1

module _ {J : Type 0} where
  -- a seat of this home stands so
  pub record Sits (home : TableId) (seat : Seat (Option J) (View J)) (standing : Standing J) : Type 0 where
    pub of_home : seat.table_id ≡ home
    pub stands : seat.me ≡ standing

  -- a side that has no slot, and one that has the slot with this in it
  abbrev pub adder_at : Adding J → List (ℕ × Option J) → Standing J
  adder_at a slots = (view.Adder a, slots)

  abbrev pub holder_at : Choosing J → List (ℕ × Option J) → Standing J
  holder_at h slots = (view.Holder h, slots)

  abbrev pub slot_with : Option J → List (ℕ × Option J)
  slot_with held = (0, held) ∷ []

  -- an adder that came late, with its job in the slot
  abbrev pub late_at : J → Chosen → Standing J
  late_at job what = adder_at (adding.Returning job what) (slot_with (Some job))

  -- the view of a side that has given its slot back
  abbrev pub rested : View J → View J
  rested view.Pair = view.Pair
  rested (view.Adder adding.Ready) = view.Adder adding.Ready
  rested (view.Adder adding.Holding) = view.Adder adding.Holding
  rested (view.Adder (adding.Kept job)) = view.Adder (adding.Kept job)
  rested (view.Adder (adding.Returning job what)) = view.Adder (adding.Late job what)
  rested (view.Adder (adding.Late job what)) = view.Adder (adding.Late job what)
  rested (view.Holder choosing.Ready) = view.Holder choosing.Ready
  rested (view.Holder (choosing.Taking what job)) = view.Holder (choosing.Chose what (Some job))
  rested (view.Holder (choosing.Chose what got)) = view.Holder (choosing.Chose what got)
  rested (view.Both a h) = view.Both a h
  rested view.Spent = view.Spent

  -- an adder takes the slot, which is empty
  abbrev pub takes_slot : Standing J → ℕ → Standing J → Type 0
  takes_slot before found after = after ≡ adder_at adding.Holding (slot_with None)

  -- An adder's exchange from Empty. Its job is kept, or it sees what was chosen.
  abbrev pub adds : Standing J → ℕ → Standing J → Type 0
  adds before found after = (job : J) → before.1 ≡ slot_with (Some job)
      → (found ≡ 0 → after ≡ adder_at (adding.Kept job) [])
      × (found ≢ 0 → (what : Chosen) × (found ≡ word_of what) × (found < 2 ^ 32 + 3) × (after ≡ adder_at (adding.Returning job what) before.1))

  -- A holder's choice. It takes the job where one is kept.
  abbrev pub chooses : Standing J → ℕ → ℕ → Standing J → Type 0
  chooses before new found after = (what : Chosen) → new ≡ word_of what
      → (found ≡ 1 → (job : J) × (after ≡ holder_at (choosing.Taking what job) (slot_with (Some job))))
      × (found ≢ 1 → (found ≡ 0) × (after ≡ holder_at (choosing.Chose what None) []))

  -- a side gives its slot back
  abbrev pub gives_back : Standing J → ℕ → Standing J → Type 0
  gives_back before found after = after ≡ (rested before.0, [])

  -- what both sides did, where both have acted
  abbrev pub BothAgree : Option (AddEvent J) → Option (ChooseEvent J) → Type 0
  BothAgree None choice = Unit {0}
  BothAgree (Some add) None = Unit {0}
  BothAgree (Some add) (Some choice) = Deferral add choice

  -- a seat that has both views sees that they agree
  abbrev pub compares : Standing J → ℕ → Standing J → Type 0
  compares before found after = BothAgree (add_in before.0) (choice_in before.0)

  -- the maker of the pair becomes the adder, and a new seat the holder
  abbrev pub begin_adder : View J → View J
  begin_adder view.Pair = view.Adder adding.Ready
  begin_adder (view.Adder a) = view.Adder a
  begin_adder (view.Holder h) = view.Holder h
  begin_adder (view.Both a h) = view.Both a h
  begin_adder view.Spent = view.Spent

  abbrev pub begin_holder : View J → View J
  begin_holder view.Pair = view.Holder choosing.Ready
  begin_holder (view.Adder a) = view.Spent
  begin_holder (view.Holder h) = view.Spent
  begin_holder (view.Both a h) = view.Spent
  begin_holder view.Spent = view.Spent

  abbrev pub both_views : View J → View J → View J
  both_views (view.Adder a) (view.Holder h) = view.Both a h
  both_views v w = view.Spent

  -- where the pair wasn't taken, its maker's seat is there
  abbrev pub HasPair : TableId → Option (Seat (Option J) (View J)) → Type 0
  HasPair home None = Unit {0}
  HasPair home (Some seat) = Sits home seat (view.Pair, [])
