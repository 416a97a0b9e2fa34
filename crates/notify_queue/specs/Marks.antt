-- The rule of the senders' words and slots. A sender's word is twice the number of its puts, and one more where it has ended; its
-- slot then has a copy of its pass, which knows all that it put.
use Rattle.std.specs.Prelude.{◌≡◌, ◌≢◌, ℕ, ◌+◌, ◌*◌, ◌/◌, ◌%◌, ◌<◌, ◌≤◌, ◌==◌, ◌⊎◌, Bool, true, false}
use Rattle.std.specs.Prelude.{List, [], ◌∷◌, ◌++◌, length, slice_index, Option, Some, None}
use Rattle.std.specs.List.{All}
use Rattle.std.specs.declared.alloc.Global.{Global}
use mathlib.Core.Option as core
use lib.ListN.{get_elem?}
use Rattle.atomic_table.specs.declared.shared.Seat.{Seat}
use Rattle.atomic_table.specs.Seated.{TableId}
use Rattle.atomic_table.specs.Table.{State, Step, Me}
use Rattle.crossbeam_queue.specs.SegTies.{SegId, IsSegPassOf}
use Rattle.notify_queue.specs.declared.marks.Look.{Look}
use Rattle.notify_queue.specs.declared.marks.Marking.{Marking}
use Rattle.notify_queue.specs.declared.marks.Role.TheVariants.{Reads, Sends, Fills, Ended}
use Rattle.notify_queue.specs.Delivery.{ending}
use Rattle.notify_queue.specs.Passes.{PassOf, known_by}

-- the place of a sender's word. The words between keep the senders' words in cache lines of their own
abbrev pub place : ℕ → ℕ
place sender = 8 * sender

-- what is found at a sender's word
abbrev pub look_at : ℕ → ℕ → Look
look_at sender word = record { sender = sender; puts = word / 2; ended = word % 2 == 1 }

-- where a sender's word and slot stand
pub data Stage : Type 0 where
  -- the sender has not ended
  is_waiting : Stage
  -- it has its slot
  is_filling : Stage
  -- it has ended
  is_ended : Stage
  -- and the receiver has read that
  is_read : Stage

-- the last bit of the word
abbrev pub mark_at : Stage → ℕ
mark_at is_waiting = 0
mark_at is_filling = 0
mark_at is_ended = 1
mark_at is_read = 1

module _ {M : Type 0} where
  abbrev pub reading : SegId Global → ℕ → ℕ → List Look → Marking M
  reading queue made read looks = record { role = Reads; number = 0; made = made; read = read; puts = 0; looks = looks; queue = queue }

  abbrev pub marks_sending : SegId Global → ℕ → ℕ → List Look → Marking M
  marks_sending queue number puts looks = record { role = Sends; number = number; made = 0; read = 0; puts = puts; looks = looks; queue = queue }

  abbrev pub marks_filling : SegId Global → ℕ → ℕ → List Look → Marking M
  marks_filling queue number puts looks = record { role = Fills; number = number; made = 0; read = 0; puts = puts; looks = looks; queue = queue }

  abbrev pub marks_ended : SegId Global → ℕ → ℕ → List Look → Marking M
  marks_ended queue number puts looks = record { role = Ended; number = number; made = 0; read = 0; puts = puts; looks = looks; queue = queue }

  -- the receiver's seat of these marks: so many senders were made, and it has looked at nothing
  abbrev pub IsFirstSeatOf : TableId → SegId Global → ℕ → Seat (Option (PassOf M)) (Marking M) → Type 0
  IsFirstSeatOf table queue made seat = (seat.table_id ≡ table) × (seat.id ≡ 0) × (seat.me.0 ≡ reading queue made 0 [])

  -- the pass of the queue knows what the sender put in all
  pub record KnowsAll (queue : SegId Global) (sender : ℕ) (pass : PassOf M) : Type 0 where
    pub of_queue : IsSegPassOf queue pass
    pub put : List M
    pub view : known_by pass ≡ ending sender put

  -- the slot of a sender is as its stage says
  abbrev pub IsSlotAt : SegId Global → ℕ → Stage → core.Option (core.Option (Option (PassOf M))) → Type 0
  IsSlotAt queue sender is_waiting home = home ≡ core.some (core.some None)
  IsSlotAt queue sender is_filling home = home ≡ core.some core.none
  IsSlotAt queue sender is_ended home = (pass : PassOf M) × KnowsAll queue sender pass × (home ≡ core.some (core.some (Some pass)))
  IsSlotAt queue sender is_read home = home ≡ core.some core.none

  -- a sender's seat knows how many puts its word shows. What the receiver has found there since this seat's last step is that
  -- number, and whether it has ended
  pub record IsShown (puts : ℕ → ℕ) (looks : List Look) (v : Marking M) (mark : ℕ) : Type 0 where
    pub puts_are : puts v.number ≡ v.puts
    pub since : List Look
    pub looks_are : looks ≡ v.looks ++ since
    pub found : All (λ look. look.sender ≡ v.number → look ≡ look_at v.number (2 * v.puts + mark)) since

  -- what a seat knows is so. `looks` are all looks of the receiver
  pub record IsMarked (queue : SegId Global) (seat_of : ℕ → Option ℕ) (stage : ℕ → Stage) (puts : ℕ → ℕ) (made : ℕ) (looks : List Look)
      (seat : ℕ) (v : Marking M) : Type 0 where
    pub of_queue : v.queue ≡ queue
    pub sends : v.role ≡ Sends
        → (seat_of v.number ≡ Some seat) × (v.number < made) × (stage v.number ≡ is_waiting) × IsShown puts looks v 0
    pub fills : v.role ≡ Fills
        → (seat_of v.number ≡ Some seat) × (v.number < made) × (stage v.number ≡ is_filling) × IsShown puts looks v 0
    pub ended : v.role ≡ Ended → ((stage v.number ≡ is_ended) ⊎ (stage v.number ≡ is_read)) × IsShown puts looks v 1
    -- the receiver has read the marks in turn
    pub reads : seat ≡ 0 → (v.role ≡ Reads) × (v.made ≡ made) × (v.looks ≡ looks)
        × ((sender : ℕ) → sender < v.read → stage sender ≡ is_read) × ((sender : ℕ) → v.read ≤ sender → stage sender ≢ is_read)

  pub record Marked (queue : SegId Global) (s : State (Option (PassOf M)) (Marking M)) : Type 0 where
    pub seat_of : ℕ → Option ℕ
    pub stage : ℕ → Stage
    pub puts : ℕ → ℕ
    pub made : ℕ
    pub looks : List Look
    pub a_place_each : length s.words ≡ place (length s.homes)
    pub words_are : (sender : ℕ) → sender < length s.homes → slice_index s.words (place sender) ≡ 2 * puts sender + mark_at (stage sender)
    pub slots_are : (sender : ℕ) → sender < length s.homes → IsSlotAt queue sender (stage sender) (get_elem? s.homes sender)
    pub unmade : (sender : ℕ) → made ≤ sender → (stage sender ≡ is_waiting) × (puts sender ≡ 0)
    pub has_seat : 0 < length s.views
    pub known : (seat : ℕ) (v : Marking M) → get_elem? s.views seat ≡ core.some v → IsMarked queue seat_of stage puts made looks seat v

  -- the sender's word shows so many puts
  pub record HasShown (queue : SegId Global) (sender puts : ℕ) (me : Me (Option (PassOf M)) (Marking M)) : Type 0 where
    pub looks : List Look
    pub me_is : me ≡ (marks_sending queue sender puts looks, [])

  -- and its mark is set, and its slot given back
  pub record HasMarked (queue : SegId Global) (sender puts : ℕ) (me : Me (Option (PassOf M)) (Marking M)) : Type 0 where
    pub looks : List Look
    pub me_is : me ≡ (marks_ended queue sender puts looks, [])

  -- the sender's seat has its slot, which is empty
  abbrev pub Filling : Step (Option (PassOf M)) → Me (Option (PassOf M)) (Marking M) → ℕ → Me (Option (PassOf M)) (Marking M) → Type 0
  Filling step me word me' = me' ≡ (marks_filling me.0.queue me.0.number me.0.puts me.0.looks, (me.0.number, None) ∷ [])

  -- the receiver has looked at a word, and this is its look
  abbrev pub Looked : Step (Option (PassOf M)) → Me (Option (PassOf M)) (Marking M) → ℕ → Me (Option (PassOf M)) (Marking M) → Type 0
  Looked step me word me' = me' ≡ (reading me.0.queue me.0.made me.0.read (me.0.looks ++ look_at (step.word / 8) word ∷ []), me.1)

  -- this look at the sender's word is the receiver's last, and it has read so many marks
  pub record HasLooked (sender read : ℕ) (look : Look) (old new : Marking M) : Type 0 where
    pub at : look.sender ≡ sender
    pub view : new ≡ reading old.queue old.made read (old.looks ++ look ∷ [])

  -- the mark in turn was set, and its slot is with the receiver
  pub record FoundMark (me : Me (Option (PassOf M)) (Marking M)) (word : ℕ) (me' : Me (Option (PassOf M)) (Marking M)) : Type 0 where
    pub pass : PassOf M
    pub knows : KnowsAll me.0.queue me.0.read pass
    pub me_is : me' ≡ (reading me.0.queue me.0.made (me.0.read + 1) (me.0.looks ++ look_at me.0.read word ∷ []), (me.0.read, Some pass) ∷ me.1)

  -- the mark in turn was read
  pub record HasRead (step : Step (Option (PassOf M))) (me : Me (Option (PassOf M)) (Marking M)) (word : ℕ)
      (me' : Me (Option (PassOf M)) (Marking M)) : Type 0 where
    pub found : word % 2 ≡ 1 → FoundMark me word me'
    pub live : word % 2 ≢ 1 → me' ≡ (reading me.0.queue me.0.made me.0.read (me.0.looks ++ look_at me.0.read word ∷ []), me.1)
