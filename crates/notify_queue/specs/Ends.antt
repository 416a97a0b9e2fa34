-- What contracts see of the ends of a queue.
use Rattle.std.specs.Prelude.{◌≡◌, ℕ, ◌<◌, ◌≤◌, Bool, false, true, IsTrue, List, [], ◌∷◌, ◌++◌, length, Some}
use Rattle.std.specs.List.{All, Any, slice_get, sum_by}
use Rattle.std.specs.declared.alloc.Global.{Global}
use mathlib.Core.List.{IsPrefix}
use Rattle.crossbeam_queue.specs.SegTies.{SegId}
use Rattle.notify_queue.specs.declared.delivery.EndedSender.{EndedSender}
use Rattle.notify_queue.specs.declared.marks.Look.{Look}
use Rattle.notify_queue.specs.declared.stamp.Stamp.{Stamp}
use Rattle.notify_queue.specs.declared.stamp.Stamped.{Stamped}
use Rattle.notify_queue.specs.Stamps.{messages_of, IsInOrder}

-- which queue
pub record QueueId : Type 0 where
  pub line : SegId Global

-- a sender or its end: its number, and the messages that it has put. Its word shows how many these are
pub record Sending (M : Type 0) : Type 0 where
  pub queue : QueueId
  pub number : ℕ
  pub sent : List M

-- the receiver: how many senders there are, and what was taken. Of each sender that it has found ended, what that one put in all.
-- What it found at the senders' words, look by look
pub record Receiving (M : Type 0) : Type 0 where
  pub queue : QueueId
  pub senders : ℕ
  pub taken : List (Stamped M)
  pub ended : List (EndedSender M)
  pub looks : List Look

-- what was left of a queue at its close, oldest first, and all that was ever popped from it, in that order
pub record Leaving (M : Type 0) : Type 0 where
  pub left : List (Stamped M)
  pub popped : List (Stamped M)

module _ {M : Type 0} where
  -- a sender that has put nothing
  abbrev pub new_sender : QueueId → ℕ → Sending M
  new_sender queue number = record { queue = queue; number = number; sent = [] }

  -- so many senders that have put nothing, numbered from 0 on
  abbrev pub AreNewSenders : QueueId → ℕ → List (Sending M) → Type 0
  AreNewSenders queue count senders =
      (length senders ≡ count) × ((number : ℕ) → number < count → slice_get senders number ≡ Some (new_sender queue number))

  -- the stamp of a sender's next message
  abbrev pub next_stamp : Sending M → Stamp
  next_stamp s = record { sender = s.number; index = length s.sent }

  -- a sender that has put one message more
  abbrev pub with_put : Sending M → M → Sending M
  with_put s message = record s { sent = s.sent ++ message ∷ [] }

  -- what was left, with one message more in front
  abbrev pub with_first : Stamped M → Leaving M → Leaving M
  with_first first rest = record rest { left = first ∷ rest.left }

  -- each message that these ends put passes the test
  abbrev pub AllPass : (M → Bool) → List (Sending M) → Type 0
  AllPass test ends = All (λ e. All (λ m. IsTrue (test m)) e.sent) ends

  -- the sum of the weights of all messages that these ends put
  abbrev pub weight_sent : (M → ℕ) → List (Sending M) → ℕ
  weight_sent weight ends = sum_by (λ e. sum_by weight e.sent) ends

  -- the receiver of a new queue
  abbrev pub new_receiver : QueueId → ℕ → Receiving M
  new_receiver queue senders = record { queue = queue; senders = senders; taken = []; ended = []; looks = [] }

  -- what the end of a sender says of it
  abbrev pub whole_of : Sending M → EndedSender M
  whole_of e = record { sender = e.number; put = e.sent }

  -- each sender was found ended
  abbrev pub HasEnded : Receiving M → Type 0
  HasEnded r = (sender : ℕ) → sender < r.senders → Any (λ e. e.sender ≡ sender) r.ended

  -- all that the senders found ended had put is taken
  abbrev pub IsDrained : Receiving M → Type 0
  IsDrained r = All (λ e. messages_of e.sender r.taken ≡ e.put) r.ended

  -- nothing can come any more, and nothing is left
  pub record IsDry (r : Receiving M) : Type 0 where
    pub ended : HasEnded r
    pub drained : IsDrained r

  -- a look at this sender's word found no more puts than messages that were taken of it
  abbrev pub ShowsNoMore : Receiving M → ℕ → Look → Type 0
  ShowsNoMore r sender look = (look.sender ≡ sender) × (look.puts ≤ length (messages_of sender r.taken))

  -- one look of the call at each sender's word found that nothing of it was waiting
  pub record FoundNoMore (old new : Receiving M) : Type 0 where
    pub looks : List Look
    pub looked : new.looks ≡ old.looks ++ looks
    pub no_more : (sender : ℕ) → sender < new.senders → Any (ShowsNoMore new sender) looks

  -- what a call found that gives no message, or fewer than were asked for
  pub record FoundEmpty (old new : Receiving M) : Type 0 where
    -- all that the senders found ended had put is taken
    pub drained : IsDrained new
    pub no_more : FoundNoMore old new

  -- each look of the call found a sender that had ended
  pub record FoundEnded (old new : Receiving M) : Type 0 where
    pub looks : List Look
    pub looked : new.looks ≡ old.looks ++ looks
    pub ended : All (λ look. look.ended ≡ true) looks

  -- the last look of the call found a sender that had not ended
  pub record FoundLive (old new : Receiving M) : Type 0 where
    pub looks : List Look
    pub last : Look
    pub looked : new.looks ≡ old.looks ++ (looks ++ last ∷ [])
    pub is_sender : last.sender < old.senders
    pub live : last.ended ≡ false

  -- it has taken these messages more. Of a sender that was found ended no more is taken than it put
  pub record HasTaken (old : Receiving M) (xs : List (Stamped M)) (new : Receiving M) : Type 0 where
    pub view : new ≡ record old { taken = old.taken ++ xs }
    pub in_order : IsInOrder new.taken
    pub from_senders : All (λ x. x.stamp.sender < old.senders) xs
    pub within : All (λ e. IsPrefix (messages_of e.sender new.taken) e.put) new.ended

  -- these are the ends of all senders, in any order
  pub record AreAllEnds (r : Receiving M) (ends : List (Sending M)) : Type 0 where
    pub of_queue : All (λ e. e.queue ≡ r.queue) ends
    pub each : (sender : ℕ) → sender < r.senders → Any (λ e. e.number ≡ sender) ends
    pub as_many : length ends ≡ r.senders

  -- these are as many senders as the queue has, and none has put anything
  pub record AreAllUnused (r : Receiving M) (senders : List (Sending M)) : Type 0 where
    pub of_queue : All (λ s. s.queue ≡ r.queue) senders
    pub unused : All (λ s. s.sent ≡ []) senders
    pub as_many : length senders ≡ r.senders
