-- The rule of a queue: what it holds, and what each pass knows.
use Rattle.std.specs.Prelude.{◌≡◌, ℕ, ◌^◌, ◌<◌, ◌≤◌, true, false, List, [], ◌∷◌, ◌++◌, length, Option, Some, None}
use Rattle.std.specs.List.{All}
use mathlib.Core.List.{IsPrefix}
use mathlib.Core.Option.{some}
use lib.ListN.{get_elem?}
use Rattle.notify_queue.specs.declared.stamp.Stamped.{Stamped}
use Rattle.notify_queue.specs.declared.delivery.Knowledge.{Knowledge}
use Rattle.notify_queue.specs.declared.delivery.EndedSender.{EndedSender}
use Rattle.notify_queue.specs.Stamps.{messages_of, IsInOrder}
use Rattle.notify_queue.specs.History.{Event, puts, takes, QueueHistory}

module _ {M : Type 0} where
  abbrev pub ended_sender : ℕ → List M → EndedSender M
  ended_sender sender put = record { sender = sender; put = put }

  -- a pass that knows nothing
  abbrev pub idle : Knowledge M
  idle = record { sends = false; number = 0; put = []; ended = []; taken = []; made = 0 }

  -- the pass of a sender
  abbrev pub sending : ℕ → List M → Knowledge M
  sending number put = record { sends = true; number = number; put = put; ended = []; taken = []; made = 0 }

  -- the pass of a sender that has ended, or its copy
  abbrev pub ending : ℕ → List M → Knowledge M
  ending number put = record { sends = false; number = number; put = put; ended = ended_sender number put ∷ []; taken = []; made = 0 }

  -- the pass of the receiver
  abbrev pub receiving : ℕ → List (EndedSender M) → List (Stamped M) → Knowledge M
  receiving made ended taken = record { sends = false; number = 0; put = []; ended = ended; taken = taken; made = made }

  -- the sender has no pass any more, and this is all that it put
  pub record IsWhole (history : List (Event M)) (pass_of : ℕ → Option ℕ) (made : ℕ) (e : EndedSender M) : Type 0 where
    pub ended : pass_of e.sender ≡ None
    pub made_before : e.sender < made
    pub whole : messages_of e.sender (puts history) ≡ e.put

  -- what a pass knows is so
  pub record IsKnown (history : List (Event M)) (pass_of : ℕ → Option ℕ) (made : ℕ) (pass : ℕ) (v : Knowledge M) : Type 0 where
    -- a sender has one pass, which knows all that it has put
    pub sends : v.sends ≡ true → (pass_of v.number ≡ Some pass) × (v.number < made) × (messages_of v.number (puts history) ≡ v.put)
    pub ended : All (IsWhole history pass_of made) v.ended
    -- the receiver knows all that was taken, and how many senders there are. It is none of them
    pub receives : pass ≡ 0 → (v.sends ≡ false) × (v.taken ≡ takes history) × (v.made ≡ made)

  -- The history of the queue is lawful, and what was put in it is what was taken and then what the queue holds
  pub record Delivers (items : List (Stamped M)) (views : List (Knowledge M)) : Type 0 where
    pub history : List (Event M)
    pub pass_of : ℕ → Option ℕ
    pub made : ℕ
    pub lawful : QueueHistory history
    pub held : puts history ≡ takes history ++ items
    pub few : made ≤ 64
    pub from_senders : All (λ x. x.stamp.sender < made) (puts history)
    pub short : (sender : ℕ) → length (messages_of sender (puts history)) < 2 ^ 32
    pub has_pass : 0 < length views
    pub known : (pass : ℕ) (v : Knowledge M) → get_elem? views pass ≡ some v → IsKnown history pass_of made pass v

  -- what a take of one message or more tells: they stand behind those that were taken, and what was taken is in order.
  -- Of a sender that has ended no more is taken than it put
  pub record Takes (v : Knowledge M) (xs : List (Stamped M)) (w : Knowledge M) : Type 0 where
    pub view : w ≡ receiving v.made v.ended (v.taken ++ xs)
    pub in_order : IsInOrder (v.taken ++ xs)
    pub few : length (v.taken ++ xs) ≤ 2 ^ 38
    pub from_senders : All (λ x. x.stamp.sender < v.made) xs
    pub within : All (λ e. IsPrefix (messages_of e.sender (v.taken ++ xs)) e.put) v.ended

  -- what a look tells of what was taken and what the queue holds at that moment
  pub record Shows (v : Knowledge M) (items : List (Stamped M)) : Type 0 where
    pub history : List (Event M)
    pub lawful : QueueHistory history
    pub taken_is : takes history ≡ v.taken
    pub put_is : puts history ≡ v.taken ++ items
    pub whole : All (λ e. messages_of e.sender (v.taken ++ items) ≡ e.put) v.ended
    pub from_senders : All (λ x. x.stamp.sender < v.made) (v.taken ++ items)
    pub short : (sender : ℕ) → length (messages_of sender (v.taken ++ items)) < 2 ^ 32
    pub few : v.made ≤ 64
