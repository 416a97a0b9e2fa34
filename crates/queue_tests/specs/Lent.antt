-- What a call leaves of the ends of a queue that it was lent.
use Rattle.std.specs.Prelude.{◌≡◌, Option, IfSome}
use Rattle.notify_queue.specs.Ends.{Sending, Receiving}

module _ {M : Type 0} where
  -- it is the same sender
  abbrev pub IsSameSender : Sending M → Sending M → Type 0
  IsSameSender old new = (new.queue ≡ old.queue) × (new.number ≡ old.number)

  -- it is the same receiver
  abbrev pub IsSameReceiver : Receiving M → Receiving M → Type 0
  IsSameReceiver old new = (new.queue ≡ old.queue) × (new.senders ≡ old.senders)

  -- a sender that was there has ended, where there is an end
  abbrev pub HasLeftEnd : Option (Sending M) → Option (Sending M) → Type 0
  HasLeftEnd sender end = IfSome sender (λ s. IfSome end (λ e. IsSameSender s e))
