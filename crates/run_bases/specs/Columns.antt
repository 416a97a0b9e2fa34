-- The posters of bases, by base and by row, and their ends.
use Rattle.std.specs.Prelude.{◌≡◌, ℕ, suc, ◌+◌, ◌<◌, ◌≤◌, List, length, slice_index_or, vec_capacity, All}
use Rattle.std.specs.List.{Any}
use Rattle.fan_base.specs.declared.number.ExecId.{ExecId}
use Rattle.job_trait.specs.declared.job.Head.{Head}
use Rattle.notify_queue.specs.Ends.{AreNewSenders, QueueId, Sending, new_sender}
use Rattle.event_base.specs.Closing.{AreOn}
use Rattle.run_bases.specs.declared.rows.Column.{Column}

-- the executor of the base at this place, where the first base has the first one
abbrev pub exec_at : ℕ → ℕ → ExecId
exec_at first place = record { 0 = first + place }

module _ {J : Type 0} where
  -- the posters of all these queues with this number, which have put nothing
  pub record IsRow (queues : List QueueId) (number : ℕ) (row : List (Sending J)) : Type 0 where
    pub as_many : length row ≡ length queues
    pub each : (k : ℕ) (d : Sending J) (q : QueueId) → k < length queues → slice_index_or row k d ≡ new_sender (slice_index_or queues k q) number

module _ {J : Type 0} (head : J → Head) where
  -- the end of a poster of this queue, with this number, all of whose messages have this executor
  pub record IsEndOf (queue : QueueId) (number : ℕ) (exec : ExecId) (e : Sending J) : Type 0 where
    pub queue_is : e.queue ≡ queue
    pub number_is : e.number ≡ number
    pub on_base : All (λ job. (head job).exec ≡ exec) e.sent

  -- the ends of the posters of all these queues with this number
  pub record IsEndRow (queues : List QueueId) (first number : ℕ) (row : List (Sending J)) : Type 0 where
    pub as_many : length row ≡ length queues
    pub each : (k : ℕ) (d : Sending J) (q : QueueId) → k < length queues → IsEndOf (slice_index_or queues k q) number (exec_at first k) (slice_index_or row k d)

  -- the ends of this queue's posters with the numbers from `low` on, below `senders`
  pub record AreBack (queue : QueueId) (exec : ExecId) (senders low : ℕ) (ends : List (Sending J)) : Type 0 where
    pub of_queue : All (λ (e : Sending J). e.queue ≡ queue) ends
    pub on_base : AreOn head exec ends
    pub each : (number : ℕ) → low ≤ number → number < senders → Any (λ (e : Sending J). e.number ≡ number) ends
    pub as_many : length ends + low ≡ senders

  -- Of this queue's posters those with a number below `left` are here, and have put nothing; and the ends of those from `low` on. There is room for
  -- the ends of all.
  pub record IsColumn (queue : QueueId) (exec : ExecId) (senders left low : ℕ) (column : Column J) : Type 0 where
    pub posters : AreNewSenders queue left column.posters.items
    pub back : AreBack queue exec senders low column.ends.items
    pub room : senders ≤ vec_capacity column.ends

  -- a column for each of these queues, with executors from the first on
  pub record AreColumns (queues : List QueueId) (first senders left low : ℕ) (columns : List (Column J)) : Type 0 where
    pub as_many : length columns ≡ length queues
    pub each : (k : ℕ) (d : Column J) (q : QueueId) → k < length queues → IsColumn (slice_index_or queues k q) (exec_at first k) senders left low (slice_index_or columns k d)

module _ {J : Type 0} (head : J → Head) where
  -- the columns before a place have given their last poster, which the row has
  pub record TakenSoFar (queues : List QueueId) (first senders left low place : ℕ) (columns : List (Column J)) (row : List (Sending J)) : Type 0 where
    pub as_many : length columns ≡ length queues
    pub long : length row ≡ place
    pub row_is : (k : ℕ) (d : Sending J) (q : QueueId) → k < place → slice_index_or row k d ≡ new_sender (slice_index_or queues k q) left
    pub taken : (k : ℕ) (d : Column J) (q : QueueId) → k < place → IsColumn head (slice_index_or queues k q) (exec_at first k) senders left low (slice_index_or columns k d)
    pub rest : (k : ℕ) (d : Column J) (q : QueueId) → place ≤ k → k < length queues
        → IsColumn head (slice_index_or queues k q) (exec_at first k) senders (suc left) low (slice_index_or columns k d)

  -- the columns from a place on have got their ends back, and the row has those of the others
  pub record PutSoFar (queues : List QueueId) (first senders left low place : ℕ) (columns : List (Column J)) (row : List (Sending J)) : Type 0 where
    pub as_many : length columns ≡ length queues
    pub within : place ≤ length queues
    pub row_is : (k : ℕ) (d : Sending J) (q : QueueId) → k < place → IsEndOf head (slice_index_or queues k q) low (exec_at first k) (slice_index_or row k d)
    pub rest : (k : ℕ) (d : Column J) (q : QueueId) → k < place → IsColumn head (slice_index_or queues k q) (exec_at first k) senders left (suc low) (slice_index_or columns k d)
    pub put : (k : ℕ) (d : Column J) (q : QueueId) → place ≤ k → k < length queues
        → IsColumn head (slice_index_or queues k q) (exec_at first k) senders left low (slice_index_or columns k d)
