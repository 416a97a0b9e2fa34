-- Bases that have made no round.
use Rattle.std.specs.Prelude.{◌≡◌, ℕ, ◌<◌, List, map, length, slice_index_or}
use Rattle.fan_base.specs.declared.number.ExecId.{ExecId}
use Rattle.job_trait.specs.declared.job.Head.{Head}
use Rattle.notify_queue.specs.Ends.{QueueId}
use Rattle.event_base.specs.Seen.{BaseSeen, new_base}
use Rattle.run_bases.specs.declared.making.Bases.{Bases}
use Rattle.run_bases.specs.Columns.{IsColumn, exec_at}

module _ {J : Type 0} where
  abbrev pub queues_of : List (BaseSeen J) → List QueueId
  queues_of bases = map (λ (b : BaseSeen J). b.queue.queue) bases

  -- it has this executor and so many posters, made no round, and holds nothing
  pub record IsNewBase (exec : ExecId) (senders : ℕ) (base : BaseSeen J) : Type 0 where
    pub is_new : base ≡ new_base exec 0 base.queue.queue senders

-- so many new bases with executors from the first on, and a column of unused posters for each
pub record AreOpen {J : Type 0} (head : J → Head) (first count senders : ℕ) (made : Bases J) : Type 0 where
  pub as_many : length made.bases.items ≡ count
  pub columns : length made.columns.items ≡ count
  pub bases_are : (k : ℕ) (d : BaseSeen J) → k < count → IsNewBase (exec_at first k) senders (slice_index_or made.bases.items k d)
  pub columns_are : (k : ℕ) (d : BaseSeen J) (e : _) → k < count
      → IsColumn head (slice_index_or made.bases.items k d).queue.queue (exec_at first k) senders senders senders (slice_index_or made.columns.items k e)
