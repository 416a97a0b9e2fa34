-- What contracts see of an event base and its parts.
use Rattle.std.specs.Prelude.{ℕ, Bool, false, List, [], ◌++◌}
use Rattle.fan_base.specs.declared.number.ExecId.{ExecId}
use Rattle.notify_queue.specs.Ends.{QueueId, Receiving, new_receiver}
use Rattle.tick_wheel.specs.TimerList.{TimerList}

-- An agenda: the base's executor, the callbacks for the beginning of the next round, those of the loop phase that runs or comes next, those that
-- wait behind the phase that runs, whether one runs, whether the loop is to end, and the timers.
pub record AgendaSeen (J : Type 0) : Type 0 where
  pub exec : ExecId
  pub before : List J
  pub loops : List J
  pub later : List J
  pub in_loop : Bool
  pub terminating : Bool
  pub wheel : TimerList J

-- a base: its agenda, its receiver, and the number of its next round
pub record BaseSeen (J : Type 0) : Type 0 where
  pub agenda : AgendaSeen J
  pub queue : Receiving J
  pub number : ℕ

-- what is noted of a queue at its close: the base's executor, how many messages were put, taken and left
pub record NoteSeen : Type 0 where
  pub exec : ExecId
  pub put : ℕ
  pub taken : ℕ
  pub left : ℕ

module _ {J : Type 0} where
  -- nothing is held, and so many ticks were made
  abbrev pub new_agenda : ExecId → ℕ → AgendaSeen J
  new_agenda exec start = record {
    exec = exec;
    before = [];
    loops = [];
    later = [];
    in_loop = false;
    terminating = false;
    wheel = record { tick = start; timers = [] };
  }

  -- no round was made
  abbrev pub new_base : ExecId → ℕ → QueueId → ℕ → BaseSeen J
  new_base exec start queue senders = record { agenda = new_agenda exec start; queue = new_receiver queue senders; number = 0 }

  -- no loop phase runs: what waited behind one stands behind what it left
  abbrev pub settled : AgendaSeen J → AgendaSeen J
  settled a = record a { loops = a.loops ++ a.later; later = []; in_loop = false }

  -- the mark to end is off
  abbrev pub unmarked : AgendaSeen J → AgendaSeen J
  unmarked a = record a { terminating = false }
