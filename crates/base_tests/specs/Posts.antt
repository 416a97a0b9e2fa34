-- What the tests know of the posts of a sender.
use Rattle.std.specs.Prelude.{◌≡◌, Option, IfSome}
use Rattle.std.specs.List.{All}
use Rattle.fan_base.specs.declared.number.ExecId.{ExecId}
use Rattle.notify_queue.specs.Ends.{Sending}

-- each job that it put has this executor
abbrev pub AllOn : {J : Type 0} → (J → ExecId) → ExecId → Sending J → Type 0
AllOn exec_of exec s = All (λ job. exec_of job ≡ exec) s.sent

-- the same of a sender that may be there
abbrev pub AllOnIn : {J : Type 0} → (J → ExecId) → ExecId → Option (Sending J) → Type 0
AllOnIn exec_of exec sender = IfSome sender (λ s. AllOn exec_of exec s)

-- a sender that was there has ended, where there is an end, and each job that it put has this executor
abbrev pub HasLeftEnd : {J : Type 0} → (J → ExecId) → ExecId → Option (Sending J) → Option (Sending J) → Type 0
HasLeftEnd exec_of exec sender end =
    IfSome sender (λ s. IfSome end (λ e. (e.queue ≡ s.queue) × (e.number ≡ s.number) × AllOn exec_of exec e))

-- the executor of the tests' base
abbrev pub of_tests : ExecId
of_tests = record { 0 = 7 }
