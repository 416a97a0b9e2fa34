-- The world of a gathering base lives as long as all that its type names. It is shown type by type, since all at once is too much for a tactic.
use denote.RattleType.{RattleType}
use denote.Builtin as builtin
use denote.Ref.{NamedLft}
use denote.Param.Lives.{in_enum, in_struct, out_left, out_right}
use denote.Struct.Declared.{fields}
use contract.BorrowLft.{◌⊑◌, ⊑_meet, ⊑_static}
use borrow.Author.Rules.{in_lives, rules}
use base.Fml.{Lft}
use mathlib.Core.List.{List, [], ◌∷◌, ◌++◌}
use mir.Syntax.{named}
use Rattle.std.specs.contracts.option.Option as option
use Rattle.atomic_table.specs.contracts.shared.Seat as seat
use Rattle.fan_base.specs.contracts.outcome.Try as try
use Rattle.core_word.specs.contracts.producer.Producer as producer
use Rattle.core_word.specs.contracts.consumer.Consumer as consumer
use Rattle.core_word.specs.contracts.home.Key as key
use Rattle.collect_ops.specs.contracts.owned.OwnedDesk as owned
use Rattle.notify_queue.specs.contracts.sender.Sender as sender
use Rattle.notify_queue.specs.contracts.sender.Sender.TheInside as of_sender
use Rattle.notify_queue.specs.contracts.sender.SenderEnd.TheInside as of_sender_end
use Rattle.fan_parts.specs.declared.run_name.RunName.{Ghosts}
use Rattle.fan_parts.specs.contracts.part.Part as part
use Rattle.fan_parts.specs.contracts.reply.PlacedReply as placed
use Rattle.fan_parts.specs.contracts.reply.ReplyCallback as reply_callback
use Rattle.fan_parts.specs.contracts.ask.NumberedAsk as numbered
use Rattle.fan_parts.specs.contracts.cores.End as end
use Rattle.fan_parts.specs.contracts.cores.End.TheInside as of_end
use Rattle.fan_parts.specs.contracts.jobs.Scoring as scoring
use Rattle.fan_parts.specs.contracts.jobs.Scoring.TheInside as of_scoring
use Rattle.fan_parts.specs.contracts.jobs.PrintJob as print_job
use Rattle.fan_parts.specs.contracts.shards.RunShards as shards
use Rattle.run_gathering.specs.contracts.table.Awaited as awaited
use Rattle.run_gathering.specs.contracts.table.PartTable as table
use Rattle.run_gathering.specs.contracts.table.PartTable.TheInside as of_table
use Rattle.run_gathering.specs.contracts.world.Gathering as gathering
use Rattle.run_gathering.specs.contracts.world.Gathering.TheInside as of_gathering

-- a lifetime as a type names it
abbrev pub named_at : Lft → NamedLft
named_at l = record { mir = named 0; lft = l }

-- some type that lives so long: what holds a type lives by its lifetime alone
abbrev row_of : Lft → RattleType
row_of l = record builtin.u8 { lives = l }

Option-lives : (κ t : Lft) → κ ⊑ t → κ ⊑ (option.the_row (row_of t)).lives
Option-lives κ t h0 = simp (in_lives, h0) (search rules)

Seat-lives : (κ s d : Lft) → κ ⊑ s → κ ⊑ d → κ ⊑ (seat.the_row (row_of s) (row_of d)).lives
Seat-lives κ s d h0 h1 = simp (in_lives, h0, h1) (search rules)

Try-lives : (κ t : Lft) → κ ⊑ t → κ ⊑ (try.the_row (row_of t)).lives
Try-lives κ t h0 = simp (in_lives, h0) (search rules)

Desk-lives : (κ t e : Lft) → κ ⊑ t → κ ⊑ e → κ ⊑ (owned.the_row (row_of t) (row_of e)).lives
Desk-lives κ t e h0 h1 = simp (in_lives, h0, h1) (search rules)

Producer-lives : (κ h t c p : Lft) → κ ⊑ h → κ ⊑ t → κ ⊑ c → κ ⊑ p → κ ⊑ (producer.the_row (named_at h) (row_of t) (row_of c) (row_of p)).lives
Producer-lives κ h t c p h0 h1 h2 h3 = simp (in_lives, h0, h1, h2, h3) (search rules)

Consumer-lives : (κ h t c p : Lft) → κ ⊑ h → κ ⊑ t → κ ⊑ c → κ ⊑ p → κ ⊑ (consumer.the_row (named_at h) (row_of t) (row_of c) (row_of p)).lives
Consumer-lives κ h t c p h0 h1 h2 h3 = simp (in_lives, h0, h1, h2, h3) (search rules)

Key-lives : (κ h t c p : Lft) → κ ⊑ h → κ ⊑ t → κ ⊑ c → κ ⊑ p → κ ⊑ (key.the_row (named_at h) (row_of t) (row_of c) (row_of p)).lives
Key-lives κ h t c p h0 h1 h2 h3 = simp (in_lives, h0, h1, h2, h3) (search rules)

-- a vector, a deque, and an Arc, of the global allocator
Held-lives : (κ t : Lft) → κ ⊑ t → κ ⊑ (t ++ []) ++ []
Held-lives κ t h = simp (in_lives, h) (search rules)

-- two lists that are joined, apart: what nests deep is too much for a tactic that takes all of it apart
record Apart (κ l l' : Lft) : Type 0 where
  left : κ ⊑ l
  right : κ ⊑ l'

apart : {κ l l' : Lft} → κ ⊑ l → κ ⊑ l' → Apart κ l l'
apart left right = record { left = left; right = right }

in_parts : (κ l l' : Lft) → ((κ ⊑ l ++ l') → Apart κ l l') × (Apart κ l l' → κ ⊑ l ++ l')
in_parts κ l l' = (λ h. apart (out_left κ l l' h) (out_right κ l l' h), λ h. ⊑_meet κ l l' h.left h.right)

first : List RattleType → RattleType
first [] = builtin.u8
first (T ∷ Ts) = T

second : List RattleType → RattleType
second [] = builtin.u8
second (T ∷ Ts) = first Ts

-- the seat at a queue's marks
MarkSeat-lives : (κ : Lft) (M : RattleType) → κ ⊑ M.lives → κ ⊑ (second (fields (of_sender_end.the_type M))).lives
unfolding first second
MarkSeat-lives κ M m = Seat-lives κ _ _ (simp (in_lives, m) (search rules)) (simp (in_lives, m) (search rules))

-- A queue's channel: its line, its marks, which are an atomic table, and the rest. What the table is of is what the seat is of.
Channel-lives : (κ : Lft) (M : RattleType) → κ ⊑ M.lives → κ ⊑ (first (fields (of_sender.the_type M))).lives
unfolding first second
Channel-lives κ M m =
    let seat = simp in_parts at MarkSeat-lives κ M m in
    let types = simp in_parts at seat.left in
    let rest = simp in_parts at types.right in
    let s = types.left in
    let d = rest.left in
    Held-lives κ _ (simp in_parts (apart (simp (in_lives, m) (search rules)) (simp in_parts (apart (simp (in_lives, m) (search rules)) (simp in_parts (apart (simp in_parts (apart (simp in_parts (apart s (simp in_parts (apart d (simp in_parts (apart (simp (in_lives, m) (search rules)) (⊑_static κ))))))) (simp in_parts (apart (simp in_parts (apart (simp in_parts (apart s (simp in_parts (apart d (simp in_parts (apart (simp (in_lives, m) (search rules)) (⊑_static κ))))))) (simp in_parts (apart (⊑_static κ) (simp in_parts (apart (⊑_static κ) (simp in_parts (apart (simp in_parts (apart (simp in_parts (apart (simp in_parts (apart (simp in_parts (apart (⊑_static κ) (simp in_parts (apart d (simp in_parts (apart (simp (in_lives, m) (search rules)) (⊑_static κ))))))) (simp in_parts (apart (⊑_static κ) (simp in_parts (apart d (simp in_parts (apart (simp (in_lives, m) (search rules)) (⊑_static κ))))))))) (⊑_static κ))) (⊑_static κ))) (⊑_static κ))))))))) (search (s, ⊑_static, ⊑_meet) depth 60 fits 20000))))) (simp (in_lives, m) (search rules))))))))

Sender-lives : (κ : Lft) (M : RattleType) → κ ⊑ M.lives → κ ⊑ (sender.the_row M).lives
unfolding first second
Sender-lives κ M m =
    in_struct κ (of_sender.the_type M) (m, tt)
    (Channel-lives κ M m, (simp (in_lives, m) (search rules), (MarkSeat-lives κ M m, (⊑_static κ, (⊑_static κ, (simp (in_lives, m) (search rules), (⊑_static κ, tt)))))))

-- a poster is a sender and an executor
Poster-lives : (κ : Lft) (M : RattleType) → κ ⊑ M.lives → κ ⊑ (M.lives ++ []) ++ ((sender.the_row M).lives ++ [])
Poster-lives κ M m = ⊑_meet κ _ _ (⊑_meet κ M.lives [] m (⊑_static κ)) (⊑_meet κ _ [] (Sender-lives κ M m) (⊑_static κ))

module _ (κ : Lft) (N : RattleType) (g : Ghosts N.Denot) (n : κ ⊑ N.lives) where
  Part-lives : κ ⊑ (part.the_row N g).lives
  Part-lives = simp (in_lives, n) (search rules)

  Placed-lives : κ ⊑ (placed.the_row N g).lives
  Placed-lives = simp (in_lives, n) (search rules)

  Reply-lives : κ ⊑ (reply_callback.the_row N g).lives
  Reply-lives = simp (in_lives, n) (search rules)

  Ask-lives : (i : NamedLft) → κ ⊑ i.lft → κ ⊑ (numbered.the_row i N g).lives
  Ask-lives i at_i = simp (in_lives, n, at_i) (search rules)

  End-lives : (r i : NamedLft) → κ ⊑ r.lft → κ ⊑ i.lft → κ ⊑ (end.the_row r i N g).lives
  End-lives r i at_r at_i =
      in_struct κ (of_end.the_type r i N g) (n, tt) (
        Producer-lives κ _ _ _ _ at_r Placed-lives Reply-lives (Consumer-lives κ _ _ _ _ at_i Placed-lives Reply-lives (⊑_static κ)),
        (Ask-lives i at_i, (⊑_static κ, (Option-lives κ _ (Key-lives κ _ _ _ _ at_i Placed-lives Reply-lives (⊑_static κ)), tt))),
      )

  Scoring-lives : (i : NamedLft) → κ ⊑ i.lft → κ ⊑ (scoring.the_row i N g).lives
  Scoring-lives i at_i =
      in_struct κ (of_scoring.the_type i N g) (n, tt)
      (Producer-lives κ _ _ _ _ at_i Placed-lives Reply-lives (⊑_static κ), (Ask-lives i at_i, (⊑_static κ, (⊑_static κ, tt))))

  Shards-lives : (i : NamedLft) → κ ⊑ i.lft → κ ⊑ (shards.the_row i N g).lives
  Shards-lives i at_i = simp (in_lives, n, at_i) (search rules)

  PrintJob-lives : κ ⊑ (print_job.the_row N g).lives
  PrintJob-lives = simp (in_lives, n) (search rules)

  Awaited-lives : (r i : NamedLft) → κ ⊑ r.lft → κ ⊑ i.lft → κ ⊑ (awaited.the_row r i N g).lives
  Awaited-lives r i at_r at_i =
      let at_end = End-lives r i at_r at_i in
      in_enum κ (awaited.the_type r i N g) (n, tt) (tt, ((at_end, tt), ((⊑_static κ, (Desk-lives κ _ _ Part-lives at_end, tt)), tt)))

  pub PartTable-lives : (r i : NamedLft) → κ ⊑ r.lft → κ ⊑ i.lft → κ ⊑ (table.the_row r i N g).lives
  PartTable-lives r i at_r at_i =
      in_struct κ (of_table.the_type r i N g) (n, tt)
      (Held-lives κ _ (Awaited-lives r i at_r at_i), (⊑_static κ, (⊑_static κ, tt)))

  pub Gathering-lives : (r i : NamedLft) → κ ⊑ r.lft → κ ⊑ i.lft → κ ⊑ (gathering.the_row r i N g).lives
  Gathering-lives r i at_r at_i =
      in_struct κ (of_gathering.the_type r i N g) (n, tt) (
        Shards-lives i at_i,
        (
          PartTable-lives r i at_r at_i,
          (Held-lives κ _ (Scoring-lives i at_i), (Poster-lives κ (print_job.the_row N g) PrintJob-lives, (⊑_static κ, (⊑_static κ, (⊑_static κ, tt))))),
        ),
      )
