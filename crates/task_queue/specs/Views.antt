-- The views of the passes of a queue, and what each stands for.
use Rattle.std.specs.Prelude.{ℕ, ◌-◌, ◌*◌, ◌^◌, List, [], length}
use Rattle.std.specs.List.{flat_map}
use Rattle.job_trait.specs.declared.job.Head.{Head}
use Rattle.pool_model.specs.declared.task.Entry.{Entry}
use Rattle.task_queue.specs.declared.rule.Queued.{Queued}
use Rattle.task_queue.specs.declared.view.Role.{Role}
use Rattle.task_queue.specs.declared.view.Role.TheVariants.{Maker, Adder, Taker, Gathered, Nobody}
use Rattle.task_queue.specs.declared.view.Share.{Share}
use Rattle.task_queue.specs.declared.view.View.{View}

-- the entry of a job that waits
abbrev pub entry_of : {J : Type 0} → (J → Head) → Queued J → Entry
entry_of head x = record { ticket = x.ticket; head = head x.job }

abbrev pub share : ℕ → List Entry → Share
share number entries = record { number = number; entries = entries }

-- the maker of passes, which has so many parts left to give
abbrev pub making : ℕ → ℕ → ℕ → ℕ → View
making parts whole adders takers = record { role = Maker; parts = parts; whole = whole; number = 0; adders = adders; takers = takers; pushed = []; popped = []; added = []; taken = [] }

-- an adder, and what it pushed
abbrev pub adding : ℕ → ℕ → List Entry → View
adding whole number pushed = record { role = Adder; parts = 1; whole = whole; number = number; adders = 0; takers = 0; pushed = pushed; popped = []; added = []; taken = [] }

-- a taker, and what it popped
abbrev pub taking : ℕ → ℕ → List Entry → View
taking whole number popped = record { role = Taker; parts = 1; whole = whole; number = number; adders = 0; takers = 0; pushed = []; popped = popped; added = []; taken = [] }

-- a pass in which so many others were put together, and what it popped since it was whole
abbrev pub gathered : ℕ → ℕ → List Share → List Share → List Entry → View
gathered parts whole added taken popped = record { role = Gathered; parts = parts; whole = whole; number = 0; adders = 0; takers = 0; pushed = []; popped = popped; added = added; taken = taken }

abbrev pub nobody : View
nobody = record { role = Nobody; parts = 0; whole = 0; number = 0; adders = 0; takers = 0; pushed = []; popped = []; added = []; taken = [] }

abbrev pub entries_of : List Share → List Entry
entries_of shares = flat_map (λ s. s.entries) shares

-- all that was pushed by the adders in a view
abbrev pub pushes_as : Role → View → List Entry
pushes_as Maker v = []
pushes_as Adder v = v.pushed
pushes_as Taker v = []
pushes_as Gathered v = entries_of v.added
pushes_as Nobody v = []

abbrev pub pushes_of : View → List Entry
pushes_of v = pushes_as v.role v

-- all that was popped by the takers in a view
abbrev pub pops_as : Role → View → List Entry
pops_as Maker v = []
pops_as Adder v = []
pops_as Taker v = v.popped
pops_as Gathered v = entries_of v.taken
pops_as Nobody v = []

abbrev pub pops_of : View → List Entry
pops_of v = pops_as v.role v

-- how many tasks an adder may push in all, and how many may be pushed by the adders in a view, or by those that are yet to be made, of 64
abbrev pub most : ℕ
most = 2 ^ 32

abbrev pub room_as : Role → View → ℕ
room_as Maker v = (64 - v.adders) * most
room_as Adder v = most
room_as Taker v = 0
room_as Gathered v = length v.added * most
room_as Nobody v = 0

abbrev pub room_of : View → ℕ
room_of v = room_as v.role v
