-- Worlds and slots that are made one by one.
use Rattle.std.proofs.Common.{◌≡◌, ℕ, zero, suc, ◌+◌, ◌<◌, List, [], ◌∷◌, ◌++◌, map, length, get_or, length-append, append-nil, Option, refl, sym, ap, ◌∙◌, subst, arith}
use Rattle.std.specs.Prelude.{Some, None}
use Rattle.std.proofs.lemmas.List.{get_or-map}
use Rattle.event_base.specs.Seen.{BaseSeen, new_base}
use Rattle.fan_base.specs.declared.number.ExecId.{ExecId}
use Rattle.fan_model.specs.Report.{Asking}
use Rattle.fan_model.specs.Tasks.{printer_exec}
use Rattle.fan_parts.specs.declared.jobs.GatherJob.{GatherJob}
use Rattle.fan_parts.specs.declared.jobs.PrintJob.{PrintJob}
use Rattle.fan_parts.specs.declared.run_name.RunName.{Ghosts}
use Rattle.fan_parts.specs.Heads.{gather_head}
use Rattle.fan_parts.specs.Seen.{PosterSeen}
use Rattle.notify_queue.specs.Ends.{QueueId, Sending, new_sender}
use Rattle.pool_model.specs.Seen.{PoolId, WorkerSeen}
use Rattle.prio_pool.specs.Made.{new_workers}
use Rattle.job_trait.specs.declared.job.Head.{Head}
use Rattle.run_bases.specs.declared.making.Bases.{Bases}
use Rattle.run_bases.specs.declared.rows.Column.{Column}
use Rattle.run_bases.specs.Columns.{AreColumns, IsColumn, exec_at}
use Rattle.run_bases.specs.Making.{AreOpen, queues_of}
use Rattle.run_gathering.specs.Awaited.{TableSeen}
use Rattle.run_threads.specs.declared.gatherer.GatherSlot.{GatherSlot}
use Rattle.run_setup.specs.Ids.{RunIds}
use Rattle.run_setup.specs.Opening.{AreNewBases, IsPrinterColumn}
use Rattle.run_setup.specs.Slots.{AreGatherSlots, HaveTables, IsGatherSlot, new_printer_poster}
use Rattle.run_setup.proofs.Each.{EachFrom, each_first, each_none, each_push, each_rest}

-- the pass of this pool with this number
abbrev pub IsPassAt : PoolId → ℕ → WorkerSeen → Type 0
IsPassAt pool k w = w ≡ record { pool = pool; number = k }

pub workers-length : (pool : PoolId) (first n : ℕ) → length (new_workers pool first n) ≡ n
workers-length pool first zero = refl
workers-length pool first (suc n) = ap suc (workers-length pool (first + 1) n)

worker-at : (pool : PoolId) (first n k j : ℕ) (d : WorkerSeen) → k < n → j ≡ first + k → get_or (new_workers pool first n) k d ≡ record { pool = pool; number = j }
worker-at pool first zero k j d below is = absurd (omega (arith, below))
worker-at pool first (suc n) zero j d below is = ap (λ (m : ℕ). record { pool = pool; number = m }) (omega (arith, is))
worker-at pool first (suc n) (suc k) j d below is = worker-at pool (first + 1) n k j d (omega (arith, below)) (omega (arith, is))

pub each-worker : (pool : PoolId) (n : ℕ) → EachFrom (IsPassAt pool) 0 (new_workers pool 0 n)
each-worker pool n = record { each = λ k j d below is. worker-at pool 0 n k j d (omega (arith, below, workers-length pool 0 n)) is }

module _ {N : Type 0} where
  abbrev poster : Sending (PrintJob N) → ExecId → PosterSeen (PrintJob N)
  poster s e = record { sender = s; exec = e }

  -- a poster to the printer's base, of an unused sender
  pub poster-new : (asked : Asking) (ids : RunIds) (number : ℕ) (p : PosterSeen (PrintJob N)) (s : Sending (PrintJob N)) (e : ExecId) → p ≡ record { sender = s; exec = e } → s ≡ new_sender ids.printer number
      → e ≡ printer_exec asked.bases → p ≡ new_printer_poster asked ids number
  poster-new asked ids number p s e is sender exec = is ∙ (ap (λ (x : Sending (PrintJob N)). poster x e) sender ∙ ap (λ (x : ExecId). poster (new_sender ids.printer number) x) exec)

  -- the new gathering base at this place
  pub record IsNewBaseAt (ids : RunIds) (k : ℕ) (b : BaseSeen (GatherJob N)) : Type 0 where
    pub is : (q : QueueId) → b ≡ new_base (exec_at 1 k) 0 (get_or ids.queues k q) (ids.workers + 1)

module _ {N : Type 0} {g : Ghosts N} where
  -- so many slots are made, and these bases are left
  pub record SlotsSoFar (asked : Asking) (ids : RunIds) (slots : List (GatherSlot N g)) (rest : List (BaseSeen (GatherJob N))) (column : Column (PrintJob N)) : Type 0 where
    pub many : length slots + length rest ≡ asked.bases
    pub made : EachFrom (IsGatherSlot asked ids) 0 slots
    pub left : EachFrom (IsNewBaseAt ids) (length slots) rest
    pub column_is : IsPrinterColumn asked ids (suc (length rest)) column

  pub slots-none : (asked : Asking) (ids : RunIds) (slots : List (GatherSlot N g)) (bases : List (BaseSeen (GatherJob N))) (column : Column (PrintJob N)) → slots ≡ [] → AreNewBases asked ids bases
      → IsPrinterColumn asked ids (suc asked.bases) column → SlotsSoFar asked ids slots bases column
  slots-none asked ids slots bases column none are is =
      let zero_is : length slots ≡ 0 = ap length none in
      record {
        many = omega (arith, zero_is, are.as_many);
        made = each_none (IsGatherSlot asked ids) 0 slots zero_is;
        left = record { each = λ k j d below at. record { is = λ q. are.each k d q (omega (arith, below, are.as_many)) ∙ ap (λ (n : ℕ). new_base (exec_at 1 n) 0 (get_or ids.queues n q) (ids.workers + 1)) (omega (arith, at, zero_is)) } };
        column_is = subst (λ (n : ℕ). IsPrinterColumn asked ids (suc n) column) (sym are.as_many) is;
      }

  pub slots-more : (asked : Asking) (ids : RunIds) (slots : List (GatherSlot N g)) (b : BaseSeen (GatherJob N)) (bs : List (BaseSeen (GatherJob N))) (column after : Column (PrintJob N)) (slot : GatherSlot N g)
      → SlotsSoFar asked ids slots (b ∷ bs) column → slot.base ≡ Some b → slot.printer ≡ Some (new_printer_poster asked ids (suc (length bs))) → (table : TableSeen) → slot.table ≡ Some table → slot.stage ≡ None
      → IsPrinterColumn asked ids (suc (length bs)) after → SlotsSoFar asked ids (slots ++ slot ∷ []) bs after
  slots-more asked ids slots b bs column after slot so base printer table has_table none is =
      let long : length (slots ++ slot ∷ []) ≡ suc (length slots) = omega (arith, length-append slots (slot ∷ [])) in
      let one : IsNewBaseAt ids (length slots) b = each_first (IsNewBaseAt ids) (length slots) b bs so.left in
      record {
        many = omega (arith, long, so.many);
        made = each_push (IsGatherSlot asked ids) slots slot so.made record {
          base = λ q. base ∙ ap Some (one.is q);
          printer = printer ∙ ap (λ (n : ℕ). Some (new_printer_poster asked ids n)) (omega (arith, so.many));
          table = table;
          has_table = has_table;
          none = none;
        };
        left = subst (λ (n : ℕ). EachFrom (IsNewBaseAt ids) n bs) (sym long) (each_rest (IsNewBaseAt ids) (length slots) b bs so.left);
        column_is = is;
      }

  pub slots-all : (asked : Asking) (ids : RunIds) (slots : List (GatherSlot N g)) (rest : List (BaseSeen (GatherJob N))) (column : Column (PrintJob N)) → SlotsSoFar asked ids slots rest column → length rest ≡ 0
      → AreGatherSlots asked ids slots × IsPrinterColumn asked ids 1 column
  slots-all asked ids slots rest column so none = (
    record { as_many = omega (arith, so.many, none); each = λ k d below. so.made.each k k d (omega (arith, below, so.many, none)) (omega arith) },
    subst (λ (n : ℕ). IsPrinterColumn asked ids (suc n) column) none so.column_is,
  )

module _ {J : Type 0} (head : J → Head) where
  some-base : (bases : List (BaseSeen J)) (k : ℕ) → k < length bases → BaseSeen J
  some-base [] k below = absurd (omega (arith, below))
  some-base (b ∷ bs) k below = b

  -- the columns of bases that were opened
  pub open-columns : (first count senders : ℕ) (made : Bases J) → AreOpen head first count senders made → AreColumns head (queues_of made.bases.items) first senders senders senders made.columns.items
  open-columns first count senders made is =
      let long : length (queues_of made.bases.items) ≡ count = length-queues made.bases.items ∙ is.as_many in
      record {
        as_many = is.columns ∙ sym long;
        each = λ k d q below.
            let within : k < length made.bases.items = omega (arith, below, long, is.as_many) in
            let b = some-base made.bases.items k within in
            subst (λ (x : QueueId). IsColumn head x (exec_at first k) senders senders senders (get_or made.columns.items k d))
            (sym (get_or-map (λ (x : BaseSeen J). x.queue.queue) made.bases.items k b q within)) (is.columns_are k b d (omega (arith, below, long)));
      }
    where
      length-queues : (bases : List (BaseSeen J)) → length (queues_of bases) ≡ length bases
      length-queues [] = refl
      length-queues (b ∷ bs) = ap suc (length-queues bs)

module _ {N : Type 0} where
  -- the bases that were opened, by the queues that they have
  pub new-bases : (asked : Asking) (ids : RunIds) (made : Bases (GatherJob N)) → ids.queues ≡ queues_of made.bases.items → AreOpen gather_head 1 asked.bases (ids.workers + 1) made → AreNewBases asked ids made.bases.items
  new-bases asked ids made queues is = record {
    as_many = is.as_many;
    each = λ k d q below.
        let at : get_or ids.queues k q ≡ (get_or made.bases.items k d).queue.queue = ap (λ (l : List QueueId). get_or l k q) queues
        ∙ get_or-map (λ (b : BaseSeen (GatherJob N)). b.queue.queue) made.bases.items k d q (omega (arith, below, is.as_many)) in
        (is.bases_are k d below).is_new ∙ ap (λ (x : QueueId). new_base (exec_at 1 k) 0 x (ids.workers + 1)) (sym at);
  }

module _ {N : Type 0} {g : Ghosts N} where
  -- the tables of the slots that are made, and behind them those that are left
  pub record TablesSoFar (slots : List (GatherSlot N g)) (given tables : List TableSeen) : Type 0 where
    pub are : map (λ (slot : GatherSlot N g). slot.table) slots ++ map (λ (table : TableSeen). Some table) given ≡ map (λ (table : TableSeen). Some table) tables

  pub tables-none : (slots : List (GatherSlot N g)) (given tables : List TableSeen) → slots ≡ [] → given ≡ tables → TablesSoFar slots given tables
  tables-none slots given tables none same = record {
    are = ap (λ (l : List (GatherSlot N g)). map (λ (slot : GatherSlot N g). slot.table) l ++ map (λ (table : TableSeen). Some table) given) none
        ∙ ap (λ (l : List TableSeen). map (λ (table : TableSeen). Some table) l) same;
  }

  moved : (slots : List (GatherSlot N g)) (slot : GatherSlot N g) (t : TableSeen) (rest : List TableSeen) → slot.table ≡ Some t
      → map (λ (x : GatherSlot N g). x.table) (slots ++ slot ∷ []) ++ map (λ (table : TableSeen). Some table) rest
      ≡ map (λ (x : GatherSlot N g). x.table) slots ++ map (λ (table : TableSeen). Some table) (t ∷ rest)
  moved [] slot t rest has = ap (λ (o : Option TableSeen). o ∷ map (λ (table : TableSeen). Some table) rest) has
  moved (x ∷ xs) slot t rest has = ap (λ (l : List (Option TableSeen)). x.table ∷ l) (moved xs slot t rest has)

  pub tables-more : (slots new : List (GatherSlot N g)) (slot : GatherSlot N g) (given rest tables : List TableSeen) (t : TableSeen) → given ≡ t ∷ rest → slot.table ≡ Some t
      → new ≡ slots ++ slot ∷ [] → TablesSoFar slots given tables → TablesSoFar new rest tables
  tables-more slots new slot given rest tables t next has pushed so = record {
    are = ap (λ (l : List (GatherSlot N g)). map (λ (x : GatherSlot N g). x.table) l ++ map (λ (table : TableSeen). Some table) rest) pushed
        ∙ (moved slots slot t rest has
        ∙ (ap (λ (l : List TableSeen). map (λ (x : GatherSlot N g). x.table) slots ++ map (λ (table : TableSeen). Some table) l) (sym next) ∙ so.are));
  }

  pub tables-all : (slots : List (GatherSlot N g)) (given tables : List TableSeen) → length given ≡ 0 → TablesSoFar slots given tables → HaveTables slots tables
  tables-all slots [] tables none so = record { are = sym (append-nil (map (λ (x : GatherSlot N g). x.table) slots)) ∙ so.are }
  tables-all slots (t ∷ ts) tables none so = absurd (omega (arith, none))
