-- The rule of a queue: what it holds, and what each pass knows.
use Rattle.std.specs.Prelude.{◌≡◌, ℕ, ◌*◌, ◌<◌, ◌≤◌, List, [], ◌++◌, map, length, Option, Some, None, All}
use Rattle.std.specs.List.{sum_by}
use mathlib.Core.Option.{some}
use lib.ListN.{get_elem?}
use Rattle.job_trait.specs.declared.job.Head.{Head}
use Rattle.pool_model.specs.declared.task.Entry.{Entry}
use Rattle.pool_model.specs.History.{Event, PoolHistory, accepts, takes, lefts, outs, accepted_by, taken_by}
use Rattle.task_queue.specs.declared.rule.Queued.{Queued}
use Rattle.task_queue.specs.declared.view.Role.{Role}
use Rattle.task_queue.specs.declared.view.Role.TheVariants.{Maker, Adder, Taker, Gathered, Nobody}
use Rattle.task_queue.specs.declared.view.Share.{Share}
use Rattle.task_queue.specs.declared.view.View.{View}
use Rattle.task_queue.specs.Views.{entry_of, pushes_of, pops_of, room_of, most}

-- What happened, how many parts there are, how many adders and takers were made, and which pass each of these has: none, once it was put to another.
pub record Facts : Type 0 where
  pub history : List Event
  pub whole : ℕ
  pub adders : ℕ
  pub takers : ℕ
  pub adder_at : ℕ → Option ℕ
  pub taker_at : ℕ → Option ℕ

module _ (f : Facts) where
  -- an adder that was put to another pass, and all that it pushed
  pub record IsAdderShare (s : Share) : Type 0 where
    pub gone : f.adder_at s.number ≡ None
    pub made : s.number < f.adders
    pub list : accepted_by s.number f.history ≡ s.entries
    pub short : length s.entries ≤ most

  pub record IsTakerShare (s : Share) : Type 0 where
    pub gone : f.taker_at s.number ≡ None
    pub made : s.number < f.takers
    pub list : taken_by s.number f.history ≡ s.entries

  -- the maker has the first pass; until its parts are given away nothing was left
  pub record KnowsMaker (pass : ℕ) (v : View) : Type 0 where
    pub first : pass ≡ 0
    pub whole : v.whole ≡ f.whole
    pub adders : v.adders ≡ f.adders
    pub takers : v.takers ≡ f.takers
    pub fresh : (v.parts ≡ 0 → v.whole ≡ 0) → lefts f.history ≡ []

  pub record KnowsAdder (pass : ℕ) (v : View) : Type 0 where
    pub parts : v.parts ≡ 1
    pub whole : v.whole ≡ f.whole
    pub own : f.adder_at v.number ≡ Some pass
    pub made : v.number < f.adders
    pub list : accepted_by v.number f.history ≡ v.pushed
    pub short : length v.pushed ≤ most
    pub none_left : lefts f.history ≡ []

  pub record KnowsTaker (pass : ℕ) (v : View) : Type 0 where
    pub parts : v.parts ≡ 1
    pub whole : v.whole ≡ f.whole
    pub own : f.taker_at v.number ≡ Some pass
    pub made : v.number < f.takers
    pub list : taken_by v.number f.history ≡ v.popped
    pub none_left : lefts f.history ≡ []

  pub record KnowsGathered (v : View) : Type 0 where
    pub parts : 0 < v.parts
    pub whole : v.whole ≡ f.whole
    pub added : All IsAdderShare v.added
    pub taken : All IsTakerShare v.taken
    pub left : lefts f.history ≡ v.popped

  abbrev pub KnowsAs : Role → ℕ → View → Type 0
  KnowsAs Maker pass v = KnowsMaker pass v
  KnowsAs Adder pass v = KnowsAdder pass v
  KnowsAs Taker pass v = KnowsTaker pass v
  KnowsAs Gathered pass v = KnowsGathered v
  KnowsAs Nobody pass v = v.parts ≡ 0

  -- what a pass knows is so
  abbrev pub Knows : ℕ → View → Type 0
  Knows pass v = KnowsAs v.role pass v

-- The history is lawful, what was accepted is what is out and then what the queue holds, and what was left is behind all that was taken. The parts of all views are the whole; what all views pushed is,
-- in any order, what was accepted, and what they popped what was taken.
pub record QueueHolds {J : Type 0} (head : J → Head) (items : List (Queued J)) (views : List View) : Type 0 where
  pub facts : Facts
  pub lawful : PoolHistory facts.history
  pub waits : accepts facts.history ≡ outs facts.history ++ map (entry_of head) items
  pub left_last : outs facts.history ≡ takes facts.history ++ lefts facts.history
  pub from_adders : All (λ e. e.ticket.adder < facts.adders) (accepts facts.history)
  pub from_takers : (n : ℕ) → facts.takers ≤ n → taken_by n facts.history ≡ []
  pub parts : sum_by (λ v. v.parts) views ≡ facts.whole
  pub pushed : (h : Entry → ℕ) → sum_by (λ v. sum_by h (pushes_of v)) views ≡ sum_by h (accepts facts.history)
  pub popped : (h : Entry → ℕ) → sum_by (λ v. sum_by h (pops_of v)) views ≡ sum_by h (takes facts.history)
  pub room : sum_by room_of views ≤ 64 * most
  pub knows : (pass : ℕ) (v : View) → get_elem? views pass ≡ some v → Knows facts pass v
