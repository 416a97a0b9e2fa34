-- The phases of a round, as far as they have come: a start, a step and an end for each.
use Rattle.std.proofs.Common.{◌≡◌, ℕ, ◌+◌, ◌<◌, ◌≤◌, ◌⊎◌, inl, inr, min, true, List, [], ◌∷◌, ◌++◌, length, take, refl, sym, subst, ap, ◌∙◌, append_assoc, arith, length-append}
use Rattle.std.specs.List.{flat_map, sum_by}
use Rattle.std.proofs.lemmas.List.{map-append, take_all, flat_map_more, append-nil, length_push}
use Rattle.std.proofs.lemmas.List.Sums.{sum_by-append}
use Rattle.std.proofs.Math.Seq.{take-append_seam}
use Rattle.fan_base.specs.declared.number.JobId.{JobId}
use Rattle.fan_base.specs.declared.number.Mark.{Mark}
use Rattle.job_trait.specs.declared.job.Head.{Head}
use Rattle.job_trait.specs.Marks.{IsMarkOf}
use Rattle.event_base.specs.Seen.{AgendaSeen, settled}
use Rattle.event_base.specs.Calls.{IsReached}
use Rattle.event_base.specs.Turns.{Turn, Place, LeavesAgenda, TakesBefore, TakesLoop, jobs_of, for_this_phase, added_to_phase, IsTurn, AreTurns}
use Rattle.event_base.specs.Rounds.{in_phase, ticked, IsBeforePhase, AllRun, IsTick, TicksThrough, AreTicks, IsLoopPhase}
use Rattle.event_base.specs.SoFar.{LoopSoFar}
use Rattle.event_base.proofs.Calling.{makes_keep, makes_extend, makes_add}
use Rattle.event_base.proofs.Turning.{turns_none, turns_more, turns_keep_tick}

module _ {J : Type 0} where
  jobs_of-more : (turns : List (Turn J)) (turn : Turn J) → jobs_of (turns ++ turn ∷ []) ≡ jobs_of turns ++ turn.job ∷ []
  jobs_of-more turns turn = map-append (λ (t : Turn J). t.job) turns (turn ∷ [])

  length-jobs_of : (turns : List (Turn J)) → length (jobs_of turns) ≡ length turns
  length-jobs_of [] = refl
  length-jobs_of (t ∷ ts) = omega (arith, length-jobs_of ts)

  -- two lists that begin as long are equal there
  same_front : (xs ys us vs : List J) → xs ++ us ≡ ys ++ vs → length xs ≡ length ys → xs ≡ ys
  same_front xs ys us vs e l =
      sym (take-append_seam xs us) ∙ ap (λ (n : ℕ). take n (xs ++ us)) l ∙ ap (λ (zs : List J). take (length ys) zs) e ∙ take-append_seam ys vs

  -- one more is taken from the front
  one_more : (done rest all : List J) (job : J) → done ++ job ∷ rest ≡ all → (done ++ job ∷ []) ++ rest ≡ all
  one_more done rest all job e = append_assoc done (job ∷ []) rest ∙ e

module _ {W J : Type 0} (step : J → AgendaSeen J → AgendaSeen J → Type 0) (head : J → Head) (runs : JobId → Place W J → Mark → Place W J → Type 0) where
  -- what a step and a run make one turn of
  pub turn_of : (p : Place W J) (c : AgendaSeen J) (job : J) (mark : Mark) (q : Place W J) → step job p.1 c → IsMarkOf (head job).number mark → runs (head job).id (p.0, c) mark q → (reached : IsReached head c q.1)
      → IsTurn step head runs p (record { job = job; mark = mark; calls = reached.calls }) q
  turn_of p c job mark q stepped marked ran reached = record { between = c; stepped = stepped; marked = marked; ran = ran; called = reached.makes }

module _ {W J : Type 0} (head : J → Head) (runs : JobId → Place W J → Mark → Place W J → Type 0) where
  -- The beginning of a round: so many callbacks ran.
  pub record BeforeSoFar (p : Place W J) (count : ℕ) (q : Place W J) : Type 0 where
    pub turns : List (Turn J)
    pub as_many : length turns ≡ count
    pub ran : AreTurns TakesBefore head runs p turns q
    pub extra : List J
    pub kept : jobs_of turns ++ q.1.before ≡ p.1.before ++ extra

  pub before_start : (p : Place W J) → BeforeSoFar p 0 p
  before_start p = record { turns = []; as_many = refl; ran = turns_none TakesBefore head runs p; extra = []; kept = sym (append-nil p.1.before) }

  pub before_step : (p m : Place W J) (count : ℕ) (c : AgendaSeen J) (job : J) (mark : Mark) (q : Place W J) → BeforeSoFar p count m → TakesBefore job m.1 c → IsMarkOf (head job).number mark → runs (head job).id (m.0, c) mark q → IsReached head c q.1
      → BeforeSoFar p (count + 1) q
  before_step p m count c job mark q sofar stepped marked ran reached =
      let turn : Turn J = record { job = job; mark = mark; calls = reached.calls } in
      let more = makes_extend head c reached.calls q.1 reached.makes in
      let front = one_more (jobs_of sofar.turns) c.before (p.1.before ++ sofar.extra) job (ap (λ (l : List J). jobs_of sofar.turns ++ l) (sym (ap (λ (a : AgendaSeen J). a.before) stepped)) ∙ sofar.kept) in
      record {
        turns = sofar.turns ++ turn ∷ [];
        as_many = length_push sofar.turns turn ∙ ap (λ (n : ℕ). n + 1) sofar.as_many;
        ran = turns_more TakesBefore head runs p m q sofar.turns turn sofar.ran (turn_of TakesBefore head runs m c job mark q stepped marked ran reached);
        extra = sofar.extra ++ more.0;
        kept = ap (λ (l : List J). l ++ q.1.before) (jobs_of-more sofar.turns turn)
            ∙ ap (λ (l : List J). (jobs_of sofar.turns ++ job ∷ []) ++ l) more.1
            ∙ sym (append_assoc (jobs_of sofar.turns ++ job ∷ []) c.before more.0)
            ∙ ap (λ (l : List J). l ++ more.0) front
            ∙ append_assoc p.1.before sofar.extra more.0;
      }

  -- as long as fewer ran than were held, one is there
  pub before_some : (p q : Place W J) (count : ℕ) → BeforeSoFar p count q → count < length p.1.before → q.1.before ≡ [] → ⊥
  before_some p q count sofar below none =
      let lengths = ap length (sym (append-nil (jobs_of sofar.turns)) ∙ ap (λ (l : List J). jobs_of sofar.turns ++ l) (sym none) ∙ sofar.kept) in
      absurd (omega (arith, lengths, length-append p.1.before sofar.extra, length-jobs_of sofar.turns, sofar.as_many, below))

  pub before_end : (p q : Place W J) (count n : ℕ) → BeforeSoFar p count q → count ≡ length p.1.before → n ≡ count → (turns : List (Turn J)) × (n ≡ length turns) × IsBeforePhase head runs p turns q
  before_end p q count n sofar all same = (
    sofar.turns,
    same ∙ sym sofar.as_many,
    record {
      jobs = same_front (jobs_of sofar.turns) p.1.before q.1.before sofar.extra sofar.kept (length-jobs_of sofar.turns ∙ sofar.as_many ∙ all);
      ran = sofar.ran;
    },
  )

  -- Jobs of a list run one after another: those that are left.
  pub record AllSoFar (all : List J) (p : Place W J) (rest : List J) (q : Place W J) : Type 0 where
    pub turns : List (Turn J)
    pub ran : AreTurns LeavesAgenda head runs p turns q
    pub kept : jobs_of turns ++ rest ≡ all

  pub all_start : (all : List J) (p : Place W J) → AllSoFar all p all p
  all_start all p = record { turns = []; ran = turns_none LeavesAgenda head runs p; kept = refl }

  pub all_step : (all : List J) (p m : Place W J) (left : List J) (job : J) (rest : List J) (mark : Mark) (q : Place W J) → AllSoFar all p left m → left ≡ job ∷ rest → IsMarkOf (head job).number mark → runs (head job).id m mark q → IsReached head m.1 q.1
      → AllSoFar all p rest q
  all_step all p m left job rest mark q sofar first marked ran reached =
      let turn : Turn J = record { job = job; mark = mark; calls = reached.calls } in
      record {
        turns = sofar.turns ++ turn ∷ [];
        ran = turns_more LeavesAgenda head runs p m q sofar.turns turn sofar.ran (turn_of LeavesAgenda head runs m m.1 job mark q refl marked ran reached);
        kept = ap (λ (l : List J). l ++ rest) (jobs_of-more sofar.turns turn) ∙ one_more (jobs_of sofar.turns) rest all job (ap (λ (l : List J). jobs_of sofar.turns ++ l) (sym first) ∙ sofar.kept);
      }

  pub all_end : (all : List J) (p q : Place W J) (rest : List J) → AllSoFar all p rest q → rest ≡ [] → (turns : List (Turn J)) × AllRun head runs all p turns q
  all_end all p q rest sofar none = (
    sofar.turns,
    record {
      each = sym (append-nil (jobs_of sofar.turns)) ∙ ap (λ (l : List J). jobs_of sofar.turns ++ l) (sym none) ∙ sofar.kept;
      ran = sofar.ran;
    },
  )

  pub loop_start : (p : Place W J) → p.1.in_loop ≡ true → LoopSoFar head runs p 0 p
  loop_start p on = record { turns = []; as_many = refl; ran = turns_none TakesLoop head runs p; phase = on; kept = sym (append-nil p.1.loops) }

  pub loop_step : (p m : Place W J) (count : ℕ) (c : AgendaSeen J) (job : J) (mark : Mark) (q : Place W J) → LoopSoFar head runs p count m → TakesLoop job m.1 c → IsMarkOf (head job).number mark → runs (head job).id (m.0, c) mark q → IsReached head c q.1
      → LoopSoFar head runs p (count + 1) q
  loop_step p m count c job mark q sofar stepped marked ran reached =
      let turn : Turn J = record { job = job; mark = mark; calls = reached.calls } in
      let on = sym (ap (λ (a : AgendaSeen J). a.in_loop) stepped) ∙ sofar.phase in
      let more = makes_add head c reached.calls q.1 reached.makes on in
      let added = flat_map for_this_phase reached.calls in
      let front = one_more (jobs_of sofar.turns) c.loops (p.1.loops ++ added_to_phase sofar.turns) job (ap (λ (l : List J). jobs_of sofar.turns ++ l) (sym (ap (λ (a : AgendaSeen J). a.loops) stepped)) ∙ sofar.kept) in
      record {
        turns = sofar.turns ++ turn ∷ [];
        as_many = length_push sofar.turns turn ∙ ap (λ (n : ℕ). n + 1) sofar.as_many;
        ran = turns_more TakesLoop head runs p m q sofar.turns turn sofar.ran (turn_of TakesLoop head runs m c job mark q stepped marked ran reached);
        phase = (makes_keep head c reached.calls q.1 reached.makes).2 ∙ on;
        kept = ap (λ (l : List J). l ++ q.1.loops) (jobs_of-more sofar.turns turn)
            ∙ ap (λ (l : List J). (jobs_of sofar.turns ++ job ∷ []) ++ l) more.0
            ∙ sym (append_assoc (jobs_of sofar.turns ++ job ∷ []) c.loops added)
            ∙ ap (λ (l : List J). l ++ added) front
            ∙ flat_map_more (λ (t : Turn J). flat_map for_this_phase t.calls) p.1.loops sofar.turns turn;
      }

  -- at the limit, or where nothing is held any more
  pub loop_end : (limit count : ℕ) (p : Place W J) (start : AgendaSeen J) (q : Place W J) (last : AgendaSeen J) → start ≡ in_phase p.1 → last ≡ settled q.1
      → LoopSoFar head runs (p.0, start) count q → count ≤ limit → (count ≡ limit) ⊎ (q.1.loops ≡ [])
      → (turns : List (Turn J)) × (count ≡ length turns) × IsLoopPhase head runs limit p turns (q.0, last)
  loop_end limit count p start q last begun ended all within (inl full) =
      let sofar = subst (λ (s : AgendaSeen J). LoopSoFar head runs (p.0, s) count q) begun all in (
        sofar.turns,
        sym sofar.as_many,
        record {
          end = q.1;
          jobs = sym (take-append_seam (jobs_of sofar.turns) q.1.loops) ∙ ap (λ (n : ℕ). take n (jobs_of sofar.turns ++ q.1.loops)) (length-jobs_of sofar.turns ∙ sofar.as_many ∙ full) ∙ ap (λ (l : List J). take limit l) sofar.kept;
          ran = sofar.ran;
          ended = ended;
        },
      )
  loop_end limit count p start q last begun ended all within (inr none) =
      let sofar = subst (λ (s : AgendaSeen J). LoopSoFar head runs (p.0, s) count q) begun all in (
        sofar.turns,
        sym sofar.as_many,
        record {
          end = q.1;
          jobs = sym (take_all limit (jobs_of sofar.turns) (omega (arith, length-jobs_of sofar.turns, sofar.as_many, within)))
              ∙ ap (λ (l : List J). take limit l) (sym (append-nil (jobs_of sofar.turns)) ∙ ap (λ (l : List J). jobs_of sofar.turns ++ l) (sym none) ∙ sofar.kept);
          ran = sofar.ran;
          ended = ended;
        },
      )

  -- So many ticks were made, and so many timers ran at them.
  pub record TicksSoFar (p : Place W J) (count timers : ℕ) (q : Place W J) : Type 0 where
    pub made : List (List (Turn J))
    pub as_many : length made ≡ count
    pub ran : AreTicks head runs p made q
    pub timers_are : timers ≡ min (sum_by length made) 18446744073709551615
    pub tick : q.1.wheel.tick ≡ p.1.wheel.tick + count

  pub ticks_start : (p : Place W J) → TicksSoFar p 0 0 p
  ticks_start p = record { made = []; as_many = refl; ran = record { through = refl }; timers_are = refl; tick = omega arith }

  ticks-append : (p m q : Place W J) (xs ys : List (List (Turn J))) → TicksThrough head runs p xs m → TicksThrough head runs m ys q → TicksThrough head runs p (xs ++ ys) q
  ticks-append p m q [] ys first second = subst (λ (u : Place W J). TicksThrough head runs u ys q) (sym first) second
  ticks-append p m q (x ∷ xs) ys first second = (first.0, first.1, ticks-append first.0 m q xs ys first.2 second)

  pub ticks_step : (p m : Place W J) (count timers : ℕ) (turns : List (Turn J)) (n : ℕ) (q : Place W J) → TicksSoFar p count timers m → n ≡ length turns → IsTick head runs m turns q
      → TicksSoFar p (count + 1) (min (timers + n) 18446744073709551615) q
  ticks_step p m count timers turns n q sofar as_many one =
      let kept = turns_keep_tick head runs (m.0, ticked m.1) q turns one.ran in
      record {
        made = sofar.made ++ turns ∷ [];
        as_many = length_push sofar.made turns ∙ ap (λ (n : ℕ). n + 1) sofar.as_many;
        ran = record { through = ticks-append p m q sofar.made (turns ∷ []) sofar.ran.through (q, one, refl) };
        timers_are = omega (arith, sofar.timers_are, as_many, sum_by-append length sofar.made (turns ∷ []));
        tick = omega (arith, kept, sofar.tick);
      }
