-- Fires that are posted to their bases.
use Rattle.std.proofs.Common.{◌≡◌, inl, inr, ℕ, Bool, List, false, true, sym, ap, subst, ◌∙◌}
use Rattle.fan_base.specs.declared.number.Mark.{Mark}
use Rattle.fan_base.specs.declared.number.Mark.TheVariants as mark
use Rattle.fan_base.specs.declared.outcome.Try.{Try}
use Rattle.fan_base.specs.declared.outcome.Try.TheVariants as try
use Rattle.core_state.specs.declared.table.State.{State}
use Rattle.core_state.specs.declared.schedule.Demand.{Demand}
use Rattle.core_state.specs.declared.schedule.Offer.{Offer}
use Rattle.core_word.specs.Answers.{LandsAt, MeetsAt}
use Rattle.core_word.specs.declared.consumer.Met.{Met}
use Rattle.core_word.specs.declared.consumer.Met.TheVariants as met
use Rattle.core_word.specs.declared.producer.Landed.{Landed}
use Rattle.core_word.specs.declared.producer.Landed.TheVariants as landed
use Rattle.job_trait.specs.Marks.{IsDone}
use Rattle.fan_model.specs.Tasks.{job_of}
use Rattle.fan_parts.specs.declared.jobs.GatherJob.{GatherJob}
use Rattle.fan_parts.specs.Seen.{AskSeen, CallbackSeen, PartSeen, PosterSeen}
use Rattle.core_cells.specs.Seen.{SeenPass}
use Rattle.core_word.specs.Count.{Counts}
use Rattle.core_word.specs.Seen.{HomeId}
use Rattle.run_tasks.specs.Heads.{TellsPart}
use Rattle.run_tasks.specs.Leaving.{CountsLeave, LeavesCell, LeavesSome}
use Rattle.run_tasks.specs.Seen.{TaskSeen, WorldSeen}
use Rattle.run_tasks.specs.Worlds.{Follows, StaysPass, TaskRan}
use Rattle.run_tasks.specs.Posting.{IsFireOf, IsFireOfTask, IsFireTo, Lands, LandsAs, PostsFire, PostsOneAtMost, SuitsCore}

-- a core that is left takes no cell, and hands nothing over
stays : (home : HomeId) (use_number : ℕ) (old new : SeenPass) (count counts : Counts) → LeavesCell home use_number old count new counts
    → StaysPass old new × (counts.handed ≡ count.handed)
stays home use_number old new count counts (inl kept) = (
  record { cells = ap (λ (p : SeenPass). p.cells) kept.0; homes = ap (λ (p : SeenPass). p.homes) kept.0; passes = ap (λ (p : SeenPass). p.passes) kept.0 },
  ap (λ (t : Counts). t.handed) kept.1,
)
stays home use_number old new count counts (inr (inl put, counted)) = (
  record { cells = ap (λ (p : SeenPass). p.cells) put; homes = ap (λ (p : SeenPass). p.homes) put; passes = ap (λ (p : SeenPass). p.passes) put },
  ap (λ (t : Counts). t.handed) counted,
)
stays home use_number old new count counts (inr (inr (same, full), counted)) = (
  record { cells = ap (λ (p : SeenPass). p.cells) same; homes = ap (λ (p : SeenPass). p.homes) same; passes = ap (λ (p : SeenPass). p.passes) same },
  ap (λ (t : Counts). t.handed) counted,
)

left-counts : (old new : SeenPass) (count counts : Counts) → LeavesSome old count new counts → CountsLeave count counts
left-counts old new count counts (home, use_number, inl kept) = inl kept.1
left-counts old new count counts (home, use_number, inr back) = inr back.1

-- what a task sets suits its core
pub suits-part : (ask : AskSeen) (shard : ℕ) (outcome : Try PartSeen) (m : Mark) (number : ℕ)
    → TellsPart ask shard outcome m → number ≡ (job_of ask.number shard).0 → SuitsCore number outcome
suits-part ask shard (try.Value part) (mark.Done count) number tells is = (λ i. (job_of (tells.0 i) (tells.1 i)).0) ∙ sym is
suits-part ask shard (try.Value part) mark.Memory number tells is = absurd tells
suits-part ask shard try.Broken (mark.Done count) number tells is = absurd tells
suits-part ask shard try.Broken mark.Memory number tells is = absurd tells
suits-part ask shard try.Memory m number tells is = tt
suits-part ask shard (try.Cancelled cause) (mark.Done count) number tells is = absurd tells
suits-part ask shard (try.Cancelled cause) mark.Memory number tells is = absurd tells

module _ {N : Type 0} where
  -- what a producer's act answered was landed
  pub landed-posts : (answer : Landed PartSeen CallbackSeen) (found : State) (got : Demand CallbackSeen) (number : ℕ) (outcome : Try PartSeen) (seen old mid new : WorldSeen N)
      → seen ≡ old → LandsAt found got number outcome answer → mid.posters ≡ seen.posters → Lands answer mid new → new.refused ≡ false
      → PostsOneAtMost (IsFireOf number outcome) old.posters new.posters
  landed-posts landed.Waiting found got number outcome seen old mid new is at same lands down =
      inl (ap (λ (w : WorldSeen N). w.posters) lands ∙ same ∙ ap (λ (w : WorldSeen N). w.posters) is)
  landed-posts (landed.Fire fire) found got number outcome seen old mid new is at same lands down =
      inr (fire, (at.1, at.2), subst (λ (l : List (PosterSeen (GatherJob N))). PostsFire fire l new.posters) (same ∙ ap (λ (w : WorldSeen N). w.posters) is) (lands down))

  -- what a consumer met was landed
  pub met-posts : {P : Type 0} (met : Met PartSeen CallbackSeen P) (answer : Landed PartSeen CallbackSeen) (found : State) (got : Offer (Try PartSeen) P) (number : ℕ) (callback : CallbackSeen)
      (seen old mid new : WorldSeen N) → seen ≡ old → MeetsAt found got number callback true met → LandsAs met answer → mid.posters ≡ seen.posters → Lands answer mid new
      → new.refused ≡ false → PostsOneAtMost (IsFireTo number callback) old.posters new.posters
  met-posts met.Waiting answer found got number callback seen old mid new is at told same lands down =
      inl (ap (λ (w : WorldSeen N). w.posters) (subst (λ (a : Landed PartSeen CallbackSeen). Lands a mid new) told lands) ∙ same ∙ ap (λ (w : WorldSeen N). w.posters) is)
  met-posts (met.Fire fire) answer found got number callback seen old mid new is at told same lands down =
      inr (
        fire,
        (at.1, at.2),
        subst (λ (l : List (PosterSeen (GatherJob N))). PostsFire fire l new.posters) (same ∙ ap (λ (w : WorldSeen N). w.posters) is)
            (subst (λ (a : Landed PartSeen CallbackSeen). Lands a mid new) told lands down),
      )
  met-posts (met.Forward forward) answer found got number callback seen old mid new is at told same lands down = absurd told

  -- what a task posts that found its memory has its part
  pub posts-part : (ask : AskSeen) (shard : ℕ) (outcome : Try PartSeen) (m : Mark) (number : ℕ) (old new : List (PosterSeen (GatherJob N)))
      → TellsPart ask shard outcome m → IsDone m → number ≡ (job_of ask.number shard).0
      → PostsOneAtMost (IsFireOf number outcome) old new → PostsOneAtMost (IsFireOfTask (job_of ask.number shard)) old new
  posts-part ask shard outcome m number old new tells done is (inl same) = inl same
  posts-part ask shard (try.Value part) (mark.Done count) number old new tells done is (inr posted) =
      inr (posted.0, (part, (posted.1.0 ∙ is, posted.1.1), λ i. job_of (tells.0 i) (tells.1 i)), posted.2)
  posts-part ask shard (try.Value part) mark.Memory number old new tells done is (inr posted) = absurd tells
  posts-part ask shard try.Broken (mark.Done count) number old new tells done is (inr posted) = absurd tells
  posts-part ask shard try.Broken mark.Memory number old new tells done is (inr posted) = absurd tells
  posts-part ask shard try.Memory (mark.Done count) number old new tells done is (inr posted) = absurd tells
  posts-part ask shard try.Memory mark.Memory number old new tells done is (inr posted) = absurd done
  posts-part ask shard (try.Cancelled cause) (mark.Done count) number old new tells done is (inr posted) = absurd tells
  posts-part ask shard (try.Cancelled cause) mark.Memory number old new tells done is (inr posted) = absurd tells

  -- a core that is left, and what was met there is landed
  pub landed-follows : (seen old new : WorldSeen N) (home : HomeId) (use_number : ℕ) (pass : SeenPass) (tally : Counts) → seen ≡ old
      → LeavesCell home use_number seen.pass seen.tally pass tally → Follows (record seen { pass = pass; tally = tally }) new → Follows old new
  landed-follows seen old new home use_number pass tally is leaves follows =
      let stay = stays home use_number seen.pass pass seen.tally tally leaves in
      subst (λ (w : WorldSeen N). Follows w new) is (record {
        posters = follows.posters;
        cells = follows.cells;
        pass = record { cells = follows.pass.cells ∙ stay.0.cells; homes = follows.pass.homes ∙ stay.0.homes; passes = follows.pass.passes ∙ stay.0.passes };
        refused = follows.refused;
        handed = λ down. follows.handed down ∙ stay.1;
      })

  -- a task whose core was given its outcome
  pub task-ran : (task self : TaskSeen) (seen old new : WorldSeen N) (refused : Bool) (outcome : Try PartSeen) (m : Mark) → task ≡ self → seen ≡ old
      → (refused ≡ false → (seen.refused ≡ false) × IsDone m) → TellsPart task.ask task.shard outcome m → task.producer.no ≡ (job_of task.ask.number task.shard).0
      → Follows (record seen { refused = refused }) new
      → (new.refused ≡ false → LeavesSome seen.pass seen.tally new.pass new.tally)
      → (new.refused ≡ false → PostsOneAtMost (IsFireOf task.producer.no outcome) seen.posters new.posters)
      → TaskRan (job_of self.ask.number self.shard) old m new
  task-ran task self seen old new refused outcome m same is noted part core follows left posted =
      subst (λ (t : TaskSeen). TaskRan (job_of t.ask.number t.shard) old m new) same (subst (λ (w : WorldSeen N). TaskRan (job_of task.ask.number task.shard) w m new) is (record {
        follows = record {
          posters = follows.posters;
          cells = follows.cells;
          pass = follows.pass;
          refused = λ down. (noted (follows.refused down)).0;
          handed = follows.handed;
        };
        done = λ down. (noted (follows.refused down)).1;
        tally = λ down. left-counts seen.pass new.pass seen.tally new.tally (left down);
        left = left;
        posted = λ down. posts-part task.ask task.shard outcome m task.producer.no seen.posters new.posters part (noted (follows.refused down)).1 core (posted down);
      }))
