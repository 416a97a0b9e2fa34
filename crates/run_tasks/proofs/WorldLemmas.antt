-- Worlds and the ends of their posters.
use Rattle.std.proofs.Common.{◌≡◌, inl, inr, ℕ, zero, suc, ◌<◌, List, [], ◌∷◌, ◌++◌, false, length, get_or, set, map, refl, sym, ap, subst, ◌∙◌, append_assoc, arith}
use Rattle.std.specs.List.{All}
use Rattle.std.proofs.lemmas.List.{length-map}
use Rattle.fan_parts.specs.declared.jobs.GatherJob.{GatherJob}
use Rattle.fan_parts.specs.Heads.{gather_head}
use Rattle.fan_parts.specs.Seen.{PosterSeen}
use Rattle.notify_queue.specs.Ends.{Sending}
use Rattle.core_cells.specs.Seen.{SeenPass}
use Rattle.core_word.specs.Count.{Counts}
use Rattle.core_word.specs.Seen.{HomeId}
use Rattle.run_tasks.specs.Seen.{WorldSeen}
use Rattle.run_tasks.specs.Leaving.{CountsLeave, CountsTasks, LeavesCell, MakesMore, reopened_times, with_reopened}
use Rattle.job_trait.specs.Marks.{IsDone}
use Rattle.job_trait.specs.Runs.{Leads, Ran, Through}
use Rattle.pool_model.specs.Records.{Record, ran_of}
use Rattle.run_tasks.specs.Worlds.{AreEndsFor, Follows, MadeFor, PosterTold, TaskRan, told_of}

module _ {J : Type 0} where
  -- a poster in the place of one that is the same
  pub told-set : (posters : List (PosterSeen J)) (b : ℕ) (d p : PosterSeen J) → told_of p ≡ told_of (get_or posters b d) → map told_of (set posters b p) ≡ map told_of posters
  told-set [] b d p same = refl
  told-set (q ∷ qs) zero d p same = ap (λ t. t ∷ map told_of qs) same
  told-set (q ∷ qs) (suc b) d p same = ap (λ ts. told_of q ∷ ts) (told-set qs b d p same)

-- each of these marks is of a run that was done
AllDone : List Ran → Type 0
AllDone [] = Unit {0}
AllDone (r ∷ rs) = IsDone r.1 × AllDone rs

done-marks : (records : List Record) → AllDone (ran_of records) → (k : ℕ) (d : Record) → k < length records → IsDone (get_or records k d).mark
unfolding AllDone
done-marks [] done k d within = absurd (omega (arith, within))
done-marks (r ∷ rs) done zero d within = done.0
done-marks (r ∷ rs) done (suc k) d within = done-marks rs done.1 k d (omega (arith, within))

-- once more at the beginning is once more at the end
reopened-last : (n : ℕ) (counts : Counts) → reopened_times n (with_reopened counts) ≡ with_reopened (reopened_times n counts)
reopened-last zero counts = refl
reopened-last (suc n) counts = ap with_reopened (reopened-last n counts)

counts-none : (counts : Counts) → CountsTasks 0 counts counts
counts-none counts = record { freed = 0; few = omega arith; is = refl }

-- one task before so many
counts-first : (tasks : ℕ) (a b c : Counts) → CountsLeave a b → CountsTasks tasks b c → CountsTasks (suc tasks) a c
counts-first tasks a b c (inl same) rest = record { freed = rest.freed; few = omega (arith, rest.few); is = rest.is ∙ ap (reopened_times rest.freed) same }
counts-first tasks a b c (inr freed) rest = record {
  freed = suc rest.freed;
  few = omega (arith, rest.few);
  is = rest.is ∙ (ap (reopened_times rest.freed) freed ∙ reopened-last rest.freed a);
}

-- a core that is left makes none
leave_makes : (n : ℕ) (old new : Counts) → CountsLeave old new → MakesMore n old → MakesMore n new
leave_makes n old new (inl same) makes = subst (λ (t : Counts). MakesMore n t) (sym same) makes
leave_makes n old new (inr freed) makes = subst (λ (t : Counts). MakesMore n t) (sym freed) makes

reopened_makes : (n times : ℕ) (counts : Counts) → MakesMore n counts → MakesMore n (reopened_times times counts)
reopened_makes n zero counts makes = makes
reopened_makes n (suc k) counts makes = reopened_makes n k counts makes

-- tasks that run make none
pub tasks_make : (n tasks : ℕ) (old new : Counts) → CountsTasks tasks old new → MakesMore n old → MakesMore n new
tasks_make n tasks old new counts makes = subst (λ (t : Counts). MakesMore n t) (sym counts.is) (reopened_makes n counts.freed old makes)

module _ {N : Type 0} where
  -- a world whose poster at a place has put something
  pub posted-follows : (seen old : WorldSeen N) (b : ℕ) (d p : PosterSeen (GatherJob N)) → seen ≡ old → told_of p ≡ told_of (get_or seen.posters b d)
      → Follows old (record seen { posters = set seen.posters b p })
  posted-follows seen old b d p is same = record {
    posters = told-set seen.posters b d p same ∙ ap (λ (w : WorldSeen N). map told_of w.posters) is;
    cells = ap (λ (w : WorldSeen N). w.cells) is;
    pass = record {
      cells = ap (λ (w : WorldSeen N). w.pass.cells) is;
      homes = ap (λ (w : WorldSeen N). w.pass.homes) is;
      passes = ap (λ (w : WorldSeen N). w.pass.passes) is;
    };
    refused = λ down. sym (ap (λ (w : WorldSeen N). w.refused) is) ∙ down;
    handed = λ down. ap (λ (w : WorldSeen N). w.tally.handed) is;
  }

  -- a core that is left, and a fire that may be posted behind that
  pub left-cell : (seen old : WorldSeen N) (left home : HomeId) (used use_number : ℕ) (mid new : SeenPass) (count counts : Counts) → seen ≡ old → left ≡ home → used ≡ use_number
      → LeavesCell left used seen.pass seen.tally mid count → new ≡ mid → counts ≡ count → LeavesCell home use_number old.pass old.tally new counts
  left-cell seen old left home used use_number mid new count counts is at by leaves pass tally =
      subst (λ (w : WorldSeen N). LeavesCell home use_number w.pass w.tally new counts) is
      (subst (λ (h : HomeId). LeavesCell h use_number seen.pass seen.tally new counts) at
      (subst (λ (n : ℕ). LeavesCell left n seen.pass seen.tally new counts) by
      (subst (λ (p : SeenPass). LeavesCell left used seen.pass seen.tally p counts) (sym pass)
      (subst (λ (t : Counts). LeavesCell left used seen.pass seen.tally mid t) (sym tally) leaves))))

  -- one end more, where the ends that are still to come fit behind it
  pub ends-more : (all told : List PosterTold) (ends : List (Sending (GatherJob N))) (p : PosterSeen (GatherJob N)) (e : Sending (GatherJob N))
      → ((es : List (Sending (GatherJob N))) → AreEndsFor (told_of p ∷ told) es → AreEndsFor all (ends ++ es))
      → e ≡ p.sender → All (λ job. (gather_head job).exec ≡ p.exec) e.sent
      → (es : List (Sending (GatherJob N))) → AreEndsFor told es → AreEndsFor all ((ends ++ e ∷ []) ++ es)
  ends-more all told ends p e so_far is on es rest =
      subst (λ (xs : List (Sending (GatherJob N))). AreEndsFor all xs) (sym (append_assoc ends (e ∷ []) es))
      (so_far (e ∷ es) (ap (λ (s : Sending (GatherJob N)). s.queue) is, ap (λ (s : Sending (GatherJob N)). s.number) is, on, rest))

  pub follows-itself : (w : WorldSeen N) → Follows w w
  follows-itself w = record { posters = refl; cells = refl; pass = record { cells = refl; homes = refl; passes = refl }; refused = λ down. down; handed = λ down. refl }

  pub follows-on : (w m v : WorldSeen N) → Follows w m → Follows m v → Follows w v
  follows-on w m v first second = record {
    posters = second.posters ∙ first.posters;
    cells = second.cells ∙ first.cells;
    pass = record {
      cells = second.pass.cells ∙ first.pass.cells;
      homes = second.pass.homes ∙ first.pass.homes;
      passes = second.pass.passes ∙ first.pass.passes;
    };
    refused = λ down. first.refused (second.refused down);
    handed = λ down. second.handed down ∙ first.handed (second.refused down);
  }

  record Led (w : WorldSeen N) (list : List Ran) (v : WorldSeen N) : Type 0 where
    follows : Follows w v
    done : v.refused ≡ false → AllDone list
    tally : v.refused ≡ false → CountsTasks (length list) w.tally v.tally

  -- tasks that lead from world to world
  led : (w v : WorldSeen N) (list : List Ran) → Through (TaskRan {N = N}) w list v → Led w list v
  unfolding AllDone
  led w v [] same = record {
    follows = subst (λ (x : WorldSeen N). Follows w x) same (follows-itself w);
    done = λ _. tt;
    tally = λ _. subst (λ (x : WorldSeen N). CountsTasks 0 w.tally x.tally) same (counts-none w.tally);
  }
  led w v (r ∷ rs) ran =
      let rest = led ran.0 v rs ran.2 in
      record {
        follows = follows-on w ran.0 v ran.1.follows rest.follows;
        done = λ down. (ran.1.done (rest.follows.refused down), rest.done down);
        tally = λ down. counts-first (length rs) w.tally ran.0.tally v.tally (ran.1.tally (rest.follows.refused down)) (rest.tally down);
      }

  pub leads-follow : (w v : WorldSeen N) (list : List Ran) → Leads (TaskRan {N = N}) w list v → Follows w v
  leads-follow w v list leads = (led w v list leads.through).follows

  pub leads-done : (w v : WorldSeen N) (records : List Record) → Leads (TaskRan {N = N}) w (ran_of records) v → v.refused ≡ false → All (λ (r : Record). IsDone r.mark) records
  leads-done w v records leads down = done-marks records ((led w v (ran_of records) leads.through).done down)

  pub leads-tally : (w v : WorldSeen N) (records : List Record) → Leads (TaskRan {N = N}) w (ran_of records) v → v.refused ≡ false → CountsTasks (length records) w.tally v.tally
  leads-tally w v records leads down =
      subst (λ (n : ℕ). CountsTasks n w.tally v.tally) (length-map records (λ (r : Record). (r.job, r.mark))) ((led w v (ran_of records) leads.through).tally down)

  -- the front's world, over the calls with which it leaves and runs tasks
  pub left-made : (n : ℕ) (w v : WorldSeen N) → Follows w v → (v.refused ≡ false → CountsLeave w.tally v.tally) → MadeFor n w → MadeFor n v
  left-made n w v follows leave has = record { made = λ down. leave_makes n w.tally v.tally (leave down) (has.made (follows.refused down)) }

  pub leads-made : (n : ℕ) (w v : WorldSeen N) (list : List Ran) → Leads (TaskRan {N = N}) w list v → MadeFor n w → MadeFor n v
  leads-made n w v list leads has =
      let all = led w v list leads.through in
      record { made = λ down. tasks_make n (length list) w.tally v.tally (all.tally down) (has.made (all.follows.refused down)) }
