-- Worlds one after another, and what a helper's pass has then.
use Rattle.std.proofs.Common.{◌≡◌, ℕ, ◌++◌, List, [], ◌∷◌, refl, sym, ap, ◌∙◌, subst, append_assoc, append-nil}
use Rattle.std.proofs.lemmas.List.Elements.{All-append, All-cons, All-nil}
use Rattle.job_trait.specs.Marks.{IsDone}
use Rattle.pool_model.specs.Records.{Record}
use Rattle.pool_model.specs.Seen.{EndSeen}
use Rattle.prio_pool.specs.declared.pool.Helped.{Helped}
use Rattle.prio_pool.specs.declared.pool.Helped.TheVariants.{Ran, Empty}
use Rattle.prio_pool.specs.Ends.{HelpDid}
use Rattle.run_tasks.specs.Seen.{WorldSeen}
use Rattle.run_tasks.specs.Worlds.{Follows, MadeFor, TaskRan}
use Rattle.run_tasks.proofs.WorldLemmas.{follows-itself, follows-on, left-made}
use Rattle.query_tasks.specs.Starting.{HasHelped}

module _ {N : Type 0} where
  -- a world that follows, without help
  pub unhelped : (w v : WorldSeen N) (old : EndSeen) → Follows w v → HasHelped w old v old
  unhelped w v old follows = record {
    follows = follows;
    pool = refl;
    number = refl;
    more = [];
    records = sym (append-nil old.records);
    done = λ down. All-nil (λ (r : Record). IsDone r.mark);
  }

  pub helped_none : (w : WorldSeen N) (old : EndSeen) → HasHelped w old w old
  helped_none w old = unhelped w w old (follows-itself w)

  pub helped_more : (w m v : WorldSeen N) (old between new : EndSeen) → HasHelped w old m between → HasHelped m between v new → HasHelped w old v new
  helped_more w m v old between new first second = record {
    follows = follows-on w m v first.follows second.follows;
    pool = second.pool ∙ first.pool;
    number = second.number ∙ first.number;
    more = first.more ++ second.more;
    records = second.records
        ∙ (ap (λ (l : List Record). l ++ second.more) first.records ∙ append_assoc old.records first.more second.more);
    done = λ down. All-append (λ (r : Record). IsDone r.mark) first.more second.more (first.done (second.follows.refused down)) (second.done down);
  }

  -- one help
  pub helped_once : (w v : WorldSeen N) (old new : EndSeen) (answer : Helped) → new.pool ≡ old.pool → new.number ≡ old.number
      → HelpDid (TaskRan {N = N}) answer old w new v → HasHelped w old v new
  helped_once w v old new Ran pool number did = record {
    follows = did.led.follows;
    pool = pool;
    number = number;
    more = did.entry ∷ [];
    records = did.list;
    done = λ down. All-cons (λ (r : Record). IsDone r.mark) did.entry [] (did.led.done down) (All-nil (λ (r : Record). IsDone r.mark));
  }
  helped_once w v old new Empty pool number did = record {
    follows = subst (λ (u : WorldSeen N). Follows w u) (sym did.world) (follows-itself w);
    pool = pool;
    number = number;
    more = [];
    records = did.list ∙ sym (append-nil old.records);
    done = λ down. All-nil (λ (r : Record). IsDone r.mark);
  }

  -- helping begins no core
  pub helped_makes : (n : ℕ) (w v : WorldSeen N) (old new : EndSeen) (answer : Helped) → HelpDid (TaskRan {N = N}) answer old w new v → MadeFor n w → MadeFor n v
  helped_makes n w v old new Ran did has = left-made n w v did.led.follows did.led.tally has
  helped_makes n w v old new Empty did has = subst (λ (u : WorldSeen N). MadeFor n u) (sym did.world) has
