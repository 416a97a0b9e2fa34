use Rattle.run_tasks.proofs.PostingLemmas.{suits-part, task-ran}
use Rattle.run_tasks.proofs.run.ShardTaskJobTaskWorld.run.Goals as goal

pub fulfil-requires : goal.fulfil-requires
fulfil-requires g c = record { outcome = suits-part c.self.inside.ask _ _ _ _ c.answer_task-outcome.ensures.part c.self.invariant.1 }

pub returns-clause-meaning : goal.returns-clause-meaning
returns-clause-meaning g c =
    task-ran _ c.args.self _ c.args.world.now _ _ _ _ c.self.view_is c.world.view_is c.answer_task-outcome.ensures.noted c.answer_task-outcome.ensures.part c.self.invariant.1
    c.fulfil.ensures.follows (λ down. (_, _, c.fulfil.ensures.left down)) c.fulfil.ensures.posted
