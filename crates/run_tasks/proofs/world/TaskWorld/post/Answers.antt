use Rattle.std.proofs.Common.{ap, ◌∙◌}
use Rattle.run_tasks.specs.Worlds.{told_of}
use Rattle.run_tasks.proofs.WorldLemmas.{posted-follows}
use Rattle.run_tasks.proofs.world.TaskWorld.post.Goals as goal

pub returns-in-Ok-clause-follows : goal.returns-in-Ok-clause-follows
returns-in-Ok-clause-follows g c =
    posted-follows _ c.args.self.now _ c.index_mut.result.now c.post.new.self c.self.view_is
    (ap told_of c.in-Ok.ensures.ok ∙ ap told_of c.index_mut.ensures.value)
