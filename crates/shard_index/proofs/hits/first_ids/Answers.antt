use Rattle.std.proofs.Common.{get_or}
use Rattle.std.proofs.lemmas.Result.{IfOk-weaker}
use Rattle.shard_index.proofs.HitLemmas.{first-are}
use Rattle.shard_index.proofs.hits.first_ids.Goals as goal

pub returns-then-ascending : goal.returns-then-ascending
returns-then-ascending c =
    IfOk-weaker c.ids_at.result _ _ (λ first are. first-are (λ p. get_or c.args.ids.now p 0) first.items c.args.places.now (c.requires.ascends c.if-ascending.true) are) c.ids_at.ensures
