use Rattle.query_model.specs.Answers.{hits_of}
use Rattle.query_model.specs.Parts.{part_before}
use Rattle.std.proofs.Common.{◌++◌, ◌∷◌, [], ◌<◌, length, sym, subst, ◌∙◌, arith}
use Rattle.shard_index.specs.declared.shard.Shard.{Shard}
use Rattle.shard_index.specs.Standing.{StandsFor}
use Rattle.shard_index.proofs.MergeLemmas.{by_shard-push}
use Rattle.shard_index.proofs.shards.Shards.find_in_each.Goals as goal

pub loop-number-preserved : goal.loop-number-preserved
loop-number-preserved c = λ docs stands.
    let shards = c.args.self.now.shards.items in
    let number = c.loop-number.number in
    let within : number < length shards = omega (arith, c.loop-number-test.true, c.len-number-end.ensures, c.args.self.now.shards.ok) in
    let stand = subst (λ (shard : Shard). StandsFor shard docs (length shards) number) (sym c.index.ensures) (stands.each number c.index.result.now within) in
    c.in_ok-push.ensures
    ∙ ((λ k. c.loop-number.invariant docs stands k ++ c.in_ok-find.ensures docs (length shards) number stand k ∷ [])
    ∙ by_shard-push (λ n. hits_of c.args.e.now (part_before docs (length shards) n c.args.before)) number)
