use Rattle.std.proofs.Common.{refl}
use Rattle.shard_index.proofs.MarkLemmas.{counted-more, one-count}
use Rattle.shard_index.proofs.marks.count_marks.Goals as goal

pub loop-mark-preserved : goal.loop-mark-preserved
loop-mark-preserved c = record {
  few = one-count c.loop-mark.count c.loop-mark.mark-index c.from-count.result _ c.loop-mark.invariant.few c.from-count.ensures;
  are = counted-more c.args.marks.now c.loop-mark.mark-index c.loop-mark.count c.from-count.result _ c.loop-mark-test.true refl c.from-count.ensures c.loop-mark.invariant.are;
}
