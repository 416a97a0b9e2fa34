use Rattle.std.proofs.Common.{◌≡◌, ◌+◌, take}
use Rattle.std.specs.List.{count_by}
use Rattle.shard_index.specs.Totals.{marked_at}
use Rattle.shard_index.proofs.marks.mark_at.Given as goal

abbrev pub invariant-loop-place : goal.invariant-loop-place
invariant-loop-place l = record {
  marks : l.marks.items ≡ marked_at l.initial.marks.items (take l.place-index l.places);
  new : count_by (λ mark. mark) l.initial.marks.items + l.new ≡ count_by (λ mark. mark) l.marks.items;
}
