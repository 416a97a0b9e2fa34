use Rattle.std.proofs.Common.{◌≡◌}
use Rattle.base_tests.specs.declared.note.Note.{Note}
use Rattle.base_tests.specs.Posts.{AllOn, of_tests}
use Rattle.base_tests.proofs.note.post_all.Given as goal

abbrev pub invariant-loop-id : goal.invariant-loop-id
invariant-loop-id g l = record {
  queue : l.poster.queue ≡ l.initial.poster.queue;
  number : l.poster.number ≡ l.initial.poster.number;
  posts : AllOn (λ (note : Note). note.0.exec) of_tests l.poster;
}
