use Rattle.std.proofs.Common.{◌≡◌, [], ◌∷◌, ◌++◌, sym, ap, ◌∙◌, refl, arith}
use Rattle.std.proofs.lemmas.List.Elements.{All-cons, All-nil}
use Rattle.queue_tests.specs.declared.tests.Pledge.{Pledge}
use Rattle.notify_queue.specs.Ends.{Sending, AreAllEnds}
use Rattle.queue_tests.proofs.tests.close_one.Goals as goal

pub close-requires : goal.close-requires
close-requires g c =
    let end = c.args.end in
    let r = c.args.receiver in
    let P : Sending Pledge → Type 0 = λ e. e.queue ≡ r.queue in
    let items : c.push_reserved.new.self.items ≡ end ∷ [] = c.push_reserved.ensures.items ∙ ap (λ l. l ++ end ∷ []) c.requires.ends.0 in
    let all : AreAllEnds r (end ∷ []) = record {
      of_queue = All-cons P end [] c.requires.end.0 (All-nil P);
      each = λ s lt. (0, end, omega arith, refl, omega (arith, c.requires.end.1, c.requires.receiver));
      as_many = sym c.requires.receiver;
    } in
    rw items all
