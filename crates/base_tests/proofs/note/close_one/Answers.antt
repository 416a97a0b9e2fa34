use Rattle.std.proofs.Common.{◌≡◌, [], ◌∷◌, ◌++◌, sym, ap, ◌∙◌, refl, subst, arith}
use Rattle.std.proofs.lemmas.List.Elements.{All-cons, All-nil}
use Rattle.fan_base.specs.declared.number.ExecId.{ExecId}
use Rattle.notify_queue.specs.Ends.{Sending, AreAllEnds}
use Rattle.base_tests.specs.declared.note.Note.{Note}
use Rattle.base_tests.specs.Posts.{AllOn}
use Rattle.base_tests.proofs.note.close_one.Goals as goal

pub close-requires-clause-ends : goal.close-requires-clause-ends
close-requires-clause-ends g c =
    let end = c.args.end in
    let r = c.args.base.queue in
    let P : Sending Note → Type 0 = λ e. e.queue ≡ r.queue in
    let items : c.push_reserved.new.self.items ≡ end ∷ [] = c.push_reserved.ensures.items ∙ ap (λ l. l ++ end ∷ []) c.requires.ends.0 in
    let all : AreAllEnds r (end ∷ []) = record {
      of_queue = All-cons P end [] c.requires.end.0 (All-nil P);
      each = λ s lt. (0, end, omega arith, refl, omega (arith, c.requires.end.1, c.requires.base.0));
      as_many = sym c.requires.base.0;
    } in
    rw items all

pub close-requires-clause-posts : goal.close-requires-clause-posts
close-requires-clause-posts g c =
    let end = c.args.end in
    let exec = c.args.base.agenda.exec in
    let items : c.push_reserved.new.self.items ≡ end ∷ [] = c.push_reserved.ensures.items ∙ ap (λ l. l ++ end ∷ []) c.requires.ends.0 in
    let all = All-cons (AllOn (λ (note : Note). note.0.exec) exec) end [] (subst (λ (x : ExecId). AllOn (λ (note : Note). note.0.exec) x end) (sym c.requires.base.1) c.requires.posts) (All-nil (AllOn (λ (note : Note). note.0.exec) exec)) in
    rw items all
