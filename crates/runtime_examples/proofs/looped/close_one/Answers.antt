use Rattle.std.proofs.Common.{◌≡◌, [], ◌∷◌, ◌++◌, sym, ap, ◌∙◌, refl, subst, arith}
use Rattle.std.specs.List.{All}
use Rattle.std.proofs.lemmas.List.Elements.{All-cons, All-nil}
use Rattle.fan_base.specs.declared.number.ExecId.{ExecId}
use Rattle.notify_queue.specs.Ends.{Sending, AreAllEnds}
use Rattle.runtime_examples.specs.declared.looped.Note.{Note}
use Rattle.runtime_examples.proofs.looped.close_one.Goals as goal

pub close-requires-clause-ends : goal.close-requires-clause-ends
close-requires-clause-ends g c =
    let end = c.args.end in
    let r = c.args.base.queue in
    let P : Sending Note → Type 0 = λ e. e.queue ≡ r.queue in
    let items : c.push_reserved.new.self.items ≡ end ∷ [] = c.push_reserved.ensures.items ∙ ap (λ l. l ++ end ∷ []) c.requires.ends.0 in
    let all : AreAllEnds r (end ∷ []) = record {
      of_queue = All-cons P end [] c.requires.end.0 (All-nil P);
      each = λ s lt. (0, end, omega arith, refl, omega (arith, c.requires.end.1, c.requires.base.0));
      as_many = sym c.requires.base.0;
    } in
    rw items all

pub close-requires-clause-posts : goal.close-requires-clause-posts
close-requires-clause-posts g c =
    let end = c.args.end in
    let exec = c.args.base.agenda.exec in
    let P : Sending Note → Type 0 = λ e. All (λ (n : Note). n.0.exec ≡ exec) e.sent in
    let items : c.push_reserved.new.self.items ≡ end ∷ [] = c.push_reserved.ensures.items ∙ ap (λ l. l ++ end ∷ []) c.requires.ends.0 in
    let all = All-cons P end [] (subst (λ (x : ExecId). All (λ (n : Note). n.0.exec ≡ x) end.sent) (sym c.requires.base.1) c.requires.posts) (All-nil P) in
    rw items all
