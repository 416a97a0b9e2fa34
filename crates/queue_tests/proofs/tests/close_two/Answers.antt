use Rattle.std.proofs.Common.{◌≡◌, [], ◌∷◌, ◌++◌, sym, ap, ◌∙◌, refl, rules, arith}
use Rattle.std.proofs.lemmas.List.Elements.{All-cons, All-nil}
use mathlib.Core.Logic.{dite}
use native.Mathlib.Decide.{ℕ_discrete}
use Rattle.notify_queue.specs.Ends.{Sending, AreAllEnds}
use Rattle.queue_tests.proofs.tests.close_two.Goals as goal

pub close-requires : goal.close-requires
close-requires g c =
    let first = c.args.first in
    let second = c.args.second in
    let r = c.args.receiver in
    let P : Sending g.row.M.Denot → Type 0 = λ e. e.queue ≡ r.queue in
    let none : c.expect-ends.result.items ≡ [] = search rules in
    let items : c.push_reserved-2.new.self.items ≡ first ∷ second ∷ [] =
    c.push_reserved-2.ensures.items ∙ ap (λ l. l ++ second ∷ []) c.push_reserved.ensures.items ∙ ap (λ l. (l ++ first ∷ []) ++ second ∷ []) none in
    let all : AreAllEnds r (first ∷ second ∷ []) = record {
      of_queue = All-cons P first (second ∷ []) c.requires.first.0 (All-cons P second [] c.requires.second.0 (All-nil P));
      each = λ s lt. dite (ℕ_discrete s 0)
          (λ e. (0, first, omega arith, refl, c.requires.first.1 ∙ sym e))
          (λ ne. (1, second, omega arith, refl, omega (arith, c.requires.second.1, c.requires.receiver)));
      as_many = sym c.requires.receiver;
    } in
    rw items all
