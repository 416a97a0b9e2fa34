use Rattle.std.proofs.Common.{◌≡◌, ◌++◌, ◌∷◌, [], map, sym, ap, ◌∙◌, append_assoc}
use Rattle.std.proofs.lemmas.List.{map-append}
use Rattle.std.proofs.lemmas.List.Elements.{All-rest}
use Rattle.notify_queue.specs.declared.delivery.Knowledge.{Knowledge}
use Rattle.notify_queue.specs.Ends.{Sending, whole_of}
use Rattle.notify_queue.specs.Passes.{known_by}
use Rattle.notify_queue.proofs.Lists.{All-first}
use Rattle.notify_queue.proofs.channel.Channel.join_ends.Goals as goal

pub join_end-requires : goal.join_end-requires
join_end-requires g c =
    let M = g.row.M.Denot in
    let P : Sending M → Type 0 = λ e. e.queue.line ≡ c.args.self.now.line in
    let first = All-first P _ _ _ c.in-Some.ensures.steps.0 c.loop-end.invariant.left in
    (c.loop-end.invariant.pass_of, rw (← first) c.into_pass.ensures.0)

pub loop-end-preserved : goal.loop-end-preserved
loop-end-preserved g c =
    let M = g.row.M.Denot in
    let P : Sending M → Type 0 = λ e. e.queue.line ≡ c.args.self.now.line in
    let step = c.in-Some.ensures.steps.0 in
    let before = c.loop-end.invariant in
    let joined = c.join_end.ensures.ended in
    let was = (known_by c.args.pass.now).ended in
    record {
      pass_of = c.join_end.ensures.pass;
      left = All-rest P _ _ _ step before.left;
      all = append_assoc c.loop-end.yielded (c.in-Some.end ∷ []) _ ∙ ap (λ l. c.loop-end.yielded ++ l) (sym step) ∙ before.all;
      same = (ap (λ (v : Knowledge M). v.made) joined ∙ before.same.0, ap (λ (v : Knowledge M). v.taken) joined ∙ before.same.1);
      ended = ap (λ (v : Knowledge M). v.ended) joined ∙ ap (λ l. l ++ (known_by c.into_pass.result).ended) before.ended
          ∙ ap (λ (v : Knowledge M). (was ++ map whole_of c.loop-end.yielded) ++ v.ended) c.into_pass.ensures.1
          ∙ append_assoc was (map whole_of c.loop-end.yielded) (whole_of c.in-Some.end ∷ [])
          ∙ ap (λ l. was ++ l) (sym (map-append whole_of c.loop-end.yielded (c.in-Some.end ∷ [])));
    }
