use Rattle.std.proofs.Common.{ℕ, ◌∙◌, replicate, arith}
use Rattle.std.proofs.lemmas.List.{length-take-le, get_or-take, get_or-replicate, length-replicate}
use Rattle.notify_queue.proofs.Markings.{opens}
use Rattle.notify_queue.proofs.channel.steps.clear_marks.Goals as goal

pub vacant-requires : goal.vacant-requires
vacant-requires g c =
    let word = c.word_of.ensures in
    let long = length-take-le c.word_of.result (replicate 512 0) (omega (arith, word, length-replicate {A = ℕ} 512 0)) in
    opens _ _ _ (long ∙ word) (λ k lt. get_or-take c.word_of.result (replicate 512 0) k 0 (omega (arith, long, lt)) ∙ get_or-replicate 512 k 0 0 (omega (arith, long, lt, word)))
