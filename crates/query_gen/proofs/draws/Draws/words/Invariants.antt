use Rattle.std.proofs.Common.{[]}
use Rattle.query_gen.proofs.SoFar.{IsSoFar, words_at}
use Rattle.query_gen.proofs.draws.Draws.words.Given as goal

abbrev pub invariant-words : goal.invariant-words
invariant-words l = IsSoFar words_at [] l.words.items 0 l.left l.self l.count l.initial.self

abbrev pub decreases-words : goal.decreases-words
decreases-words l = l.left
