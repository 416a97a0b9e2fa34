use Rattle.std.proofs.Common.{length}
use Rattle.query_text.proofs.WordLemmas.{HasTaken}
use Rattle.query_text.proofs.words.words_of.Given as goal

abbrev pub invariant-texts : goal.invariant-texts
invariant-texts l = HasTaken l.words l.fields l.initial.fields

abbrev pub decreases-texts : goal.decreases-texts
decreases-texts l = length l.fields
