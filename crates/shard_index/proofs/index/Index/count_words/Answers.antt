use Rattle.std.proofs.Common.{false, refl, take, ◌∙◌}
use Rattle.shard_index.specs.Places.{holds_in}
use Rattle.shard_index.proofs.IndexLemmas.{many-front}
use Rattle.shard_index.proofs.MarkLemmas.{counted-where, no-marks}
use Rattle.shard_index.proofs.index.Index.count_words.Goals as goal

pub returns : goal.returns
returns c = λ docs stands.
    let first = take c.args.front docs in
    let none = c.in_ok-marks.ensures ∙ no-marks first c.args.front (many-front c.args.self.now docs c.args.front stands c.requires.front) in
    counted-where (holds_in c.args.e.now) first c.deref.result.now c.count_marks.result (c.deref.ensures.value ∙ c.if-not-mark_words.ensures.marks docs (λ doc. false) stands none refl) c.count_marks.ensures
