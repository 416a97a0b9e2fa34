use Rattle.std.proofs.Common.{◌++◌, ap, codes, ◌∙◌}
use Rattle.std.specs.Fmt.{decimal}
use Rattle.query_gen.proofs.draws.Draws.word_among.Goals as goal

pub returns : goal.returns
returns c = (c.index-all-number.is ∙ (c.requires.each c.number.result _ c.number.ensures.below ∙ ap (λ n. codes "w" ++ decimal n) c.number.ensures.number), c.number.ensures.state)
