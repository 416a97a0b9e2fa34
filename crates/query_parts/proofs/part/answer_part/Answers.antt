use Rattle.std.proofs.Common.{ap, sym, ◌∙◌}
use Rattle.query_model.specs.Parts.{part_before}
use Rattle.query_parts.specs.declared.part.PartAnswer.TheVariants as part
use Rattle.query_parts.specs.Parts.{part_answer}
use Rattle.query_parts.proofs.part.answer_part.Goals as goal

pub returns-in_ok-count-in-Count : goal.returns-in_ok-count-in-Count
returns-in_ok-count-in-Count c = λ docs shards number stands.
    let own = part_before docs shards number c.args.before in
    ap (λ n. part.Count n) (c.in_ok-count-in-Count.ensures docs shards number stands)
    ∙ sym (ap (λ a. part_answer a own) c.in-Count.is)

pub returns-in_ok-count-in-Present : goal.returns-in_ok-count-in-Present
returns-in_ok-count-in-Present c = λ docs shards number stands.
    let own = part_before docs shards number c.args.before in
    ap (λ n. part.Present n) (c.in_ok-count-in-Present.ensures docs shards number stands)
    ∙ sym (ap (λ a. part_answer a own) c.in-Present.is)
