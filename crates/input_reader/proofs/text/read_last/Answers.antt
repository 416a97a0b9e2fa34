use Rattle.std.proofs.Common.{◌≡◌, Err, ap, subst}
use Rattle.query_model.specs.Reading.{Refuses}
use Rattle.input_reader.proofs.TextLemmas.{last_refused}
use Rattle.input_reader.proofs.text.read_last.Goals as goal

pub returns-in-Err-Bad-clause-refused : goal.returns-in-Err-Bad-clause-refused
returns-in-Err-Bad-clause-refused c = λ bad is text read.
    let same : c.in-Err-Bad.bad ≡ bad = cc in
    subst (λ b. Refuses text c.args.shards b) same
    (last_refused c.args.shards text c.args.tail.now c.args.reading c.in-Err-Bad.bad (c.in-Err-Bad.ensures.refused c.in-Err-Bad.bad (ap (λ e. Err e) c.in-Err-Bad.field-0-is)) read)
