use Rattle.std.proofs.Common.{◌≡◌, sym, subst}
use Rattle.query_model.specs.Reading.{Refuses}
use Rattle.input_reader.specs.declared.text.ReadLines.TheVariants.{UpTo}
use Rattle.input_reader.specs.Texts.{IsReadAs}
use Rattle.input_reader.proofs.TextLemmas.{if_ok, refused_whole}
use Rattle.input_reader.proofs.text.TextSoFar.end.Goals as goal

pub returns-in-UpTo-clause-accepted : goal.returns-in-UpTo-clause-accepted
returns-in-UpTo-clause-accepted c = if_ok c.read_last.result c.read_last.ensures.accepted (λ lines accepts text t.
    accepts text
    (subst (λ xs. IsReadAs c.args.shards text xs (UpTo c.in-UpTo.reading)) (sym c.as_slice.ensures.value) (subst (λ ls. IsReadAs c.args.shards text c.args.self.tail.items ls) c.in-UpTo.is t.read)))

pub returns-clause-refused : goal.returns-clause-refused
returns-clause-refused c = λ bad is text t.
    let same : c.in-Refused.bad ≡ bad = cc in
    subst (λ b. Refuses text c.args.shards b) same
    (refused_whole c.args.shards text c.args.self.tail.items c.in-Refused.bad (subst (λ ls. IsReadAs c.args.shards text c.args.self.tail.items ls) c.in-Refused.is t.read))
