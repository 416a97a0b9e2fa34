use Rattle.std.proofs.Common.{◌≡◌, [], refl, ap, subst, append-nil, Err, inl, inr}
use Rattle.query_model.specs.declared.fault.InputFault.TheVariants as fault
use Rattle.query_model.specs.Reading.{Refuses}
use Rattle.query_text.proofs.ReadLemmas.{accepts_all}
use Rattle.query_text.proofs.read.read_whole.Goals as goal

pub returns-in-Ok-clause-accepted : goal.returns-in-Ok-clause-accepted
returns-in-Ok-clause-accepted c = rw c.into_table.ensures (accepts_all c.args.bytes.now c.args.shards c.in-Ok.reading (c.in-Ok.ensures.more [] (inl refl) (c.new.ensures.nothing c.args.shards)))

pub returns-in-Err-clause-refused : goal.returns-in-Err-clause-refused
returns-in-Err-clause-refused c = λ bad is.
    let same : c.in-Err.fault ≡ fault.Bad bad = cc in
    subst (λ bytes. Refuses bytes c.args.shards bad) (append-nil c.args.bytes.now)
    (c.in-Err.ensures.refused bad (ap (λ f. Err f) same) [] [] (inl refl) (c.new.ensures.nothing c.args.shards) (inr refl))
