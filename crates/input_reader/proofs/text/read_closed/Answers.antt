use Rattle.std.proofs.Common.{rules, ◌≡◌, ◌++◌, Err, ap, sym, subst, ◌∙◌}
use Rattle.query_model.specs.Pieces.{Bytes}
use Rattle.query_model.specs.Reading.{Refuses}
use Rattle.input_reader.specs.declared.text.ReadLines.TheVariants.{UpTo}
use Rattle.input_reader.specs.Texts.{EndsInFeed, HasNoFeed, IsReadAs}
use Rattle.input_reader.proofs.TextLemmas.{some_closed, one_refused}
use Rattle.input_reader.proofs.text.read_closed.Goals as goal

pub returns-in_ok-extend_from_slice-in-Ok : goal.returns-in_ok-extend_from_slice-in-Ok
returns-in_ok-extend_from_slice-in-Ok c = λ text read.
    let parts : c.args.chunk.now ≡ c.in-Some.closed.now ++ c.in-Some.rest.now = search rules in
    let feed : EndsInFeed c.in-Some.closed.now = search rules in
    let clear : HasNoFeed c.in-Some.rest.now = search rules in
    let whole : c.as_slice.result.now ≡ c.args.tail.now.items ++ c.in-Some.closed.now = c.as_slice.ensures.value ∙ c.in_ok-extend_from_slice-2.ensures.items in
    let rest : c.extend_from_slice-in-Ok.new.self.items ≡ c.in-Some.rest.now = c.in_ok-extend_from_slice-in-Ok.ensures.items ∙ ap (λ (xs : Bytes). xs ++ c.in-Some.rest.now) c.clear.ensures.items in
    subst (λ xs. IsReadAs c.args.shards (text ++ c.args.chunk.now) xs (UpTo c.in-Ok.more)) (sym rest)
    (some_closed c.args.shards text c.args.tail.now.items c.args.reading c.args.chunk.now c.in-Some.closed.now c.in-Some.rest.now c.as_slice.result.now parts feed whole c.in-Ok.more clear c.in-Ok.ensures.more
    c.in-Ok.ensures.number read)

pub returns-in-Err-Bad : goal.returns-in-Err-Bad
returns-in-Err-Bad c = λ text read.
    let parts : c.args.chunk.now ≡ c.in-Some.closed.now ++ c.in-Some.rest.now = search rules in
    let feed : EndsInFeed c.in-Some.closed.now = search rules in
    let whole : c.as_slice.result.now ≡ c.args.tail.now.items ++ c.in-Some.closed.now = c.as_slice.ensures.value ∙ c.in_ok-extend_from_slice-2.ensures.items in (
      c.clear-in-Err-Bad.ensures.items,
      λ rest.
          subst (λ b. Refuses (text ++ c.args.chunk.now ++ rest) c.args.shards b) (sym c.in-Err-Bad.bad-is)
          (one_refused c.args.shards text c.args.tail.now.items c.args.reading c.args.chunk.now c.in-Some.closed.now c.in-Some.rest.now c.as_slice.result.now parts feed whole c.in-Err-Bad.bad
          (c.in-Err-Bad.ensures.refused c.in-Err-Bad.bad (ap (λ e. Err e) c.in-Err-Bad.field-0-is)) read rest),
    )
