use Rattle.std.proofs.Common.{◌≡◌, ◌∙◌, refl, subst}
use Rattle.fan_base.specs.Outside.{shown}
use Rattle.query_model.specs.Output.{error_text}
use Rattle.folly_query.specs.Endings.{IsWritten}
use Rattle.folly_query.proofs.EndingLemmas.{written_or_front}
use Rattle.folly_query.proofs.run.refuse.Goals as goal

pub returns : goal.returns
returns g c =
    let old = shown (g.K.Sink.holds c.args.sink.now) (g.K.Sink.faults c.args.sink.now) in
    let new = shown (g.K.Sink.holds c.write_all.new.sink) (g.K.Sink.faults c.write_all.new.sink) in
    let line : c.as_slice.result.now ≡ error_text c.args.bad = c.as_slice.ensures.value ∙ c.in-Ok.ensures in
    record {
      ends = (refl, subst (λ t. IsWritten t old new) line (written_or_front c.write_all.result c.write_all.ensures.all c.write_all.ensures.front c.write_all.ensures.fault));
    }
