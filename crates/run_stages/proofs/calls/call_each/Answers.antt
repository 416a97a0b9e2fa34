use Rattle.std.proofs.Common.{subst, slice_index_or}
use Rattle.run_stages.specs.Calls.{ChangesOne}
use Rattle.run_stages.proofs.calls.call_each.Goals as goal

pub returns : goal.returns
returns g c = record {
  as_many = c.for_each_mut.auto.s;
  each = λ k d below.
      let at = (c.for_each_mut.ensures k d below).1 in
      subst (λ x. ChangesOne g.H.Fn c.args.one.now c.args.shared.now x (slice_index_or c.for_each_mut.new.s k d)) at.argument_is
      (subst (λ y. ChangesOne g.H.Fn c.args.one.now c.args.shared.now at.argument.now y) at.left at.call);
}
