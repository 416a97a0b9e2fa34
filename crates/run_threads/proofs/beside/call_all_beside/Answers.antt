use Rattle.std.proofs.Common.{subst}
use Rattle.run_stages.specs.Calls.{ChangesAll}
use Rattle.run_threads.proofs.Whole.{all_written}
use Rattle.run_threads.proofs.beside.call_all_beside.Goals as goal

pub returns-clause-items : goal.returns-clause-items
returns-clause-items g c =
    let old = c.args.items.now.items in
    let new = c.call_beside.new.items in
    let did = subst (λ l. ChangesAll g.H.Fn c.args.one.now tt l new) c.as_mut_slice.ensures.value c.call_beside.ensures.items in
    subst (λ l. ChangesAll g.H.Fn c.args.one.now tt old l) (all_written c.args.items.now.len new old did.as_many c.args.items.now.ok.0) did
