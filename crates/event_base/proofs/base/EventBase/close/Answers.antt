use Rattle.std.proofs.Common.{ap, ◌∙◌, sym, subst, arith}
use Rattle.event_base.specs.Closing.{RestSeen, AreOn}
use Rattle.event_base.specs.Seen.{BaseSeen, NoteSeen}
use Rattle.event_base.proofs.Executors.{is_on, all_pass, all_on}
use Rattle.event_base.proofs.base.EventBase.close.Goals as goal

pub returns : goal.returns
returns g c =
    let head = g.J.Headed.head in
    let base = c.self.inside in
    let exec = base.agenda.exec in
    let queue = c.close-put.ensures in
    let note = c.new-note.ensures in
    let rest = c.into_rest.ensures in
    rw (sym c.self.view_is) (record {
      left = c.close-put.result.rest.left;
      jobs = ap (λ (r : RestSeen g.row.J.Denot). r.jobs) rest;
      order = ap (λ (r : RestSeen g.row.J.Denot). r.popped) rest ∙ queue.order;
      whole = queue.whole;
      in_order = queue.in_order;
      from_senders = queue.from_senders;
      account = queue.account;
      on_base = all_on head exec _ (queue.each (is_on head exec) (all_pass head exec c.args.ends.items (subst (λ (b : BaseSeen g.row.J.Denot). AreOn head b.agenda.exec c.args.ends.items) (sym c.self.view_is) c.requires.posts)));
      exec = ap (λ (n : NoteSeen). n.exec) note ∙ c.exec.ensures;
      put = ap (λ (n : NoteSeen). n.put) note ∙ queue.put.1;
      taken = ap (λ (n : NoteSeen). n.taken) note ∙ queue.taken;
      left_over = ap (λ (n : NoteSeen). n.left) note ∙ c.len.ensures;
      all = omega (arith, ap (λ (n : NoteSeen). n.put) note, ap (λ (n : NoteSeen). n.taken) note, ap (λ (n : NoteSeen). n.left) note, c.len.ensures, queue.put.0);
      dry = queue.dry;
    })
