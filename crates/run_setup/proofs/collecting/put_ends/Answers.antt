use Rattle.std.proofs.Common.{◌≡◌, ◌≤◌, ℕ, suc, List, ◌++◌, length, take, drop, sym, ap, ◌∙◌, subst, append-nil, arith}
use Rattle.std.proofs.lemmas.List.{drop_all, take_all}
use Rattle.run_bases.specs.declared.rows.Column.{Column}
use Rattle.run_bases.specs.Columns.{AreColumns}
use Rattle.run_setup.proofs.collecting.put_ends.Goals as goal

-- a list that was written over one of its length
written-back : {X : Type 0} (new old : List X) (n : ℕ) → length new ≡ length old → length new ≤ n → take n (new ++ drop (length new) old) ≡ new
written-back new old n long within = ap (λ l. take n (new ++ l)) (drop_all (length new) old (omega (arith, long))) ∙ (ap (take n) (append-nil new) ∙ take_all n new within)

pub returns : goal.returns
returns g c = λ queues first senders left low are row.
    let old = c.args.columns.now in
    let back = c.put_row.ensures queues first senders left low (subst (λ (l : List (Column g.row.J.Denot)). AreColumns g.J.Headed.head queues first senders left (suc low) l) (sym c.as_mut_slice.ensures.value) are) row in
    subst (λ (l : List (Column g.row.J.Denot)). AreColumns g.J.Headed.head queues first senders left low l)
    (sym (written-back c.put_row.new.columns old.items old.len (back.as_many ∙ sym are.as_many) (omega (arith, back.as_many, are.as_many, old.ok.0)))) back
