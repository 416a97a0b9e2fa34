use Rattle.std.proofs.Common.{refl, sym, ◌∙◌}
use Rattle.query_model.proofs.AlikeLaws.{bare_twice}
use Rattle.query_model.proofs.laws.alike_lines.Goals as goal

pub returns-clause-same : goal.returns-clause-same
returns-clause-same c = λ lines. record { same = refl }

pub returns-clause-back : goal.returns-clause-back
returns-clause-back c = λ lines others alike. record { same = sym alike.same }

pub returns-clause-joined : goal.returns-clause-joined
returns-clause-joined c = λ lines between others first second. record { same = first.same ∙ second.same }

pub returns-clause-without : goal.returns-clause-without
returns-clause-without c = λ lines. record { same = bare_twice lines }
