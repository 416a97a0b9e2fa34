use Rattle.std.proofs.Common.{◌∙◌, arith}
use Rattle.query_text.proofs.TokenLemmas.{one_kept, none_kept}
use Rattle.query_text.proofs.tokens.push_first.Goals as goal

pub returns-in_ok-push-clause-first : goal.returns-in_ok-push-clause-first
returns-in_ok-push-clause-first c = c.in_ok-push.ensures.items ∙ one_kept c.args.tokens.now.items c.args.token (omega (arith, c.len.ensures, c.if-len-lt-MOST_KEPT.true))

pub returns-else-len-lt-MOST_KEPT-clause-first : goal.returns-else-len-lt-MOST_KEPT-clause-first
returns-else-len-lt-MOST_KEPT-clause-first c = none_kept c.args.tokens.now.items c.args.token (omega (arith, c.len.ensures, c.requires, c.if-len-lt-MOST_KEPT.false))
