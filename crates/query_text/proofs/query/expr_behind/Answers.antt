use Rattle.query_text.proofs.LineLemmas.{ask_ok, ask_err}
use Rattle.query_text.proofs.query.expr_behind.Goals as goal

pub returns-in-Ok : goal.returns-in-Ok
returns-in-Ok c = ask_ok c.args.asks c.args.fields c.in-Ok.expr c.ask_of.result c.in-Ok.ensures c.ask_of.ensures

pub returns-in-Err : goal.returns-in-Err
returns-in-Err c = ask_err c.args.asks c.args.fields c.in-Err.fault c.in-Err.ensures
