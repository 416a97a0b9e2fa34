use Rattle.std.proofs.Common.{◌≡◌, refl, arith, rules}
use Rattle.query_expr.proofs.reader.Reader.left.Goals as goal

pub returns-then-is_deepest-clause-err : goal.returns-then-is_deepest-clause-err
returns-then-is_deepest-clause-err c = let deepest : c.args.self.depth ≡ 64 = search rules in (refl, (_, refl, omega arith))
