use Rattle.std.proofs.Common.{◌≡◌, Some}
use Rattle.std.proofs.lemmas.List.Elements.{All-pop}
use Rattle.core_cells.specs.Seen.{SeenPass}
use Rattle.cells_tests.proofs.rows.last_pass.Goals as goal

pub returns-clause-pass : goal.returns-clause-pass
returns-clause-pass g c = (All-pop (λ (p : SeenPass). p.cells ≡ c.args.cells.now) _ _ (Some _) c.in-Some.ensures.items c.requires).1

pub returns-clause-others : goal.returns-clause-others
returns-clause-others g c = (All-pop (λ (p : SeenPass). p.cells ≡ c.args.cells.now) _ _ (Some _) c.in-Some.ensures.items c.requires).0
