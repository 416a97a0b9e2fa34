use Rattle.tick_wheel.proofs.Rested.{seen_none}
use Rattle.tick_wheel.proofs.rest.TimersRest.destroy_empty.Goals as goal

pub destroy_cells-requires : goal.destroy_cells-requires
destroy_cells-requires g c = seen_none c.self.inside.cells.items c.args.self c.self.view_is c.requires
