use denote.Param.Send.{sendable}
use Rattle.std.proofs.Crossing.{crosses}
use Rattle.std.proofs.rt.LibcRuntime.TheSendSync as runtime
use Rattle.core_cells.proofs.Crossings.{CellPass-send, Cells-sync}
use Rattle.cells_tests.proofs.rows.two_threads_take_and_give_back_a_hundred_thousand_cells.Goals as goal

pub join-t-requires-send-F : goal.join-t-requires-send-F
join-t-requires-send-F g c κs = search (CellPass-send, Cells-sync, runtime.the_send, crosses, sendable) depth 60 fits 20000
