-- A job with its place, and what is handed back, cross threads where the jobs may.
use denote.RattleType.{RattleType}
use denote.Param.Send.{IsSend, view_send, recorded_send, struct_send, sendable}
use denote.Struct.Declared.{shape}
use Rattle.std.proofs.Crossing.{crosses}
use Rattle.std.below.std_collections.proofs.linked_list.nodes.Nodes.TheSendSync as nodes_std
use Rattle.std.proofs.alloc.Global.TheSendSync as global_std
use Rattle.std.proofs.collections.LinkedList.TheSendSync as linkedlist_std
use Rattle.task_queue.proofs.Crossings as crossing_task_queue
use Rattle.pool_runs.proofs.block.Block.TheSendSync as block_pool_runs
use Rattle.pool_runs.proofs.records.Place.TheSendSync as place_pool_runs
use Rattle.pool_runs.specs.contracts.placed.Placed as placed
use Rattle.pool_runs.specs.contracts.returned.Returned as returned
use Rattle.pool_runs.specs.contracts.returned.Returned.TheInside as of_returned

ruleset all = (nodes_std.the_send, global_std.the_field_send, global_std.the_send, linkedlist_std.the_send, place_pool_runs.the_send, block_pool_runs.the_send, crossing_task_queue.Queued-send, crossing_task_queue.Packets-send, crosses, sendable)

pub Placed-send : (J : RattleType) → IsSend J → IsSend (placed.the_row J)
Placed-send J s = recorded_send (placed.the_field J).row _ _ (placed.the_type J).to_one (struct_send (shape (placed.the_type J)) (search all depth 60 fits 20000, (search all depth 60 fits 20000, tt)))

returned_inside : (J : RattleType) → IsSend J → IsSend (of_returned.the_row J)
returned_inside J s = recorded_send (of_returned.the_field J).row _ _ (of_returned.the_type J).to_one (struct_send (shape (of_returned.the_type J)) (search (Placed-send, all) depth 60 fits 20000, (search all depth 60 fits 20000, tt)))

pub Returned-send : (J : RattleType) → IsSend J → IsSend (returned.the_row J)
Returned-send J s = view_send (of_returned.the_row J) _ _ _ _ (returned_inside J s)
