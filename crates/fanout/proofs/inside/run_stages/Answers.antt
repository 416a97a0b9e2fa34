use mathlib.Core.List.{not-mem-nil}
use denote.Param.Send.{arg_send, param_send, sendable}
use Rattle.run_threads.proofs.Crossings.{GatherSlot-send, PrinterSlot-send, ShardTask-send, TaskWorld-send}
use Rattle.fanout.proofs.inside.run_stages.Goals as goal

pub run_all_beside-requires-lives-S-Stage-2 : goal.run_all_beside-requires-lives-S-Stage-2
run_all_beside-requires-lives-S-Stage-2 g c κs within = λ a m. absurd (not-mem-nil (c.type_bounds.static-N a m))

pub run_all_beside-requires-lives-S-Stage-3 : goal.run_all_beside-requires-lives-S-Stage-3
run_all_beside-requires-lives-S-Stage-3 g c κs within = λ a m. absurd (not-mem-nil (c.type_bounds.static-N a m))

pub run_all_beside-requires-send-P : goal.run_all_beside-requires-send-P
run_all_beside-requires-send-P g c κs within = search (PrinterSlot-send, arg_send, param_send, sendable) depth 60 fits 20000

pub run_all_beside-requires-send-S : goal.run_all_beside-requires-send-S
run_all_beside-requires-send-S g c κs within = search (GatherSlot-send, arg_send, param_send, sendable) depth 60 fits 20000

pub run_all_beside-requires-send-J : goal.run_all_beside-requires-send-J
run_all_beside-requires-send-J g c κs within = search (ShardTask-send, arg_send, param_send, sendable) depth 60 fits 20000

pub run_all_beside-requires-send-W : goal.run_all_beside-requires-send-W
run_all_beside-requires-send-W g c κs within = search (TaskWorld-send, arg_send, param_send, sendable) depth 60 fits 20000
