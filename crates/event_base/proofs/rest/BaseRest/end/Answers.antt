use Rattle.std.proofs.Common.{◌++◌, map, length, ap, ◌∙◌, rules}
use Rattle.tick_wheel.specs.declared.timer.Timer.{Timer}
use Rattle.tick_wheel.specs.TimerList.{items_of}
use Rattle.event_base.specs.Closing.{RestSeen, message_of}
use Rattle.event_base.proofs.Emptied.{append_empty, map_empty}
use Rattle.event_base.proofs.rest.BaseRest.end.Goals as goal

pub destroy_empty-requires : goal.destroy_empty-requires
destroy_empty-requires g c =
    let r = c.self.inside in
    let all = ap (λ (x : RestSeen g.row.J.Denot). x.jobs) c.self.view_is ∙ c.requires in
    let held = (append_empty (map message_of r.messages.left) (r.before.items ++ (r.loops.items ++ items_of r.timers)) all).1 in
    let before = ap length (append_empty r.before.items (r.loops.items ++ items_of r.timers) held).0 in
    search (rules, before)

pub destroy_empty-requires-2 : goal.destroy_empty-requires-2
destroy_empty-requires-2 g c =
    let r = c.self.inside in
    let all = ap (λ (x : RestSeen g.row.J.Denot). x.jobs) c.self.view_is ∙ c.requires in
    let held = (append_empty (map message_of r.messages.left) (r.before.items ++ (r.loops.items ++ items_of r.timers)) all).1 in
    let rest = (append_empty r.before.items (r.loops.items ++ items_of r.timers) held).1 in
    let loops = ap length (append_empty r.loops.items (items_of r.timers) rest).0 in
    search (rules, loops)

pub destroy_empty-requires-3 : goal.destroy_empty-requires-3
destroy_empty-requires-3 g c =
    let r = c.self.inside in
    let all = ap (λ (x : RestSeen g.row.J.Denot). x.jobs) c.self.view_is ∙ c.requires in
    let held = (append_empty (map message_of r.messages.left) (r.before.items ++ (r.loops.items ++ items_of r.timers)) all).1 in
    let rest = (append_empty r.before.items (r.loops.items ++ items_of r.timers) held).1 in
    map_empty (λ (t : Timer g.row.J.Denot). t.item) r.timers (append_empty r.loops.items (items_of r.timers) rest).1
