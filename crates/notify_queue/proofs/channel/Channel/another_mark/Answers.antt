use Rattle.std.proofs.Common.{◌<◌, arith}
use Rattle.notify_queue.proofs.Markings.{makes_own_seat}
use Rattle.notify_queue.proofs.channel.Channel.another_mark.Goals as goal

pub split_seat-requires : goal.split_seat-requires
split_seat-requires g c =
    let table = c.args.self.now.marks.shared in
    let slots : 0 < table.table_id.slots = rw c.requires.0 at c.requires.2 in
    let words : 0 < table.table_id.words = omega (arith, c.args.self.now.a_place_each, slots) in
    (c.requires.0, words, makes_own_seat table.key c.args.seat.now.id c.args.seat.now.me.0 c.requires.1)
