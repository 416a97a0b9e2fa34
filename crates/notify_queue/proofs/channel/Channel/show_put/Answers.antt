use Rattle.std.proofs.Common.{◌≡◌, ◌<◌, ◌+◌, ◌-◌, ◌*◌, arith}
use Rattle.notify_queue.proofs.Markings.{shows_own_put, shown_as}
use Rattle.notify_queue.proofs.channel.Channel.show_put.Goals as goal

pub store-requires : goal.store-requires
store-requires g c =
    let table = c.args.self.now.marks.shared in
    let slots : c.args.sender < table.table_id.slots = rw c.requires.seat.0 at c.requires.seat.1 in
    let word = c.word_of.ensures in
    let words : c.word_of.result < table.table_id.words = omega (arith, c.args.self.now.a_place_each, slots, word) in
    let twice : 2 * c.args.puts ≡ 2 * (c.args.puts - 1 + 1) = omega (arith, c.requires.puts.0) in
    (c.requires.seat.0, words, shows_own_put table.key table.table_id.slots c.args.seat.now.id c.args.seat.now.me c.args.self.now.line c.args.sender (c.args.puts - 1) _ _ c.requires.puts.2 slots word twice)

pub returns-clause-shown : goal.returns-clause-shown
returns-clause-shown g c = shown_as c.args.seat.now.me c.store.new.seat.me c.args.self.now.line c.args.sender c.args.puts c.requires.puts.0 c.requires.puts.2 c.store.ensures.2
