use Rattle.std.proofs.Common.{◌<◌, ◌∙◌, arith}
use mathlib.Core.Option.{none}
use Rattle.atomic_table.specs.Table.{step}
use Rattle.notify_queue.proofs.Markings.{reads_own_mark, found_slot}
use Rattle.notify_queue.proofs.channel.Channel.read_mark.Goals as goal

pub load-requires : goal.load-requires
load-requires g c =
    let table = c.args.self.now.marks.shared in
    let slots : c.args.sender < table.table_id.slots = rw c.requires.seat.0 at c.requires.seat.2 in
    let word = c.word_of.ensures in
    let words : c.word_of.result < table.table_id.words = omega (arith, c.args.self.now.a_place_each, slots, word) in
    (c.requires.seat.0, words, reads_own_mark table.key table.table_id.slots c.args.seat.now.id c.args.seat.now.me c.args.sender _ c.requires.seat.1 c.requires.turn.0 slots word (step table.table_id.slots c.word_of.result 0 0 none))

pub exchange-requires : goal.exchange-requires
exchange-requires g c =
    let found = c.load.ensures.2.found c.if-load-eq1.true in
    (c.load.ensures.0 ∙ c.requires.seat.0, found_slot c.load.new.seat.me c.args.seat.now.me c.load.result found c.args.sender c.requires.turn.0)
