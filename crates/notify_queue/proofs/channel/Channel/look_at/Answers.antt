use Rattle.std.proofs.Common.{◌<◌, refl, arith}
use mathlib.Core.Option.{none}
use Rattle.atomic_table.specs.Table.{step}
use Rattle.notify_queue.proofs.Markings.{looks_itself, looked_as}
use Rattle.notify_queue.proofs.channel.Channel.look_at.Goals as goal

pub load-requires : goal.load-requires
load-requires g c =
    let table = c.args.self.now.marks.shared in
    let slots : c.args.sender < table.table_id.slots = rw c.requires.seat.0 at c.requires.seat.2 in
    let word = c.word_of.ensures in
    let words : c.word_of.result < table.table_id.words = omega (arith, c.args.self.now.a_place_each, slots, word) in
    (c.requires.seat.0, words, looks_itself table.key table.table_id.slots c.args.seat.now.id c.args.seat.now.me c.args.sender _ c.requires.seat.1 slots word (step table.table_id.slots c.word_of.result 0 0 none) refl)

pub returns-clause-looked : goal.returns-clause-looked
returns-clause-looked g c = looked_as c.args.seat.now.me c.load.new.seat.me c.args.sender c.word_of.result c.load.result c.word_of.ensures c.load.ensures.2
