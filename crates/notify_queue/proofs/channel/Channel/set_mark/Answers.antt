use Rattle.std.proofs.Common.{◌<◌, [], ◌∷◌, Some, None, ap, ◌∙◌, refl, arith}
use Rattle.atomic_table.specs.Table.{Me, rest}
use Rattle.std.specs.Prelude.{Option}
use Rattle.notify_queue.specs.declared.marks.Marking.{Marking}
use Rattle.notify_queue.specs.Marks.{marks_filling}
use Rattle.notify_queue.specs.Passes.{PassOf}
use Rattle.notify_queue.proofs.Markings.{takes_own_slot, sets_own_mark}
use Rattle.notify_queue.proofs.channel.Channel.set_mark.Goals as goal

pub load-requires : goal.load-requires
load-requires g c =
    let table = c.args.self.now.marks.shared in
    let slots : c.args.sender < table.table_id.slots = rw c.requires.seat.0 at c.requires.seat.1 in
    let word = c.word_of-word.ensures in
    let words : c.word_of-word.result < table.table_id.words = omega (arith, c.args.self.now.a_place_each, slots, word) in
    (c.requires.seat.0, words, takes_own_slot table.key table.table_id.slots c.args.seat.now.id c.args.seat.now.me _ _ _ _ c.requires.puts.1 slots word)

pub store-requires : goal.store-requires
store-requires g c =
    let M = g.row.M.Denot in
    let Own : Type 0 = Me (Option (PassOf M)) (Marking M) in
    let table = c.args.self.now.marks.shared in
    let slots : c.args.sender < table.table_id.slots = rw c.requires.seat.0 at c.requires.seat.1 in
    let word = c.word_of-word.ensures in
    let words : c.word_of-word.result < table.table_id.words = omega (arith, c.args.self.now.a_place_each, slots, word) in
    let id = c.exchange-empty.ensures.0 ∙ c.load.ensures.0 ∙ c.requires.seat.0 in
    let shown = c.requires.puts.1 in
    let taken = c.load.ensures.2 ∙ ap {B = Own} (λ (m : Own). (marks_filling m.0.queue m.0.number m.0.puts m.0.looks, (m.0.number, None) ∷ [])) shown.me_is in
    let filled = c.exchange-empty.ensures.3 ∙ ap {B = Own} (λ (m : Own). (m.0, (c.args.sender, Some c.args.copy) ∷ rest m.1)) taken in
    (id, words, sets_own_mark table.key table.table_id.slots c.exchange-empty.new.seat.id c.exchange-empty.new.seat.me _ _ c.args.puts shown.looks c.args.copy _ _ filled slots c.requires.copy word refl)
