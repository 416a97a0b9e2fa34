use Rattle.std.proofs.Common.{◌≡◌, ◌+◌, ◌≤◌, ℕ, length, set, sym, ap, ◌∙◌, subst, arith}
use Rattle.std.proofs.lemmas.Option.{slice_get_read}
use Rattle.fan_model.specs.Comings.{Coming, comings_of}
use Rattle.run_gathering.specs.Awaited.{TableSeen}
use Rattle.run_gathering.specs.Dealt.{AreDealt}
use Rattle.run_desks.proofs.Awaiting.{base_is, dealt_begun, dealt_room}
use Rattle.run_desks.proofs.Counting.{counted_begun}
use Rattle.run_desks.proofs.run.await_query.Goals as goal

pub returns-clause-counted : goal.returns-clause-counted
returns-clause-counted g c = λ start first within so_far.
    let asked = g.N.RunName.asked in
    let b = c.requires.begun in
    counted_begun asked start c.args.place b.query first c.args.keys.now.tally c.begin_desk-end.new.keys.tally
    (c.place_by_place.ensures.begun asked.lines start c.args.place b.query b.comes within) c.begin_desk-end.ensures.tally so_far

pub put-requires-clause-place : goal.put-requires-clause-place
put-requires-clause-place g c =
    let asked = g.N.RunName.asked in
    let b = c.requires.begun in
    let of = c.begin_desk-end.ensures.of in
    let tables = c.args.tables.now.items in
    let k = c.base_place-base.result in
    let number : c.begin_desk-end.result.ask.number ≡ b.query.number = c.begin_desk-end.ensures.number ∙ b.number_is in
    let few : b.query.number ≤ length (comings_of asked.lines) =
    omega (arith, c.comings_are_queries.ensures.number asked.lines c.args.place (Coming.begins b.query) b.comes, c.each_query_has_a_reply.ensures.comings asked.lines) in
    let base = base_is asked.bases c.begin_desk-end.new.keys.bases c.number.result b.query.number k c.base_place-base.ensures.base of.bases (c.number.ensures ∙ number) in
    let room = dealt_room asked c.args.place k c.begin_desk-end.result.ask.number b.query tables c.index_mut.result.now of.countable.some_bases
    (c.comings_are_queries.ensures.from_one asked.lines) (c.begun_once.ensures asked.lines) b.comes few base
    (slice_get_read tables asked.bases k c.index_mut.result.now (sym c.requires.tables.as_many) (omega (arith, c.base_place-base.ensures.within, of.bases)) c.index_mut.ensures.value)
    c.requires.dealt number in
    room.place

pub put-requires-clause-empty : goal.put-requires-clause-empty
put-requires-clause-empty g c =
    let asked = g.N.RunName.asked in
    let b = c.requires.begun in
    let of = c.begin_desk-end.ensures.of in
    let tables = c.args.tables.now.items in
    let k = c.base_place-base.result in
    let number : c.begin_desk-end.result.ask.number ≡ b.query.number = c.begin_desk-end.ensures.number ∙ b.number_is in
    let few : b.query.number ≤ length (comings_of asked.lines) =
    omega (arith, c.comings_are_queries.ensures.number asked.lines c.args.place (Coming.begins b.query) b.comes, c.each_query_has_a_reply.ensures.comings asked.lines) in
    let base = base_is asked.bases c.begin_desk-end.new.keys.bases c.number.result b.query.number k c.base_place-base.ensures.base of.bases (c.number.ensures ∙ number) in
    let room = dealt_room asked c.args.place k c.begin_desk-end.result.ask.number b.query tables c.index_mut.result.now of.countable.some_bases
    (c.comings_are_queries.ensures.from_one asked.lines) (c.begun_once.ensures asked.lines) b.comes few base
    (slice_get_read tables asked.bases k c.index_mut.result.now (sym c.requires.tables.as_many) (omega (arith, c.base_place-base.ensures.within, of.bases)) c.index_mut.ensures.value)
    c.requires.dealt number in
    room.empty

pub returns-clause-dealt : goal.returns-clause-dealt
returns-clause-dealt g c =
    let asked = g.N.RunName.asked in
    let b = c.requires.begun in
    let of = c.begin_desk-end.ensures.of in
    let tables = c.args.tables.now.items in
    let k = c.base_place-base.result in
    let number : c.begin_desk-end.result.ask.number ≡ b.query.number = c.begin_desk-end.ensures.number ∙ b.number_is in
    let few : b.query.number ≤ length (comings_of asked.lines) =
    omega (arith, c.comings_are_queries.ensures.number asked.lines c.args.place (Coming.begins b.query) b.comes, c.each_query_has_a_reply.ensures.comings asked.lines) in
    let base = base_is asked.bases c.begin_desk-end.new.keys.bases c.number.result b.query.number k c.base_place-base.ensures.base of.bases (c.number.ensures ∙ number) in
    subst (λ (t : TableSeen). AreDealt asked (c.args.place + 1) (set tables k t)) (sym c.put.ensures.put)
    (dealt_begun asked c.args.place k b.query c.begin_desk-end.result tables c.index_mut.result.now of.countable.some_bases (c.comings_are_queries.ensures.from_one asked.lines) b.comes few base number
    (slice_get_read tables asked.bases k c.index_mut.result.now (sym c.requires.tables.as_many) (omega (arith, c.base_place-base.ensures.within, of.bases)) c.index_mut.ensures.value)
    c.requires.dealt)
