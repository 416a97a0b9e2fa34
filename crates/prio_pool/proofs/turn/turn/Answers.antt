use Rattle.std.proofs.Common.{rules, ◌≡◌, ◌≢◌, true, List, [], ◌∷◌, ◌++◌, length, length-append, Some, refl, sym, ap, subst, ◌∙◌, arith}
use Rattle.pool_model.specs.declared.task.Ending.TheVariants.{Stops}
use Rattle.pool_model.specs.declared.task.Entry.{Entry}
use Rattle.pool_model.specs.Records.{Record}
use Rattle.pool_model.specs.Steps.{of_mark, looked, steps_in}
use Rattle.prio_pool.specs.Adders.{entry_of}
use Rattle.prio_pool.specs.Takers.{TakersSeen, RanTaken}
use Rattle.prio_pool.proofs.Recording.{steps_more, turn_steps, ran_more, ran_same, records_short, idle_takes_none}
use Rattle.prio_pool.proofs.Turning.{same_pool, one_look, did_stop, did_idle, did_run}
use Rattle.prio_pool.proofs.turn.turn.Goals as goal

pub returns-then-eq-clause-records : goal.returns-then-eq-clause-records
returns-then-eq-clause-records g c =
    let t : TakersSeen = c.args.takers.now in
    let u : TakersSeen = c.look-found.new.self in
    let steps = ap (λ (x : TakersSeen). steps_in x.looks) c.look-found.ensures.looked ∙ steps_more t.looks record { place = of_mark t.pool.mark; step = looked c.look-found.result } in
    ran_same t u (looked c.look-found.result ∷ []) c.args.records.now steps refl c.requires.records

pub push-requires : goal.push-requires
push-requires g c =
    let t : TakersSeen = c.args.takers.now in
    let u : TakersSeen = c.look-found.new.self in
    let v : TakersSeen = c.next-next.new.self in
    let f = c.in-Some.ensures.found in
    let e : Entry = entry_of g.J.Headed.head c.in-Some.task in
    let made = c.run_at_gate-made.ensures in
    let first = ap (λ (x : TakersSeen). steps_in x.looks) c.look-found.ensures.looked ∙ steps_more t.looks record { place = of_mark t.pool.mark; step = looked c.look-found.result } in
    let steps = turn_steps (steps_in t.looks) (steps_in u.looks) (steps_in v.looks) c.look-found.result _ first f.did.steps_are in
    let more = ran_more t v (length u.pool.queues) c.look-found.result c.in-Some.queue e c.args.records.now made.entry steps made.is c.requires.records in
    let short = records_short v (c.args.records.now ++ made.entry ∷ []) c.told-2.ensures more in
    omega (arith, short, length-append c.args.records.now (made.entry ∷ []), ap length made.only)

pub returns-in-Some-clause-records : goal.returns-in-Some-clause-records
returns-in-Some-clause-records g c =
    let t : TakersSeen = c.args.takers.now in
    let u : TakersSeen = c.look-found.new.self in
    let v : TakersSeen = c.next-next.new.self in
    let f = c.in-Some.ensures.found in
    let e : Entry = entry_of g.J.Headed.head c.in-Some.task in
    let made = c.run_at_gate-made.ensures in
    let first = ap (λ (x : TakersSeen). steps_in x.looks) c.look-found.ensures.looked ∙ steps_more t.looks record { place = of_mark t.pool.mark; step = looked c.look-found.result } in
    let steps = turn_steps (steps_in t.looks) (steps_in u.looks) (steps_in v.looks) c.look-found.result _ first f.did.steps_are in
    let more = ran_more t v (length u.pool.queues) c.look-found.result c.in-Some.queue e c.args.records.now made.entry steps made.is c.requires.records in
    let list = c.push.ensures ∙ ap (λ (l : List Record). c.args.records.now ++ l) made.only in
    subst (RanTaken v) (sym list) more

pub returns-in-None-clause-records : goal.returns-in-None-clause-records
returns-in-None-clause-records g c =
    let t : TakersSeen = c.args.takers.now in
    let u : TakersSeen = c.look-found.new.self in
    let v : TakersSeen = c.next-next.new.self in
    let n = length u.pool.queues in
    let f = c.in-None.ensures.empty in
    let first = ap (λ (x : TakersSeen). steps_in x.looks) c.look-found.ensures.looked ∙ steps_more t.looks record { place = of_mark t.pool.mark; step = looked c.look-found.result } in
    let steps = turn_steps (steps_in t.looks) (steps_in u.looks) (steps_in v.looks) c.look-found.result _ first f.did.steps_are in
    ran_same t v _ c.args.records.now steps (idle_takes_none n c.look-found.result) c.requires.records

pub look-found-requires : goal.look-found-requires
look-found-requires g c = c.requires.mark

pub next-next-requires-clause-queues : goal.next-next-requires-clause-queues
next-next-requires-clause-queues g c = ap (λ (x : TakersSeen). x.pool.queues) c.look-found.ensures.looked ∙ c.requires.queues

pub next-next-requires-clause-few : goal.next-next-requires-clause-few
next-next-requires-clause-few g c = c.requires.few

pub returns-then-eq-clause-same : goal.returns-then-eq-clause-same
returns-then-eq-clause-same g c = (ap (λ (x : TakersSeen). x.pool) c.look-found.ensures.looked, ap (λ (x : TakersSeen). x.number) c.look-found.ensures.looked)

pub returns-then-eq-clause-looked : goal.returns-then-eq-clause-looked
returns-then-eq-clause-looked g c = ap (λ (x : TakersSeen). x.looked_so_often) c.look-found.ensures.looked

pub returns-then-eq-clause-taken : goal.returns-then-eq-clause-taken
returns-then-eq-clause-taken g c = c.told.ensures

pub returns-then-eq-clause-turned : goal.returns-then-eq-clause-turned
returns-then-eq-clause-turned g c =
    let stops : c.look-found.result ≡ Some Stops = search rules in
    let may : c.args.ends_at_stop ≡ true = search rules in
    did_stop c.args.takers.now c.look-found.new.self c.look-found.result c.look-found.ensures.looked g.J.Job.runs c.args.ends_at_stop c.args.records.now c.args.world.now stops may

pub returns-in-Some-clause-same : goal.returns-in-Some-clause-same
returns-in-Some-clause-same g c = same_pool c.args.takers.now c.look-found.new.self c.look-found.result c.look-found.ensures.looked c.next-next.new.self _ c.in-Some.ensures.found.did

pub returns-in-Some-clause-looked : goal.returns-in-Some-clause-looked
returns-in-Some-clause-looked g c = one_look c.args.takers.now c.look-found.new.self c.look-found.result c.look-found.ensures.looked c.next-next.new.self _ c.in-Some.ensures.found.did

pub returns-in-Some-clause-taken : goal.returns-in-Some-clause-taken
returns-in-Some-clause-taken g c = c.told-2.ensures

pub returns-in-Some-clause-turned : goal.returns-in-Some-clause-turned
returns-in-Some-clause-turned g c =
    let made = c.run_at_gate-made.ensures in
    let not_stops : c.args.ends_at_stop ≡ true → c.look-found.result ≢ Some Stops = search rules in
    let list = c.push.ensures ∙ ap (λ (l : List Record). c.args.records.now ++ l) made.only in
    did_run c.args.takers.now c.look-found.new.self c.look-found.result c.look-found.ensures.looked g.J.Job.runs c.args.ends_at_stop c.args.records.now c.args.world.now
    g.J.Headed.head c.next-next.new.self c.in-Some.queue c.in-Some.task made.entry c.push.new.self c.run_at_gate-made.new.world c.in-Some.ensures.found list made.ran not_stops

pub returns-in-None-clause-same : goal.returns-in-None-clause-same
returns-in-None-clause-same g c = same_pool c.args.takers.now c.look-found.new.self c.look-found.result c.look-found.ensures.looked c.next-next.new.self _ c.in-None.ensures.empty.did

pub returns-in-None-clause-looked : goal.returns-in-None-clause-looked
returns-in-None-clause-looked g c = one_look c.args.takers.now c.look-found.new.self c.look-found.result c.look-found.ensures.looked c.next-next.new.self _ c.in-None.ensures.empty.did

pub returns-in-None-clause-taken : goal.returns-in-None-clause-taken
returns-in-None-clause-taken g c = c.told-2.ensures

pub returns-in-None-clause-turned : goal.returns-in-None-clause-turned
returns-in-None-clause-turned g c =
    let not_stops : c.args.ends_at_stop ≡ true → c.look-found.result ≢ Some Stops = search rules in
    did_idle c.args.takers.now c.look-found.new.self c.look-found.result c.look-found.ensures.looked g.J.Job.runs c.args.ends_at_stop c.args.records.now c.args.world.now c.next-next.new.self c.in-None.ensures.empty not_stops
