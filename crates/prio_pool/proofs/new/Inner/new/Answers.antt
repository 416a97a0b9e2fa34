use Rattle.std.proofs.Common.{◌≡◌, ◌+◌, ◌-◌, ap, ◌∙◌, arith}
use Rattle.task_queue.specs.Marks.{OpenSeen}
use Rattle.prio_pool.specs.Made.{makers_of}
use Rattle.prio_pool.proofs.new.Inner.new.Goals as goal

pub overflow_add-passes : goal.overflow_add-passes
overflow_add-passes g c = omega (arith, c.requires.few_adders, c.requires.few_workers)

pub overflow_add-passes-2 : goal.overflow_add-passes-2
overflow_add-passes-2 g c = omega (arith, c.requires.few_adders, c.requires.few_workers, c.requires.few_helpers)

pub new_places-requires-clause-makers : goal.new_places-requires-clause-makers
new_places-requires-clause-makers g c =
    let s = c.args.size in
    let all = s.adders + s.workers + s.helpers in
    let left : all ≡ all - 0 = omega arith in
    c.in_ok-queues.ensures.makers ∙ (λ k. makers_of (record { passes = all; left = left k; adders = 0; takers = 0 }) c.in_ok-queues.queues.items)

pub new_places-requires-clause-few : goal.new_places-requires-clause-few
new_places-requires-clause-few g c = (c.requires.few_adders, omega arith)

pub overflow_sub-made : goal.overflow_sub-made
overflow_sub-made g c = omega arith

pub more_takers-requires-clause-makers : goal.more_takers-requires-clause-makers
more_takers-requires-clause-makers g c = c.in_ok-places.ensures.makers

pub more_takers-requires-clause-few : goal.more_takers-requires-clause-few
more_takers-requires-clause-few g c = (omega arith, omega (arith, c.requires.few_workers))

pub more_takers-requires-clause-queues : goal.more_takers-requires-clause-queues
more_takers-requires-clause-queues g c = omega (arith, c.in_ok-queues.ensures.count, c.requires.few_queues)

pub more_takers-requires-clause-mark : goal.more_takers-requires-clause-mark
more_takers-requires-clause-mark g c = ap (λ (s : OpenSeen). s.mark) c.in_ok-mark.ensures.1

pub overflow_sub-made-2 : goal.overflow_sub-made-2
overflow_sub-made-2 g c = omega arith

pub more_takers-requires-2-clause-makers : goal.more_takers-requires-2-clause-makers
more_takers-requires-2-clause-makers g c =
    let s = c.args.size in
    let all = s.adders + s.workers + s.helpers in
    let takers : 0 + s.workers ≡ s.workers = omega arith in
    c.in_ok-works.ensures.makers ∙ (λ k. makers_of (record { passes = all; left = (all - s.adders) - s.workers; adders = s.adders; takers = takers k }) c.in_ok-queues.queues.items)

pub more_takers-requires-2-clause-few : goal.more_takers-requires-2-clause-few
more_takers-requires-2-clause-few g c = (omega arith, omega (arith, c.requires.few_workers, c.requires.few_helpers))

pub more_takers-requires-2-clause-queues : goal.more_takers-requires-2-clause-queues
more_takers-requires-2-clause-queues g c = omega (arith, c.in_ok-queues.ensures.count, c.requires.few_queues)

pub more_takers-requires-2-clause-mark : goal.more_takers-requires-2-clause-mark
more_takers-requires-2-clause-mark g c = ap (λ (s : OpenSeen). s.mark) (c.in_ok-works.ensures.seat ∙ c.in_ok-mark.ensures.1)

pub returns-clause-queues : goal.returns-clause-queues
returns-clause-queues g c = c.in_ok-queues.ensures.count

pub returns-clause-all : goal.returns-clause-all
returns-clause-all g c = record {
  mark_is = c.in_ok-mark.ensures.0;
  seat_is = c.in_ok-helps.ensures.seat ∙ (c.in_ok-works.ensures.seat ∙ c.in_ok-mark.ensures.1);
  places_are = c.in_ok-places.ensures.places;
  works_are = c.in_ok-works.ensures.takers;
  helps_are = c.in_ok-helps.ensures.takers;
}
