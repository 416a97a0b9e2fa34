-- New passes.
use Rattle.std.proofs.Common.{◌≡◌, ℕ, suc, ◌+◌, ◌<◌, List, [], ◌∷◌, length, map, get_or, Some, refl, sym, ap, ◌∙◌, subst}
use Rattle.std.specs.Prelude.{slice_get}
use Rattle.std.specs.List.{All, sum_by, range_with_len}
use Rattle.std.specs.declared.alloc.Global.{Global}
use Rattle.std.proofs.lemmas.List.Elements.{All-cons, All-nil}
use Rattle.crossbeam_queue.specs.SegTies.{SegId}
use Rattle.pool_model.specs.declared.task.Entry.{Entry}
use Rattle.pool_model.specs.Passes.{adds_of, add_with, pushed_by}
use Rattle.pool_model.specs.Seen.{PassSeen}
use Rattle.pool_model.specs.Tasks.{Task, Add, upwards, numbered}
use Rattle.std.proofs.lemmas.Option.{get_or_from_slice_get}
use Rattle.task_queue.specs.Seen.{AdderSeen, MakerSeen, TakerSeen}
use Rattle.prio_pool.specs.declared.make.Counts.{Counts}
use Rattle.prio_pool.specs.Adders.{AreAdds}
use Rattle.prio_pool.specs.Made.{maker, new_adders, new_adder, new_takers, new_taker, nothing_on}

-- the maker that was found at this place
pub maker_at : (c : Counts) (q : SegId Global) (makers : List MakerSeen) (k : ℕ) (found : MakerSeen) → slice_get makers k ≡ Some (maker c q) → found ≡ get_or makers k found → found ≡ maker c q
maker_at c q makers k found at is = is ∙ get_or_from_slice_get makers k (maker c q) found at

pub adder_queues : (c : Counts) (qs : List (SegId Global)) → map (λ (a : AdderSeen). a.queue) (new_adders c qs) ≡ qs
adder_queues c [] = refl
adder_queues c (q ∷ qs) = ap (λ (l : List (SegId Global)). q ∷ l) (adder_queues c qs)

pub adder_pushed : (c : Counts) (qs : List (SegId Global)) → map (λ (a : AdderSeen). a.pushed) (new_adders c qs) ≡ nothing_on qs
adder_pushed c [] = refl
adder_pushed c (q ∷ qs) = ap (λ (l : List (List Entry)). [] ∷ l) (adder_pushed c qs)

pub adder_each : (c : Counts) (qs : List (SegId Global)) → All (λ (a : AdderSeen). (a.passes ≡ c.passes) × (a.number ≡ c.adders)) (new_adders c qs)
adder_each c [] = All-nil (λ (a : AdderSeen). (a.passes ≡ c.passes) × (a.number ≡ c.adders))
adder_each c (q ∷ qs) = All-cons (λ (a : AdderSeen). (a.passes ≡ c.passes) × (a.number ≡ c.adders)) (new_adder c q) (new_adders c qs) (refl, refl) (adder_each c qs)

pub adder_count : (c : Counts) (qs : List (SegId Global)) → length (new_adders c qs) ≡ length qs
adder_count c [] = refl
adder_count c (q ∷ qs) = ap suc (adder_count c qs)

pub nothing_up : (first : ℕ) (qs : List (SegId Global)) → upwards first (nothing_on qs) ≡ []
nothing_up first [] = refl
nothing_up first (q ∷ qs) = nothing_up (first + 1) qs

pub no_adds : (p : PassSeen) (qs : List (SegId Global)) → p.pushed ≡ nothing_on qs → AreAdds 0 p
no_adds p qs pushed =
    let none : pushed_by p ≡ [] = ap (upwards 0) pushed ∙ nothing_up 0 qs in
    let adds : adds_of p ≡ [] = ap (λ (l : List Task). map (add_with l) (range_with_len 0 (length l))) none in
    record {
      numbers = subst (All (λ (t : Task). t.ticket.adder ≡ p.number)) (sym none) (All-nil (λ (t : Task). t.ticket.adder ≡ p.number));
      below = subst (All (λ (t : Task). t.ticket.index < 0)) (sym none) (All-nil (λ (t : Task). t.ticket.index < 0));
      count_is = sym (ap length none);
      all = record { sums = λ h. ap (λ (l : List Add). sum_by h (numbered p.number 0 l)) adds ∙ ap (sum_by h) (sym none) };
    }

pub taker_queues : (c : Counts) (qs : List (SegId Global)) → map (λ (a : TakerSeen). a.queue) (new_takers c qs) ≡ qs
taker_queues c [] = refl
taker_queues c (q ∷ qs) = ap (λ (l : List (SegId Global)). q ∷ l) (taker_queues c qs)

pub taker_popped : (c : Counts) (qs : List (SegId Global)) → map (λ (a : TakerSeen). a.popped) (new_takers c qs) ≡ nothing_on qs
taker_popped c [] = refl
taker_popped c (q ∷ qs) = ap (λ (l : List (List Entry)). [] ∷ l) (taker_popped c qs)

pub taker_each : (c : Counts) (qs : List (SegId Global)) → All (λ (a : TakerSeen). (a.passes ≡ c.passes) × (a.number ≡ c.takers)) (new_takers c qs)
taker_each c [] = All-nil (λ (a : TakerSeen). (a.passes ≡ c.passes) × (a.number ≡ c.takers))
taker_each c (q ∷ qs) = All-cons (λ (a : TakerSeen). (a.passes ≡ c.passes) × (a.number ≡ c.takers)) (new_taker c q) (new_takers c qs) (refl, refl) (taker_each c qs)

pub taker_count : (c : Counts) (qs : List (SegId Global)) → length (new_takers c qs) ≡ length qs
taker_count c [] = refl
taker_count c (q ∷ qs) = ap suc (taker_count c qs)

pub nothing_all : (P : List Entry → Type 0) (qs : List (SegId Global)) → P [] → All P (nothing_on qs)
nothing_all P [] p = All-nil P
nothing_all P (q ∷ qs) p = All-cons P [] (nothing_on qs) p (nothing_all P qs p)
