-- The maker begins, counts the passes, and makes them.
use Rattle.std.proofs.Common.{◌≡◌, ℕ, zero, suc, ◌+◌, ◌-◌, ◌<◌, cond, eqb, Bool, List, [], ◌∷◌, length, take, set, Option, Some, None, sym, refl, ap, ◌∙◌, subst, arith}
use Rattle.std.specs.List.{All, sum_by, filter}
use Rattle.std.proofs.lemmas.Bool.{eq-eqb, ne_eqb}
use Rattle.std.proofs.lemmas.List.Elements.{All-head, All-tail, All-nil, All-weaker}
use mathlib.Core.List.{IsPrefix}
use Rattle.crossbeam_queue.specs.Fifo.{Forks}
use Rattle.job_trait.specs.declared.job.Head.{Head}
use Rattle.pool_model.specs.declared.task.Entry.{Entry}
use Rattle.pool_model.specs.History.{accepts, outs}
use Rattle.task_queue.specs.declared.view.View.{View}
use Rattle.task_queue.specs.Views.{making, adding, taking, nobody, pushes_of, pops_of, room_of}
use Rattle.task_queue.specs.Rule.{Facts, QueueHolds, Knows}
use Rattle.queue_packets.proofs.Views.{all_set, all_more}
use Rattle.task_queue.proofs.Seats.{all_first}
use Rattle.task_queue.proofs.Sums.{sum-fork}
use Rattle.task_queue.proofs.Known.{Steps, knows_still, others_are_nobody}

abbrev nothing : Facts
nothing = record { history = []; whole = 0; adders = 0; takers = 0; adder_at = λ _. None; taker_at = λ _. None }

nothing_yet : (n : ℕ) → IsPrefix (outs (take n [])) (accepts (take n []))
nothing_yet zero = ([], refl)
nothing_yet (suc n) = ([], refl)

pub begins : {J : Type 0} (head : J → Head) → QueueHolds head [] (making 0 0 0 0 ∷ [])
begins head = record {
  facts = nothing;
  lawful = record { ascend = tt; in_order = nothing_yet };
  waits = refl;
  left_last = refl;
  from_adders = All-nil (λ (e : Entry). e.ticket.adder < 0);
  from_takers = λ n _. refl;
  parts = refl;
  pushed = λ h. refl;
  popped = λ h. refl;
  room = omega arith;
  knows = all_first (Knows nothing) (making 0 0 0 0) record { first = refl; whole = refl; adders = refl; takers = refl; fresh = λ _. refl };
}

-- of an adder that is yet to be made nothing was accepted
none_by : (a : ℕ) (xs : List Entry) → All (λ e. e.ticket.adder < a) xs → filter (λ e. eqb e.ticket.adder a) xs ≡ []
none_by a [] all = refl
none_by a (x ∷ xs) all =
    let first : x.ticket.adder < a = All-head (λ (e : Entry). e.ticket.adder < a) x xs all in
    ap (λ (b : Bool). cond b (x ∷ filter (λ (e : Entry). eqb e.ticket.adder a) xs) (filter (λ (e : Entry). eqb e.ticket.adder a) xs)) (ne_eqb x.ticket.adder a (λ e. omega arith))
    ∙ none_by a xs (All-tail (λ (e : Entry). e.ticket.adder < a) x xs all)

module _ {J : Type 0} (head : J → Head) where
  -- one pass more is counted, while no other pass has a part
  pub counts : (p a t : ℕ) → Forks (QueueHolds head) 0 (making p p a t) (making (p + 1) (p + 1) a t) nobody
  counts p a t items views d here =
      let v = making p p a t in
      let left = making (p + 1) (p + 1) a t in
      let f = d.facts in
      let mine = d.knows 0 v here in
      let g : Facts = record { history = f.history; whole = p + 1; adders = f.adders; takers = f.takers; adder_at = f.adder_at; taker_at = f.taker_at } in
      let all : v.parts ≡ f.whole = mine.whole in
      record {
        facts = g;
        lawful = d.lawful;
        waits = d.waits;
        left_last = d.left_last;
        from_adders = d.from_adders;
        from_takers = d.from_takers;
        parts = let s = sum-fork (λ (x : View). x.parts) views 0 v left nobody here in let w = d.parts in omega arith;
        pushed = λ h. let s = sum-fork (λ (x : View). sum_by h (pushes_of x)) views 0 v left nobody here in let w = d.pushed h in omega (arith, s, w);
        popped = λ h. let s = sum-fork (λ (x : View). sum_by h (pops_of x)) views 0 v left nobody here in let w = d.popped h in omega (arith, s, w);
        room = let s = sum-fork room_of views 0 v left nobody here in let w = d.room in omega arith;
        knows = all_more (Knows g) (set views 0 left) nobody refl
            (all_set (Knows g) views 0 left
            record { first = refl; whole = refl; adders = mine.adders; takers = mine.takers; fresh = λ _. mine.fresh (λ z. z) }
            (others_are_nobody head items views d 0 v here all refl g));
      }

  -- an adder is made
  pub makes_adder : (p w a t : ℕ) → 0 < p → a < 64 → Forks (QueueHolds head) 0 (making p w a t) (making (p - 1) w (a + 1) t) (adding w a [])
  makes_adder p w a t has_part few items views d here =
      let v = making p w a t in
      let left = making (p - 1) w (a + 1) t in
      let right = adding w a [] in
      let f = d.facts in
      let mine = d.knows 0 v here in
      let after = set views 0 left in
      let adder_at : ℕ → Option ℕ = λ n. cond (eqb n a) (Some (length after)) (f.adder_at n) in
      let g : Facts = record { history = f.history; whole = f.whole; adders = a + 1; takers = f.takers; adder_at = adder_at; taker_at = f.taker_at } in
      let number : a ≡ f.adders = mine.adders in
      let steps : Steps 0 0 f g = record {
        whole = refl;
        left = refl;
        adders = omega (arith, number);
        takers = omega arith;
        made = λ other. absurd (other refl);
        adder = λ n within _ _. (ap (λ (b : Bool). cond b (Some (length after)) (f.adder_at n)) (ne_eqb n a (λ e. omega (arith, number, within, e))), refl);
        taker = λ n within _ _. (refl, refl);
      } in
      let none_left = mine.fresh (λ z. absurd (omega (arith, z, has_part))) in
      record {
        facts = g;
        lawful = d.lawful;
        waits = d.waits;
        left_last = d.left_last;
        from_adders = All-weaker (λ (e : Entry). e.ticket.adder < f.adders) (λ (e : Entry). e.ticket.adder < a + 1) (λ e lt. omega (arith, lt, number)) (accepts f.history) d.from_adders;
        from_takers = d.from_takers;
        parts = let s = sum-fork (λ (x : View). x.parts) views 0 v left right here in let whole = d.parts in omega arith;
        pushed = λ h. let s = sum-fork (λ (x : View). sum_by h (pushes_of x)) views 0 v left right here in let is = d.pushed h in omega (arith, s, is);
        popped = λ h. let s = sum-fork (λ (x : View). sum_by h (pops_of x)) views 0 v left right here in let is = d.popped h in omega (arith, s, is);
        room = let s = sum-fork room_of views 0 v left right here in let is = d.room in omega arith;
        knows = all_more (Knows g) after right
            record {
              parts = refl;
              whole = mine.whole;
              own = ap (λ (b : Bool). cond b (Some (length after)) (f.adder_at a)) (eq-eqb a a refl);
              made = omega arith;
              list = none_by a (accepts f.history) (subst (λ (n : ℕ). All (λ e. e.ticket.adder < n) (accepts f.history)) (sym number) d.from_adders);
              short = omega arith;
              none_left = none_left;
            }
            (all_set (Knows g) views 0 left
            record { first = refl; whole = mine.whole; adders = refl; takers = mine.takers; fresh = λ _. none_left }
            (λ j u apart there. knows_still 0 0 f g steps j u apart apart (d.knows j u there)));
      }

  -- a taker is made
  pub makes_taker : (p w a t : ℕ) → 0 < p → Forks (QueueHolds head) 0 (making p w a t) (making (p - 1) w a (t + 1)) (taking w t [])
  makes_taker p w a t has_part items views d here =
      let v = making p w a t in
      let left = making (p - 1) w a (t + 1) in
      let right = taking w t [] in
      let f = d.facts in
      let mine = d.knows 0 v here in
      let after = set views 0 left in
      let taker_at : ℕ → Option ℕ = λ n. cond (eqb n t) (Some (length after)) (f.taker_at n) in
      let g : Facts = record { history = f.history; whole = f.whole; adders = f.adders; takers = t + 1; adder_at = f.adder_at; taker_at = taker_at } in
      let number : t ≡ f.takers = mine.takers in
      let steps : Steps 0 0 f g = record {
        whole = refl;
        left = refl;
        adders = omega arith;
        takers = omega (arith, number);
        made = λ other. absurd (other refl);
        adder = λ n within _ _. (refl, refl);
        taker = λ n within _ _. (ap (λ (b : Bool). cond b (Some (length after)) (f.taker_at n)) (ne_eqb n t (λ e. omega (arith, number, within, e))), refl);
      } in
      let none_left = mine.fresh (λ z. absurd (omega (arith, z, has_part))) in
      record {
        facts = g;
        lawful = d.lawful;
        waits = d.waits;
        left_last = d.left_last;
        from_adders = d.from_adders;
        from_takers = λ n le. d.from_takers n (omega (arith, le, number));
        parts = let s = sum-fork (λ (x : View). x.parts) views 0 v left right here in let whole = d.parts in omega arith;
        pushed = λ h. let s = sum-fork (λ (x : View). sum_by h (pushes_of x)) views 0 v left right here in let is = d.pushed h in omega (arith, s, is);
        popped = λ h. let s = sum-fork (λ (x : View). sum_by h (pops_of x)) views 0 v left right here in let is = d.popped h in omega (arith, s, is);
        room = let s = sum-fork room_of views 0 v left right here in let is = d.room in omega arith;
        knows = all_more (Knows g) after right
            record {
              parts = refl;
              whole = mine.whole;
              own = ap (λ (b : Bool). cond b (Some (length after)) (f.taker_at t)) (eq-eqb t t refl);
              made = omega arith;
              list = d.from_takers t (omega (arith, number));
              none_left = none_left;
            }
            (all_set (Knows g) views 0 left
            record { first = refl; whole = mine.whole; adders = mine.adders; takers = refl; fresh = λ _. none_left }
            (λ j u apart there. knows_still 0 0 f g steps j u apart apart (d.knows j u there)));
      }
