-- Passes are put together.
use Rattle.std.proofs.Common.{◌≡◌, ◌≢◌, ℕ, ◌+◌, cond, eqb, Bool, List, [], ◌∷◌, ◌++◌, length-append, set, Option, None, refl, ap, ◌∙◌, append-nil, arith}
use Rattle.std.specs.List.{sum_by}
use Rattle.std.proofs.lemmas.Bool.{eq-eqb, ne_eqb}
use Rattle.std.proofs.lemmas.Grind.{flat_map-append}
use Rattle.std.proofs.lemmas.List.Sums.{sum_by-append}
use Rattle.std.proofs.lemmas.List.Elements.{All-cons, All-nil, All-push, All-weaker}
use Rattle.crossbeam_queue.specs.Fifo.{Forks, Merges}
use Rattle.job_trait.specs.declared.job.Head.{Head}
use Rattle.pool_model.specs.declared.task.Entry.{Entry}
use Rattle.task_queue.specs.declared.view.Share.{Share}
use Rattle.task_queue.specs.declared.view.View.{View}
use Rattle.task_queue.specs.Views.{adding, taking, gathered, nobody, share, entries_of, pushes_of, pops_of, room_of}
use Rattle.task_queue.specs.Rule.{Facts, QueueHolds, Knows, IsAdderShare, IsTakerShare}
use Rattle.queue_packets.proofs.Views.{all_set, all_more}
use Rattle.task_queue.proofs.Seats.{at_other}
use Rattle.task_queue.proofs.Sums.{sum-fork, sum-merge}
use Rattle.task_queue.proofs.Known.{Steps, knows_still, adder_share, taker_share}

-- what is weighed in the shares, with one more
one_share : (h : Entry → ℕ) (xs : List Share) (n : ℕ) (entries : List Entry) → sum_by h (entries_of (xs ++ share n entries ∷ [])) ≡ sum_by h (entries_of xs) + sum_by h entries
one_share h xs n entries =
    let a = ap (sum_by h) (flat_map-append (λ (s : Share). s.entries) xs (share n entries ∷ [])) in
    let b = sum_by-append h (entries_of xs) (entries ++ []) in
    let c = ap (sum_by h) (append-nil entries) in
    omega (arith, a, b, c)

module _ {J : Type 0} (head : J → Head) where
  -- an adder becomes a gathered pass
  pub gathers : (pass w number : ℕ) (pushed : List Entry) → Forks (QueueHolds head) pass (adding w number pushed) (gathered 1 w (share number pushed ∷ []) [] []) nobody
  gathers pass w number pushed items views d here =
      let v = adding w number pushed in
      let left = gathered 1 w (share number pushed ∷ []) [] [] in
      let f = d.facts in
      let mine = d.knows pass v here in
      let adder_at : ℕ → Option ℕ = λ a. cond (eqb a number) None (f.adder_at a) in
      let g : Facts = record { history = f.history; whole = f.whole; adders = f.adders; takers = f.takers; adder_at = adder_at; taker_at = f.taker_at } in
      let steps : Steps pass pass f g = record {
        whole = refl;
        left = refl;
        adders = omega arith;
        takers = omega arith;
        made = λ _. (refl, refl);
        adder = λ a within other _. (ap (λ (b : Bool). cond b None (f.adder_at a)) (ne_eqb a number (λ same. other (ap f.adder_at same ∙ mine.own))), refl);
        taker = λ m within _ _. (refl, refl);
      } in
      let own : IsAdderShare g (share number pushed) = record {
        gone = ap (λ (b : Bool). cond b None (f.adder_at number)) (eq-eqb number number refl);
        made = mine.made;
        list = mine.list;
        short = mine.short;
      } in
      record {
        facts = g;
        lawful = d.lawful;
        waits = d.waits;
        left_last = d.left_last;
        from_adders = d.from_adders;
        from_takers = d.from_takers;
        parts = let s = sum-fork (λ (x : View). x.parts) views pass v left nobody here in let whole = d.parts in omega arith;
        pushed = λ h.
            let s = sum-fork (λ (x : View). sum_by h (pushes_of x)) views pass v left nobody here in
            omega (arith, s, d.pushed h, ap (sum_by h) (append-nil pushed));
        popped = λ h. let s = sum-fork (λ (x : View). sum_by h (pops_of x)) views pass v left nobody here in omega (arith, s, d.popped h);
        room = let s = sum-fork room_of views pass v left nobody here in let is = d.room in omega arith;
        knows = all_more (Knows g) (set views pass left) nobody refl
            (all_set (Knows g) views pass left
            record {
              parts = omega arith;
              whole = mine.whole;
              added = All-cons (IsAdderShare g) (share number pushed) [] own (All-nil (IsAdderShare g));
              taken = All-nil (IsTakerShare g);
              left = mine.none_left;
            }
            (λ j u apart there. knows_still pass pass f g steps j u apart apart (d.knows j u there)));
      }

  -- an adder is put to a gathered pass
  pub puts_adder : (pass p w : ℕ) (added taken_shares : List Share) (popped : List Entry) (other w' number : ℕ) (pushed : List Entry)
      → Merges (QueueHolds head) pass (gathered p w added taken_shares popped) other (adding w' number pushed) (gathered (p + 1) w (added ++ share number pushed ∷ []) taken_shares []) nobody
  puts_adder pass p w added taken_shares popped other w' number pushed items views d here apart there =
      let v = gathered p w added taken_shares popped in
      let x = adding w' number pushed in
      let both = gathered (p + 1) w (added ++ share number pushed ∷ []) taken_shares [] in
      let f = d.facts in
      let mine = d.knows pass v here in
      let theirs = d.knows other x (at_other views pass other both x apart there) in
      let adder_at : ℕ → Option ℕ = λ a. cond (eqb a number) None (f.adder_at a) in
      let g : Facts = record { history = f.history; whole = f.whole; adders = f.adders; takers = f.takers; adder_at = adder_at; taker_at = f.taker_at } in
      let steps : Steps pass other f g = record {
        whole = refl;
        left = refl;
        adders = omega arith;
        takers = omega arith;
        made = λ _. (refl, refl);
        adder = λ a within _ not. (ap (λ (b : Bool). cond b None (f.adder_at a)) (ne_eqb a number (λ same. not (ap f.adder_at same ∙ theirs.own))), refl);
        taker = λ m within _ _. (refl, refl);
      } in
      let own : IsAdderShare g (share number pushed) = record {
        gone = ap (λ (b : Bool). cond b None (f.adder_at number)) (eq-eqb number number refl);
        made = theirs.made;
        list = theirs.list;
        short = theirs.short;
      } in
      record {
        facts = g;
        lawful = d.lawful;
        waits = d.waits;
        left_last = d.left_last;
        from_adders = d.from_adders;
        from_takers = d.from_takers;
        parts = let s = sum-merge (λ (y : View). y.parts) views pass other v both x nobody here there in let whole = d.parts in omega arith;
        pushed = λ h.
            let s = sum-merge (λ (y : View). sum_by h (pushes_of y)) views pass other v both x nobody here there in
            omega (arith, s, d.pushed h, one_share h added number pushed);
        popped = λ h. let s = sum-merge (λ (y : View). sum_by h (pops_of y)) views pass other v both x nobody here there in omega (arith, s, d.popped h);
        room = let s = sum-merge room_of views pass other v both x nobody here there in let is = d.room in omega (arith, s, is, length-append added (share number pushed ∷ []));
        knows = all_set (Knows g) (set views pass both) other nobody refl
            (λ j u not_other at. all_set (λ i y. i ≢ other → Knows g i y) views pass both
            (λ _. record {
              parts = omega (arith, mine.parts);
              whole = mine.whole;
              added = All-push (IsAdderShare g) added (share number pushed) (All-weaker (IsAdderShare f) (IsAdderShare g) (adder_share pass other f g steps) added mine.added) own;
              taken = All-weaker (IsTakerShare f) (IsTakerShare g) (taker_share pass other f g steps) taken_shares mine.taken;
              left = theirs.none_left;
            })
            (λ i y not_pass here not_there. knows_still pass other f g steps i y not_pass not_there (d.knows i y here)) j u at not_other);
      }

  -- a taker is put to a gathered pass
  pub puts_taker : (pass p w : ℕ) (added taken_shares : List Share) (popped : List Entry) (other w' number : ℕ) (theirs_popped : List Entry)
      → Merges (QueueHolds head) pass (gathered p w added taken_shares popped) other (taking w' number theirs_popped) (gathered (p + 1) w added (taken_shares ++ share number theirs_popped ∷ []) []) nobody
  puts_taker pass p w added taken_shares popped other w' number theirs_popped items views d here apart there =
      let v = gathered p w added taken_shares popped in
      let x = taking w' number theirs_popped in
      let both = gathered (p + 1) w added (taken_shares ++ share number theirs_popped ∷ []) [] in
      let f = d.facts in
      let mine = d.knows pass v here in
      let theirs = d.knows other x (at_other views pass other both x apart there) in
      let taker_at : ℕ → Option ℕ = λ a. cond (eqb a number) None (f.taker_at a) in
      let g : Facts = record { history = f.history; whole = f.whole; adders = f.adders; takers = f.takers; adder_at = f.adder_at; taker_at = taker_at } in
      let steps : Steps pass other f g = record {
        whole = refl;
        left = refl;
        adders = omega arith;
        takers = omega arith;
        made = λ _. (refl, refl);
        adder = λ a within _ _. (refl, refl);
        taker = λ a within _ not. (ap (λ (b : Bool). cond b None (f.taker_at a)) (ne_eqb a number (λ same. not (ap f.taker_at same ∙ theirs.own))), refl);
      } in
      let own : IsTakerShare g (share number theirs_popped) = record {
        gone = ap (λ (b : Bool). cond b None (f.taker_at number)) (eq-eqb number number refl);
        made = theirs.made;
        list = theirs.list;
      } in
      record {
        facts = g;
        lawful = d.lawful;
        waits = d.waits;
        left_last = d.left_last;
        from_adders = d.from_adders;
        from_takers = d.from_takers;
        parts = let s = sum-merge (λ (y : View). y.parts) views pass other v both x nobody here there in let whole = d.parts in omega arith;
        pushed = λ h. let s = sum-merge (λ (y : View). sum_by h (pushes_of y)) views pass other v both x nobody here there in omega (arith, s, d.pushed h);
        popped = λ h.
            let s = sum-merge (λ (y : View). sum_by h (pops_of y)) views pass other v both x nobody here there in
            omega (arith, s, d.popped h, one_share h taken_shares number theirs_popped);
        room = let s = sum-merge room_of views pass other v both x nobody here there in let is = d.room in omega arith;
        knows = all_set (Knows g) (set views pass both) other nobody refl
            (λ j u not_other at. all_set (λ i y. i ≢ other → Knows g i y) views pass both
            (λ _. record {
              parts = omega (arith, mine.parts);
              whole = mine.whole;
              added = All-weaker (IsAdderShare f) (IsAdderShare g) (adder_share pass other f g steps) added mine.added;
              taken = All-push (IsTakerShare g) taken_shares (share number theirs_popped) (All-weaker (IsTakerShare f) (IsTakerShare g) (taker_share pass other f g steps) taken_shares mine.taken) own;
              left = theirs.none_left;
            })
            (λ i y not_pass here not_there. knows_still pass other f g steps i y not_pass not_there (d.knows i y here)) j u at not_other);
      }
