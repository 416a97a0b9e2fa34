-- What a call of a receiver has done, as contracts see it.
use Rattle.std.proofs.Common.{◌≡◌, ℕ, ◌+◌, ◌-◌, ◌<◌, ◌≤◌, List, [], ◌∷◌, ◌++◌, length, sym, refl, ap, ◌∙◌, subst, append_assoc, append-nil, arith}
use Rattle.std.specs.List.{All, Any}
use Rattle.std.proofs.lemmas.List.{length-append}
use Rattle.std.proofs.lemmas.List.Elements.{All-append, All-nil}
use mathlib.Core.List.{IsPrefix}
use Rattle.notify_queue.specs.declared.delivery.EndedSender.{EndedSender}
use Rattle.notify_queue.specs.declared.marks.Look.{Look}
use Rattle.notify_queue.specs.declared.stamp.Stamped.{Stamped}
use Rattle.notify_queue.specs.Ends.{Receiving, HasEnded, HasTaken, IsDrained, IsDry, FoundEmpty, FoundNoMore, ShowsNoMore}
use Rattle.notify_queue.specs.Stamps.{messages_of}
use Rattle.notify_queue.proofs.Histories.{messages_of-append, messages_of-same}
use Rattle.notify_queue.proofs.Lists.{all_any, Any-back}

-- the front of a front
prefix-trans : {X : Type 0} (xs ys zs : List X) → IsPrefix xs ys → IsPrefix ys zs → IsPrefix xs zs
prefix-trans xs ys zs p q = (p.0 ++ q.0, sym (append_assoc xs p.0 q.0) ∙ ap (λ l. l ++ q.0) p.1 ∙ q.1)

module _ {M : Type 0} where
  -- of a receiver that is dry no message is taken
  pub dry_none : (r new : Receiving M) (xs : List (Stamped M)) → HasTaken r xs new → IsDry r → xs ≡ []
  dry_none r new [] h d = refl
  dry_none r new (x ∷ xs) h d =
      let from : x.stamp.sender < r.senders = h.from_senders 0 x (omega arith) in
      let taken : new.taken ≡ (r.taken ++ x ∷ []) ++ xs = ap (λ (m : Receiving M). m.taken) h.view ∙ sym (append_assoc r.taken (x ∷ []) xs) in
      let within : All (λ e. IsPrefix (messages_of e.sender ((r.taken ++ x ∷ []) ++ xs)) e.put) r.ended =
      subst (λ (m : List (Stamped M)). All (λ e. IsPrefix (messages_of e.sender m) e.put) r.ended) taken
      (subst (λ (es : List (EndedSender M)). All (λ e. IsPrefix (messages_of e.sender new.taken) e.put) es) (ap (λ (m : Receiving M). m.ended) h.view) h.within) in
      let e = all_any {P = λ (e : EndedSender M). IsPrefix (messages_of e.sender ((r.taken ++ x ∷ []) ++ xs)) e.put × (messages_of e.sender r.taken ≡ e.put)} {Q = λ (e : EndedSender M). e.sender ≡ x.stamp.sender}
      r.ended (λ k d' lt. (within k d' lt, d.drained k d' lt)) (d.ended x.stamp.sender from) in
      let s = e.0.sender in
      let all = messages_of-append s (r.taken ++ x ∷ []) xs in
      let one = messages_of-same s r.taken x (sym e.2) in
      absurd (omega (
        arith,
        ap length e.1.0.1,
        length-append (messages_of s ((r.taken ++ x ∷ []) ++ xs)) e.1.0.0,
        ap length all,
        length-append (messages_of s (r.taken ++ x ∷ [])) (messages_of s xs),
        ap length one,
        length-append (messages_of s r.taken) (x.message ∷ []),
        ap length e.1.1,
      ))

  -- what was taken since, and that the receiver may have looked at words
  pub record TakesOn (old : Receiving M) (got : List (Stamped M)) (now : Receiving M) : Type 0 where
    pub view : now ≡ record old { taken = old.taken ++ got; looks = now.looks }
    pub looks : IsPrefix old.looks now.looks
    pub from_senders : All (λ x. x.stamp.sender < old.senders) got
    pub within : 0 < length got → All (λ e. IsPrefix (messages_of e.sender now.taken) e.put) now.ended
    pub dry : IsDry old → got ≡ []

  pub takes_not : (old : Receiving M) → TakesOn old [] old
  takes_not old = record {
    view = ap (λ (l : List (Stamped M)). record old { taken = l }) (sym (append-nil old.taken));
    looks = ([], append-nil old.looks);
    from_senders = All-nil (λ (x : Stamped M). x.stamp.sender < old.senders);
    within = λ some. absurd (omega arith);
    dry = λ d. refl;
  }

  -- what is so of both
  same_senders : (old now : Receiving M) (got : List (Stamped M)) → TakesOn old got now → now.senders ≡ old.senders
  same_senders old now got t = ap (λ (m : Receiving M). m.senders) t.view

  same_ended : (old now : Receiving M) (got : List (Stamped M)) → TakesOn old got now → now.ended ≡ old.ended
  same_ended old now got t = ap (λ (m : Receiving M). m.ended) t.view

  still_dry : (old now : Receiving M) → now.senders ≡ old.senders → now.ended ≡ old.ended → now.taken ≡ old.taken → IsDry old → IsDry now
  still_dry old now senders ended taken d = record {
    ended = rw (senders, ended) d.ended;
    drained = rw (ended, taken) d.drained;
  }

  pub takes_on : (old now new : Receiving M) (got xs : List (Stamped M)) → TakesOn old got now → HasTaken now xs new → TakesOn old (got ++ xs) new
  takes_on old now new got xs t h =
      let looks : new.looks ≡ now.looks = ap (λ (m : Receiving M). m.looks) h.view in
      record {
        view = h.view ∙ ap (λ (m : Receiving M). record m { taken = m.taken ++ xs }) t.view ∙ ap (λ (l : List (Stamped M)). record old { taken = l; looks = now.looks }) (append_assoc old.taken got xs)
            ∙ ap (λ (l : List Look). record old { taken = old.taken ++ (got ++ xs); looks = l }) (sym looks);
        looks = rw looks t.looks;
        from_senders = All-append (λ (x : Stamped M). x.stamp.sender < old.senders) got xs t.from_senders (rw (same_senders old now got t) at h.from_senders);
        within = λ _. h.within;
        dry = λ d.
            let none = t.dry d in
            let taken : now.taken ≡ old.taken = ap (λ (m : Receiving M). m.taken) t.view ∙ ap (λ l. old.taken ++ l) none ∙ append-nil old.taken in
            ap (λ l. l ++ xs) none ∙ dry_none now new xs h (still_dry old now (same_senders old now got t) (same_ended old now got t) taken d);
      }

  pub looks_too : (old now new : Receiving M) (got : List (Stamped M)) → TakesOn old got now → new ≡ record now { looks = new.looks } → IsPrefix now.looks new.looks → TakesOn old got new
  looks_too old now new got t same more =
      let taken : new.taken ≡ now.taken = ap (λ (m : Receiving M). m.taken) same in
      let ended : new.ended ≡ now.ended = ap (λ (m : Receiving M). m.ended) same in
      record {
        view = same ∙ ap (λ (m : Receiving M). record m { looks = new.looks }) t.view;
        looks = prefix-trans old.looks now.looks new.looks t.looks more;
        from_senders = t.from_senders;
        within = rw (taken, ended) t.within;
        dry = t.dry;
      }

  ends_empty : (old now new : Receiving M) (got : List (Stamped M)) → TakesOn old got now → IsDrained now → new ≡ record now { looks = new.looks } → FoundNoMore now new → FoundEmpty old new
  ends_empty old now new got t drained same found = record {
    drained = rw (ap (λ (m : Receiving M). m.taken) same, ap (λ (m : Receiving M). m.ended) same) drained;
    no_more = record {
      looks = t.looks.0 ++ found.looks;
      looked = found.looked ∙ ap (λ l. l ++ found.looks) (sym t.looks.1) ∙ append_assoc old.looks t.looks.0 found.looks;
      no_more = λ s lt. Any-back (ShowsNoMore new s) t.looks.0 found.looks (found.no_more s lt);
    };
  }

  pub ends_dry : (old new : Receiving M) (got : List (Stamped M)) → TakesOn old got new → IsDrained new → HasEnded old → IsDry new
  ends_dry old new got t drained ended = record { ended = rw (same_senders old new got t, same_ended old new got t) ended; drained = drained }

  -- what was taken of the senders that were found ended
  pub drained_within : (r : Receiving M) → IsDrained r → All (λ e. IsPrefix (messages_of e.sender r.taken) e.put) r.ended
  drained_within r drained k d lt = ([], append-nil (messages_of _ r.taken) ∙ drained k d lt)

  -- a message that is taken shows that the receiver was not dry
  pub never_dry : (old now new : Receiving M) (x : Stamped M) → TakesOn old [] now → HasTaken now (x ∷ []) new → IsDry old → ⊥
  never_dry old now new x t h d = let none = (takes_on old now new [] (x ∷ []) t h).dry d in cc

  -- a call that finds the queue empty, and then no more at the senders' words
  pub found_after : (old now mid new : Receiving M) (got : List (Stamped M)) → TakesOn old got now → mid ≡ now → IsDrained mid → new ≡ record mid { looks = new.looks } → IsPrefix mid.looks new.looks → FoundNoMore mid new
      → TakesOn old got new × FoundEmpty old new
  found_after old now mid new got t e drained same more found =
      let u : TakesOn old got mid = subst (TakesOn old got) (sym e) t in
      (looks_too old mid new got u same more, ends_empty old mid new got u drained same found)

  -- one that has taken nothing
  pub none_found : (old now mid new : Receiving M) → TakesOn old [] now → mid ≡ now → IsDrained mid → new ≡ record mid { looks = new.looks } → IsPrefix mid.looks new.looks → FoundNoMore mid new
      → (new.taken ≡ old.taken) × FoundEmpty old new
  none_found old now mid new t e drained same more found =
      let f = found_after old now mid new [] t e drained same more found in
      (ap (λ (m : Receiving M). m.taken) f.0.view ∙ append-nil old.taken, f.1)
