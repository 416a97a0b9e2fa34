-- How a printer goes on: with a reply that it is given, with one that goes out, and with none.
use Rattle.std.proofs.Common.{◌≡◌, ◌≢◌, ◌⊎◌, inl, inr, ℕ, zero, suc, ◌+◌, List, [], ◌∷◌, ◌++◌, ◌≤◌, ◌<◌, Bool, cond, length, take, drop, Some, None, true, false, refl, sym, ap, ◌∙◌, subst, arith, append_assoc, append-nil, take-append-drop}
use Rattle.std.specs.Prelude.{slice_get}
use Rattle.std.specs.List.{enumerate_from, flat_map, sum_by}
use Rattle.std.specs.BTreeMap.{BTreeMap, get, is_at}
use Rattle.std.specs.Map.{lookup}
use Rattle.std.specs.Ordering.{is_eq, nat_cmp}
use Rattle.std.specs.Io.KnownBytes.{Appends}
use Rattle.std.proofs.KnownBytes.{Appends-trans}
use Rattle.std.proofs.Math.Seq.{take-length}
use Rattle.std.proofs.Math.Dec.{eqb}
use Rattle.std.proofs.lemmas.Grind.{flat_map-append}
use Rattle.std.proofs.lemmas.List.FromFn.{length-enumerate_from}
use Rattle.std.proofs.lemmas.List.Sums.{sum_by-append, sum_by-cons, sum_by_push}
use Rattle.std.proofs.lemmas.Bool.Decides.{eqb_tells, nat_tests}
use Rattle.std.proofs.lemmas.Option.{slice_get_within}
use Rattle.fan_base.specs.Outside.{Shown, FaultsRose}
use Rattle.query_model.specs.declared.line.Line.{Line}
use Rattle.query_model.specs.declared.reply.Reply.{Reply}
use Rattle.query_model.specs.Order.{replies_of}
use Rattle.query_model.specs.Output.{reply_text}
use Rattle.query_model.specs.Pieces.{Bytes}
use Rattle.query_model.proofs.ListFacts.{drop_one_more, take_one_more}
use Rattle.reply_order.specs.declared.orderer.Orderer.{Orderer}
use Rattle.reply_order.specs.Orders.{AddsOne, Goes, Puts, Stays, held_of, next_of, reply_at}
use Rattle.fan_model.specs.Places.{IsReplyAt}
use Rattle.reply_printer.specs.declared.printer.Printer.{Printer}
use Rattle.reply_printer.specs.declared.printer.Progress.{Progress}
use Rattle.reply_printer.specs.declared.printer.Progress.TheVariants as progress
use Rattle.reply_printer.specs.Passing.{Gains, GainsFront}
use Rattle.reply_printer.specs.Printing.{AfterLine, GoesOn, HasWritten, KeepsPrinting, Placed, Prints, PrintsLine, Waits, placed_of, text_before, text_of}

abbrev text : ℕ × Reply → Bytes
text r = reply_text r.0 r.1

-- a list with places has them from the first on
at_place : {A : Type 0} (xs : List A) (first n : ℕ) (x : A) → slice_get xs n ≡ Some x → slice_get (enumerate_from first xs) n ≡ Some (first + n, x)
at_place [] first zero x at = absurd cc
at_place [] first (suc n) x at = absurd cc
at_place {A = A} (y ∷ ys) first zero x at =
    let same : y ≡ x = cc in
    let place : first ≡ first + 0 = omega arith in
    ap (λ (z : A). Some (first, z)) same ∙ ap (λ (k : ℕ). Some (k, x)) place
at_place {A = A} (y ∷ ys) first (suc n) x at =
    let place : first + 1 + n ≡ first + suc n = omega arith in
    at_place ys (first + 1) n x at ∙ ap (λ (k : ℕ). Some (k, x)) place

-- the text before a place, and behind it
text_more : (lines : List Line) (place : ℕ) (r : ℕ × Reply) → slice_get (replies_of lines) place ≡ Some r → text_before lines (suc place) ≡ text_before lines place ++ text r
text_more lines place r at =
    ap (flat_map text) (take_one_more (replies_of lines) place r at)
    ∙ (flat_map-append text (take place (replies_of lines)) (r ∷ []) ∙ ap (λ (l : Bytes). text_before lines place ++ l) (append-nil (text r)))

text_rest : (lines : List Line) (place : ℕ) → text_of lines ≡ text_before lines place ++ flat_map text (drop place (replies_of lines))
text_rest lines place =
    ap (flat_map text) (sym (take-append-drop place (replies_of lines))) ∙ flat_map-append text (take place (replies_of lines)) (drop place (replies_of lines))

-- whatever a printer has written is a front of all
pub front_of : (lines : List Line) (next : ℕ) (start now : Shown) (p : Progress) → HasWritten lines next start now p → GainsFront start now (text_of lines)
front_of lines next start now progress.Writing h = record {
  front = text_before lines next;
  rest = flat_map text (drop next (replies_of lines));
  whole = text_rest lines next;
  gained = h.gained;
}
front_of lines next start now progress.WriteFault h = h.0
front_of lines next start now progress.Memory h = h
front_of lines next start now progress.Repeated h = h

-- a front of one line behind the lines before
front_with : (lines : List Line) (next : ℕ) (r : ℕ × Reply) (start old new : Shown) → slice_get (replies_of lines) next ≡ Some r
    → Gains start old (text_before lines next) → GainsFront old new (text r) → GainsFront start new (text_of lines)
front_with lines next r start old new at before f = record {
  front = text_before lines next ++ f.front;
  rest = f.rest ++ flat_map text (drop (suc next) (replies_of lines));
  whole =
      let behind : flat_map text (drop next (replies_of lines)) ≡ text r ++ flat_map text (drop (suc next) (replies_of lines)) =
      ap (flat_map text) (drop_one_more (replies_of lines) next r at) in
      let line : text r ++ flat_map text (drop (suc next) (replies_of lines)) ≡ f.front ++ (f.rest ++ flat_map text (drop (suc next) (replies_of lines))) =
      ap (λ (l : Bytes). l ++ flat_map text (drop (suc next) (replies_of lines))) f.whole ∙ append_assoc f.front f.rest (flat_map text (drop (suc next) (replies_of lines))) in
      text_rest lines next ∙ (ap (λ (l : Bytes). text_before lines next ++ l) (behind ∙ line)
      ∙ sym (append_assoc (text_before lines next) f.front (f.rest ++ flat_map text (drop (suc next) (replies_of lines)))));
  gained = Appends-trans start.bytes old.bytes new.bytes (text_before lines next) f.front before.gained f.gained;
}

-- a line more
wrote_line : (lines : List Line) (next : ℕ) (r : ℕ × Reply) (start old new : Shown) (now : Progress) → slice_get (replies_of lines) next ≡ Some r
    → Gains start old (text_before lines next) → AfterLine (text r) old new now → HasWritten lines (suc next) start new now
wrote_line lines next r start old new progress.Writing at before after = record {
  gained = subst (λ (t : Bytes). Appends start.bytes new.bytes t) (sym (text_more lines next r at)) (Appends-trans start.bytes old.bytes new.bytes (text_before lines next) (text r) before.gained after.gained);
  sound = after.sound ∙ before.sound;
}
wrote_line lines next r start old new progress.WriteFault at before after =
    (front_with lines next r start old new at before after.0, subst (λ (n : ℕ). FaultsRose n new.faults) before.sound after.1)
wrote_line lines next r start old new progress.Memory at before after =
    subst (λ (s : Shown). GainsFront start s (text_of lines)) (sym after) (front_of lines next start old progress.Writing before)
wrote_line lines next r start old new progress.Repeated at before after = absurd after

-- where nothing more is written, what was written stays
stays_written : (lines : List Line) (next : ℕ) (start old new : Shown) (was now : Progress) → was ≢ progress.Writing → HasWritten lines next start old was
    → (now ≡ was) × (new ≡ old) → HasWritten lines (suc next) start new now
stays_written lines next start old new progress.Writing now other h same = absurd (other refl)
stays_written lines next start old new progress.WriteFault now other h same =
    subst (λ (p : Progress). HasWritten lines (suc next) start new p) (sym same.0) (subst (λ (s : Shown). GainsFront start s (text_of lines) × FaultsRose start.faults s.faults) (sym same.1) h)
stays_written lines next start old new progress.Memory now other h same =
    subst (λ (p : Progress). HasWritten lines (suc next) start new p) (sym same.0) (subst (λ (s : Shown). GainsFront start s (text_of lines)) (sym same.1) h)
stays_written lines next start old new progress.Repeated now other h same =
    subst (λ (p : Progress). HasWritten lines (suc next) start new p) (sym same.0) (subst (λ (s : Shown). GainsFront start s (text_of lines)) (sym same.1) h)

wrote_next : (lines : List Line) (next : ℕ) (r : ℕ × Reply) (start old new : Shown) (was now : Progress) → slice_get (replies_of lines) next ≡ Some r
    → HasWritten lines next start old was → PrintsLine was (text r) old new now → HasWritten lines (suc next) start new now
wrote_next lines next r start old new progress.Writing now at h p = wrote_line lines next r start old new now at h (p.writes refl)
wrote_next lines next r start old new progress.WriteFault now at h p = stays_written lines next start old new progress.WriteFault now (λ e. absurd cc) h (p.leaves (λ e. absurd cc))
wrote_next lines next r start old new progress.Memory now at h p = stays_written lines next start old new progress.Memory now (λ e. absurd cc) h (p.leaves (λ e. absurd cc))
wrote_next lines next r start old new progress.Repeated now at h p = stays_written lines next start old new progress.Repeated now (λ e. absurd cc) h (p.leaves (λ e. absurd cc))

-- a printer that goes on behind a line went on before it
went_on : (line : Bytes) (old new : Shown) (was now : Progress) → PrintsLine was line old new now → GoesOn now → GoesOn was
went_on line old new progress.Writing now p g = inl refl
went_on line old new progress.WriteFault now p g = inr refl
went_on line old new progress.Memory now p g = subst GoesOn (p.leaves (λ e. absurd cc)).0 g
went_on line old new progress.Repeated now p g = subst GoesOn (p.leaves (λ e. absurd cc)).0 g

-- the weight of a list with one item more
weight_more : (weight : Placed → ℕ) (old new : List Placed) (x : Placed) → AddsOne old x new → sum_by weight new ≡ sum_by weight old + weight x
weight_more weight old new x a =
    let was : sum_by weight old ≡ sum_by weight a.front + sum_by weight a.back = ap (sum_by weight) a.was ∙ sum_by-append weight a.front a.back in
    let is : sum_by weight new ≡ sum_by weight a.front + sum_by weight (x ∷ a.back) = ap (sum_by weight) a.is ∙ sum_by-append weight a.front (x ∷ a.back) in
    let first = sum_by-cons weight x a.back in
    omega arith

-- the weight of the replies before a place, with the one at that place
weight_to : (lines : List Line) (weight : Placed → ℕ) (place : ℕ) (r : ℕ × Reply) → slice_get (replies_of lines) place ≡ Some r
    → sum_by weight (take (suc place) (placed_of lines)) ≡ sum_by weight (take place (placed_of lines)) + weight (place, r)
weight_to lines weight place r at =
    ap (sum_by weight) (take_one_more (placed_of lines) place (0 + place, r) (at_place (replies_of lines) 0 place r at))
    ∙ (sum_by_push weight (take place (placed_of lines)) (0 + place, r)
    ∙ ap (λ (k : ℕ). sum_by weight (take place (placed_of lines)) + weight (k, r)) (omega arith))

-- a place that isn't the next one comes after the one behind it
past : (next behind place : ℕ) → next ≤ place → place ≢ next → behind ≡ next + 1 → behind ≤ place
past next behind place within other is = omega arith

-- the reply whose turn has come goes out, with its line
pub prints_next : (lines : List Line) (given : List Placed) (p q : Printer) (r : ℕ × Reply) (start old new : Shown)
    → reply_at p.orderer (next_of p.orderer) ≡ Some r
    → AddsOne (held_of q.orderer) (next_of p.orderer, r) (held_of p.orderer)
    → Goes p.orderer q.orderer
    → PrintsLine p.progress (text r) old new q.progress
    → Prints lines given p start old → Prints lines given q start new
prints_next lines given p q r start old new found takes goes line h =
    let next : ℕ = next_of p.orderer in
    let at : slice_get (replies_of lines) next ≡ Some r = (h.holds next r.0 r.1 found).1.at in
    let behind : next_of q.orderer ≡ suc next = goes.next ∙ omega arith in
    record {
      wrote = subst (λ (n : ℕ). HasWritten lines n start new q.progress) (sym behind) (wrote_next lines next r start old new p.progress q.progress at h.wrote line);
      holds = λ place number reply there. by place number reply there (eqb_tells place next);
      account = λ g weight.
          let before = h.account (went_on (text r) old new p.progress q.progress line g) weight in
          let one = weight_more weight (held_of q.orderer) (held_of p.orderer) (next, r) takes in
          let more = weight_to lines weight next r at in
          let to : sum_by weight (take (next_of q.orderer) (placed_of lines)) ≡ sum_by weight (take (suc next) (placed_of lines)) = ap (λ (n : ℕ). sum_by weight (take n (placed_of lines))) behind in
          omega arith;
    }
  where
    by : (place number : ℕ) (reply : Reply) → reply_at q.orderer place ≡ Some (number, reply)
        → ((eqb place (next_of p.orderer) ≡ true) × (place ≡ next_of p.orderer)) ⊎ ((eqb place (next_of p.orderer) ≡ false) × (place ≢ next_of p.orderer))
        → (next_of q.orderer ≤ place) × IsReplyAt lines place number reply
    by place number reply there (inl same) = let gone : reply_at q.orderer place ≡ None = ap (reply_at q.orderer) same.1 ∙ goes.held.here in absurd cc
    by place number reply there (inr other) =
        let was = h.holds place number reply (sym (goes.held.others place other.1) ∙ there) in
        (past (next_of p.orderer) (next_of q.orderer) place was.0 other.1 goes.next, was.1)

at_itself : (k : ℕ) → is_eq (nat_cmp k k) ≡ true
at_itself k = grind (arith, nat_tests)

-- a map has its first entry at that entry's key
found_first : {X : Type 0} (m : BTreeMap ℕ X) (k : ℕ) (x : X) (more : List (ℕ × X)) → m.entries ≡ (k, x) ∷ more → get nat_cmp m k ≡ Some x
found_first {X = X} m k x more is = ap (λ (es : List (ℕ × X)). lookup (is_at (nat_cmp k)) es) is ∙ ap (λ (b : Bool). cond b (Some x) (lookup (is_at (nat_cmp k)) more)) (at_itself k)

-- the same printing, by a list that is none longer
pub given_none : (lines : List Line) (given : List Placed) (p : Printer) (start now : Shown) → Prints lines given p start now → Prints lines (given ++ []) p start now
given_none lines given p start now h = subst (λ (g : List Placed). Prints lines g p start now) (sym (append-nil given)) h

-- a reply is held that was given
pub prints_held : (lines : List Line) (given : List Placed) (p q : Printer) (place number : ℕ) (reply : Reply) (start now : Shown)
    → next_of p.orderer ≤ place → Puts p.orderer q.orderer place (number, reply) → q.progress ≡ p.progress → IsReplyAt lines place number reply
    → Prints lines given p start now → Prints lines (given ++ (place, (number, reply)) ∷ []) q start now
prints_held lines given p q place number reply start now later puts same at h = record {
  wrote = subst (λ (n : ℕ). HasWritten lines n start now q.progress) (sym puts.next) (subst (λ (g : Progress). HasWritten lines (next_of p.orderer) start now g) (sym same) h.wrote);
  holds = λ other n r there. by other n r there (eqb_tells other place);
  account = λ g weight.
      let before = h.account (subst GoesOn same g) weight in
      let one = weight_more weight (held_of p.orderer) (held_of q.orderer) (place, (number, reply)) puts.list in
      let more = sum_by_push weight given (place, (number, reply)) in
      let to : sum_by weight (take (next_of q.orderer) (placed_of lines)) ≡ sum_by weight (take (next_of p.orderer) (placed_of lines)) = ap (λ (n : ℕ). sum_by weight (take n (placed_of lines))) puts.next in
      omega arith;
}
  where
    by : (other n : ℕ) (r : Reply) → reply_at q.orderer other ≡ Some (n, r)
        → ((eqb other place ≡ true) × (other ≡ place)) ⊎ ((eqb other place ≡ false) × (other ≢ place))
        → (next_of q.orderer ≤ other) × IsReplyAt lines other n r
    by other n r there (inl same') =
        let here : reply_at q.orderer other ≡ Some (number, reply) = ap (reply_at q.orderer) same'.1 ∙ puts.held.here in
        let pair : (number, reply) ≡ (n, r) = cc in
        let a : number ≡ n = ap (λ (x : ℕ × Reply). x.0) pair in
        let b : reply ≡ r = ap (λ (x : ℕ × Reply). x.1) pair in
        let within : next_of q.orderer ≤ other = subst (λ (k : ℕ). k ≤ other) (sym puts.next) (subst (λ (k : ℕ). next_of p.orderer ≤ k) (sym same'.1) later) in
        (within, subst (λ (k : ℕ). IsReplyAt lines k n r) (sym same'.1) (subst (λ (k : ℕ). IsReplyAt lines place k r) a (subst (λ (x : Reply). IsReplyAt lines place number x) b at)))
    by other n r there (inr other') =
        let was = h.holds other n r (sym (puts.held.others other other'.1) ∙ there) in
        (subst (λ (k : ℕ). k ≤ other) (sym puts.next) was.0, was.1)

-- a printer that goes on no more
pub prints_no_more : (lines : List Line) (given more : List Placed) (p q : Printer) (start now : Shown)
    → next_of q.orderer ≡ next_of p.orderer
    → ((place : ℕ) → reply_at q.orderer place ≡ reply_at p.orderer place)
    → (q.progress ≡ progress.Memory) ⊎ (q.progress ≡ progress.Repeated)
    → Prints lines given p start now → Prints lines (given ++ more) q start now
prints_no_more lines given more p q start now next same ends h = record {
  wrote = wrote q.progress ends;
  holds = λ place number reply there.
      let was = h.holds place number reply (sym (same place) ∙ there) in
      (subst (λ (k : ℕ). k ≤ place) (sym next) was.0, was.1);
  account = λ g weight. absurd (goes q.progress ends g);
}
  where
    wrote : (g : Progress) → (g ≡ progress.Memory) ⊎ (g ≡ progress.Repeated) → HasWritten lines (next_of q.orderer) start now g
    wrote progress.Writing (inl e) = absurd cc
    wrote progress.Writing (inr e) = absurd cc
    wrote progress.WriteFault (inl e) = absurd cc
    wrote progress.WriteFault (inr e) = absurd cc
    wrote progress.Memory e = front_of lines (next_of p.orderer) start now p.progress h.wrote
    wrote progress.Repeated e = front_of lines (next_of p.orderer) start now p.progress h.wrote

    goes : (g : Progress) → (g ≡ progress.Memory) ⊎ (g ≡ progress.Repeated) → GoesOn g → ⊥
    goes g (inl e) (inl f) = absurd cc
    goes g (inl e) (inr f) = absurd cc
    goes g (inr e) (inl f) = absurd cc
    goes g (inr e) (inr f) = absurd cc

-- nothing has changed
pub prints_still : (lines : List Line) (given : List Placed) (p q : Printer) (start now : Shown) → Stays p.orderer q.orderer → q.progress ≡ p.progress
    → Prints lines given p start now → Prints lines given q start now
prints_still lines given p q start now stays same h = record {
  wrote = subst (λ (n : ℕ). HasWritten lines n start now q.progress) (sym stays.next) (subst (λ (g : Progress). HasWritten lines (next_of p.orderer) start now g) (sym same) h.wrote);
  holds = λ place number reply there.
      let was = h.holds place number reply (sym (stays.held place) ∙ there) in
      (subst (λ (k : ℕ). k ≤ place) (sym stays.next) was.0, was.1);
  account = λ g weight.
      let before = h.account (subst GoesOn same g) weight in
      let list : sum_by weight (held_of q.orderer) ≡ sum_by weight (held_of p.orderer) = ap (sum_by weight) stays.list in
      let to : sum_by weight (take (next_of q.orderer) (placed_of lines)) ≡ sum_by weight (take (next_of p.orderer) (placed_of lines)) = ap (λ (n : ℕ). sum_by weight (take n (placed_of lines))) stays.next in
      omega arith;
}

-- the same of all inputs
pub keeps_next : (a p q : Printer) (r : ℕ × Reply) (before old new : Shown) → KeepsPrinting [] a p before old
    → reply_at p.orderer (next_of p.orderer) ≡ Some r → AddsOne (held_of q.orderer) (next_of p.orderer, r) (held_of p.orderer) → Goes p.orderer q.orderer
    → PrintsLine p.progress (text r) old new q.progress → KeepsPrinting [] a q before new
keeps_next a p q r before old new k found takes goes line = record {
  keeps = λ lines given start all h. prints_next lines (given ++ []) p q r start old new found takes goes line (k.keeps lines given start all h);
}

pub keeps_still : (a p q : Printer) (before now : Shown) → KeepsPrinting [] a p before now → Stays p.orderer q.orderer → q.progress ≡ p.progress → KeepsPrinting [] a q before now
keeps_still a p q before now k stays same = record {
  keeps = λ lines given start all h. prints_still lines (given ++ []) p q start now stays same (k.keeps lines given start all h);
}

pub keeps_no_more : (p q : Printer) (more : List Placed) (now : Shown) → next_of q.orderer ≡ next_of p.orderer → ((place : ℕ) → reply_at q.orderer place ≡ reply_at p.orderer place)
    → (q.progress ≡ progress.Memory) ⊎ (q.progress ≡ progress.Repeated) → KeepsPrinting more p q now now
keeps_no_more p q more now next same ends = record {
  keeps = λ lines given start all h. prints_no_more lines given more p q start now next same ends h;
}

pub keeps_held : (p m q : Printer) (place number : ℕ) (reply : Reply) (old new : Shown) → next_of p.orderer ≤ place → Puts p.orderer m.orderer place (number, reply) → m.progress ≡ p.progress
    → KeepsPrinting [] m q old new → KeepsPrinting ((place, (number, reply)) ∷ []) p q old new
keeps_held p m q place number reply old new later puts same k = record {
  keeps = λ lines given start all h.
      subst (λ (g : List Placed). Prints lines g q start new) (append-nil (given ++ (place, (number, reply)) ∷ []))
      (k.keeps lines (given ++ (place, (number, reply)) ∷ []) start (λ k d below. absurd (omega (arith, below)))
      (prints_held lines given p m place number reply start old later puts same (all 0 (place, (number, reply)) (omega arith)) h));
}

-- the laws
pub all_written : (lines : List Line) (given : List Placed) (p : Printer) (start now : Shown) → Prints lines given p start now → p.progress ≡ progress.Writing
    → next_of p.orderer ≡ length (replies_of lines) → Gains start now (text_of lines)
all_written lines given p start now h writing last =
    let wrote : Gains start now (text_before lines (next_of p.orderer)) = subst (λ (g : Progress). HasWritten lines (next_of p.orderer) start now g) writing h.wrote in
    subst (λ (t : Bytes). Gains start now t) (ap (text_before lines) last ∙ ap (flat_map text) (take-length (replies_of lines))) wrote

pub fault_rose : (lines : List Line) (given : List Placed) (p : Printer) (start now : Shown) → Prints lines given p start now → p.progress ≡ progress.WriteFault → FaultsRose start.faults now.faults
fault_rose lines given p start now h fault = (subst (λ (g : Progress). HasWritten lines (next_of p.orderer) start now g) fault h.wrote).1

-- where the replies of all places have gone out, none is held
none_held : (lines : List Line) (o : Orderer (ℕ × Reply)) (held : List Placed) → held_of o ≡ held
    → ((place number : ℕ) (reply : Reply) → reply_at o place ≡ Some (number, reply) → (next_of o ≤ place) × IsReplyAt lines place number reply)
    → next_of o ≡ length (replies_of lines) → held ≡ []
none_held lines o [] is holds last = refl
none_held lines o ((place, (number, reply)) ∷ more) is holds last =
    let first : reply_at o place ≡ Some (number, reply) = found_first o.held place (number, reply) more is in
    let here = holds place number reply first in
    let within : place < length (replies_of lines) = slice_get_within (replies_of lines) place (number, reply) here.1.at in
    absurd (omega arith)

pub none_is_held : (lines : List Line) (given : List Placed) (p : Printer) (start now : Shown) → Prints lines given p start now
    → next_of p.orderer ≡ length (replies_of lines) → held_of p.orderer ≡ []
none_is_held lines given p start now h last = none_held lines p.orderer (held_of p.orderer) refl h.holds last

pub all_given : (lines : List Line) (given : List Placed) (p : Printer) (start now : Shown) → Prints lines given p start now → GoesOn p.progress
    → next_of p.orderer ≡ length (replies_of lines) → (weight : Placed → ℕ) → sum_by weight given ≡ sum_by weight (placed_of lines)
all_given lines given p start now h g last weight =
    let account = h.account g weight in
    let none : held_of p.orderer ≡ [] = none_is_held lines given p start now h last in
    let held : sum_by weight (held_of p.orderer) ≡ 0 = ap (sum_by weight) none in
    let long : next_of p.orderer ≡ length (placed_of lines) = last ∙ sym (length-enumerate_from 0 (replies_of lines)) in
    let all : sum_by weight (take (next_of p.orderer) (placed_of lines)) ≡ sum_by weight (placed_of lines) =
    ap (λ (n : ℕ). sum_by weight (take n (placed_of lines))) long ∙ ap (sum_by weight) (take-length (placed_of lines)) in
    omega arith

-- a printer that has come to repeat came to it before the line
pub was_repeated : (line : Bytes) (old new : Shown) (was now : Progress) → PrintsLine was line old new now → now ≡ progress.Repeated → was ≡ progress.Repeated
was_repeated line old new progress.Writing now p is = absurd (subst (λ (g : Progress). AfterLine line old new g) is (p.writes refl))
was_repeated line old new progress.WriteFault now p is = sym (p.leaves (λ e. absurd cc)).0 ∙ is
was_repeated line old new progress.Memory now p is = sym (p.leaves (λ e. absurd cc)).0 ∙ is
was_repeated line old new progress.Repeated now p is = refl

-- a printer that writes no more stays as far as it is, and so does its sink
pub silent_still : {S : Type 0} (line : Bytes) (old new : Shown) (first was now : Progress) (s m t : S) → PrintsLine was line old new now → (was ≢ progress.Writing → t ≡ m)
    → (first ≢ progress.Writing → (was ≡ first) × (m ≡ s)) → first ≢ progress.Writing → (now ≡ first) × (t ≡ s)
silent_still line old new first was now s m t prints silent before other =
    let so_far = before other in
    let still : was ≢ progress.Writing = λ e. other (sym so_far.0 ∙ e) in
    ((prints.leaves still).0 ∙ so_far.0, silent still ∙ so_far.1)

pub waits_still : (o m : Orderer (ℕ × Reply)) → Stays o m → reply_at o (next_of o) ≡ None → Waits m
waits_still o m stays none = ap (reply_at m) stays.next ∙ (stays.held (next_of o) ∙ none)
