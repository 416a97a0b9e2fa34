-- What contracts see of an arrival before and after its step.
use Rattle.std.proofs.Common.{◌≡◌, ℕ, zero, suc, ◌<◌, ◌≤◌, List, [], ◌∷◌, length, sym, ap, ◌∙◌, subst, Some, arith}
use Rattle.std.specs.Prelude.{slice_get}
use mathlib.Core.Option as maybe
use mathlib.Core.Option.{some-injective, some-ne-none}
use lib.ListN.{get_elem?}
use Rattle.atomic_table.specs.Seated.{TableId}
use Rattle.collect_ops.specs.declared.view.Ending.{Ending}
use Rattle.collect_ops.specs.declared.view.Phase.{Phase}
use Rattle.collect_ops.specs.declared.view.Phase.TheVariants as phase
use Rattle.collect_ops.specs.declared.view.View.TheVariants as view
use Rattle.collect_ops.specs.Seen.{ArrivalSeen, ReceiptSeen, LostSeen, CompletedSeen}
use Rattle.collect_ops.specs.Views.{size_in, end_in, index_in, phase_in, kept_in, found_in, list_in, desk_in}
use Rattle.collect_ops.specs.Steps.{Standing, at, IsDesk}
use Rattle.collect_ops.specs.Answers.{Gathered, KeptBy, ClaimedBy, LostBy}

-- the two ways to read a list by index
pub by_slice : {X : Type 0} (xs : List X) (k : ℕ) (x : X) → get_elem? xs k ≡ maybe.some x → slice_get xs k ≡ Some x
by_slice [] k x e = absurd (some-ne-none x (sym e))
by_slice (y ∷ ys) zero x e = ap (λ (z : _). Some z) (some-injective y x e)
by_slice (y ∷ ys) (suc k) x e = by_slice ys k x e

module _ {X E : Type 0} where
  -- an arrival, as it is seen, and where its seat stands before and after its step
  pub record Passes (arrival : ArrivalSeen E) (table table' : TableId) (before after : Standing X E) (size : ℕ) (r : Ending X E) (index : ℕ) (q : Phase X) : Type 0 where
    pub seen : ◌≡◌ {A = ArrivalSeen E} (record { desk = desk_in table before.0; index = index }) arrival
    pub ready : before ≡ at size r index phase.Ready
    pub now : after ≡ at size r index q
    pub of_table : table' ≡ table

  module _ (arrival : ArrivalSeen E) (table table' : TableId) (before after : Standing X E) (size : ℕ) (r : Ending X E) (index : ℕ) (q : Phase X) (p : Passes arrival table table' before after size r index q) where
    desk_before : desk_in table before.0 ≡ desk_in table' after.0
    desk_before = ap (λ (m : Standing X E). desk_in table m.0) p.ready ∙ ((λ i. desk_in (sym p.of_table i) (view.Arriving size r index q)) ∙ sym (ap (λ (m : Standing X E). desk_in table' m.0) p.now))

    same_desk : desk_in table' after.0 ≡ arrival.desk
    same_desk = sym desk_before ∙ ap (λ a. a.desk) p.seen

    same_index : index_in after.0 ≡ arrival.index
    same_index = ap (λ (m : Standing X E). index_in m.0) p.now ∙ ap (λ a. a.index) p.seen

    same_phase : phase_in after.0 ≡ q
    same_phase = ap (λ (m : Standing X E). phase_in m.0) p.now

    same_size : size ≡ arrival.desk.size
    same_size = sym (ap (λ (m : Standing X E). size_in m.0) p.ready) ∙ ap (λ a. a.desk.size) p.seen

    end_before : arrival.desk.end ≡ Some r.end
    end_before = sym (ap (λ a. a.desk.end) p.seen) ∙ ap (λ (m : Standing X E). end_in m.0) p.ready

    pub index_is : index ≡ arrival.index
    index_is = ap (λ a. a.index) p.seen

    pub done_desk : IsDesk size table → IsDesk (size_in after.0) table
    done_desk desk = subst (λ n. IsDesk n table) (sym (ap (λ (m : Standing X E). size_in m.0) p.now)) desk

    pub phase_now : phase_in after.0 ≡ q
    phase_now = same_phase

    pub lost_by : (lost : LostSeen E) → lost ≡ record { desk = desk_in table' after.0; index = index_in after.0; found = 1 } → LostBy arrival lost
    lost_by lost is = is ∙ (λ i. record { desk = same_desk i; index = same_index i; found = 1 })

    pub kept_by : (x : X) (found : ℕ) (receipt : ReceiptSeen X E) → q ≡ phase.Kept x found → 1 < found → found ≤ size
        → receipt ≡ record { desk = desk_in table' after.0; index = index_in after.0; outcome = kept_in (phase_in after.0); found = found_in (phase_in after.0) } → KeptBy arrival x receipt
    kept_by x found receipt kept above below is =
        let phased = same_phase ∙ kept in
        let count : receipt.found ≡ found = ap (λ z. z.found) is ∙ ap found_in phased in
        record {
          is = is ∙ (λ i. record { desk = same_desk i; index = same_index i; outcome = kept_in (phased i); found = sym (ap (λ z. z.found) is) i });
          more = subst (λ n. 1 < n) (sym count) above;
          within = let s = same_size in omega arith;
        }

    pub claimed_by : (end : E) (done : CompletedSeen X E) → q ≡ phase.Claimed → end ≡ r.end
        → done ≡ record { desk = desk_in table' after.0; index = index_in after.0; found = found_in (phase_in after.0); list = list_in (phase_in after.0) } → ClaimedBy arrival end done
    claimed_by end done claimed ends is =
        let phased = same_phase ∙ claimed in
        record {
          end_is = end_before ∙ ap (λ (e : E). Some e) (sym ends);
          receipt = is ∙ (λ i. record { desk = same_desk i; index = same_index i; found = found_in (phased i); list = list_in (phased i) });
        }

    pub gathered : (x : X) (xs list : List X) (end : E) (done : CompletedSeen X E) → q ≡ phase.Emptied xs → list ≡ xs → length xs ≡ size → get_elem? xs index ≡ maybe.some x → end ≡ r.end
        → done ≡ record { desk = desk_in table' after.0; index = index_in after.0; found = found_in (phase_in after.0); list = list_in (phase_in after.0) } → Gathered arrival x list end done
    gathered x xs list end done full same long own ends is =
        let phased = same_phase ∙ full in
        record {
          long = ap length same ∙ (long ∙ same_size);
          own = ap (λ (l : List X). slice_get l arrival.index) same ∙ (ap (slice_get xs) (sym index_is) ∙ by_slice xs index x own);
          end_is = end_before ∙ ap (λ (e : E). Some e) (sym ends);
          receipt = is ∙ (λ i. record { desk = same_desk i; index = same_index i; found = found_in (phased i); list = (ap list_in phased ∙ sym same) i });
        }

module _ {X E : Type 0} where
  -- the desk that the seats speak of, before and after one is dealt
  pub dealt_desk : (table : TableId) (before after : Standing X E) (size : ℕ) (r : Ending X E) (index next : ℕ) (p : Phase X) → before ≡ (view.Dealing size r index, []) → after ≡ at size r next p → desk_in table after.0 ≡ desk_in table before.0
  dealt_desk table before after size r index next p was now = ap (λ (m : Standing X E). desk_in table m.0) now ∙ sym (ap (λ (m : Standing X E). desk_in table m.0) was)

  pub dealer_desk : (table : TableId) (before after : Standing X E) (size : ℕ) (r : Ending X E) (index next : ℕ) → before ≡ (view.Dealing size r index, []) → after ≡ (view.Dealing size r next, []) → desk_in table after.0 ≡ desk_in table before.0
  dealer_desk table before after size r index next was now = ap (λ (m : Standing X E). desk_in table m.0) now ∙ sym (ap (λ (m : Standing X E). desk_in table m.0) was)
