-- All lines, and what comes behind them.
use Rattle.std.proofs.Common.{◌≡◌, ℕ, suc, ◌+◌, List, [], ◌∷◌, ◌++◌, length, take, drop, Bool, refl, sym, ap, ◌∙◌, subst, arith, map, append_assoc}
use Rattle.std.specs.List.{count_by}
use Rattle.std.proofs.Math.Seq.{take-length}
use Rattle.std.proofs.lemmas.List.{take_at}
use Rattle.std.proofs.lemmas.List.Elements.{All-from_recursion}
use Rattle.query_model.specs.declared.line.Line.{Line}
use Rattle.query_model.specs.Documents.{IsLine}
use Rattle.query_model.specs.Order.{left_in}
use Rattle.query_model.proofs.ListFacts.{take_one_more}
use Rattle.fan_model.specs.Comings.{Coming, come_at_line, come_in, comings_of}
use Rattle.query_timers.specs.Seen.{TimersSeen}
use Rattle.front_walk.specs.declared.state.WalkState.{WalkState}
use Rattle.front_walk.specs.Coming.{Came, IsCut}
use Rattle.front_walk.specs.Following.{CutAt, Follows, IsInput, StepsAt, is_delayed}
use Rattle.front_walk.specs.Laws.{CountLaws, Laws}
use Rattle.front_walk.proofs.Cutting.{came-append, came_none, cut_behind, cut_longer}
use Rattle.front_walk.proofs.Following.{around}

-- behind so many lines
pub record Walked {W : Type 0} (does : ℕ → Coming → W → Bool → W → Type 0) (all : List Line) (i : ℕ) (w : W) (state : WalkState) (v : W) : Type 0 where
  pub follows : Follows all (take i all) state
  pub came : Came does 0 w (come_in (take i all)) v

pub none_walked : {W : Type 0} (does : ℕ → Coming → W → Bool → W → Type 0) (all : List Line) (w : W) (state : WalkState) → CountLaws → Follows all [] state → Walked does all 0 w state w
none_walked does all w state counts follows = record {
  follows = subst (λ (s : List Line). Follows all s state) (sym (take_at [] all 0 refl)) follows;
  came = subst (λ (c : List Coming). Came does 0 w c w) (sym (ap come_in (take_at [] all 0 refl) ∙ counts.none)) (came_none does 0 w);
}

pub one_more_walked : Laws → {W : Type 0} (does : ℕ → Coming → W → Bool → W → Type 0) (all : List Line) (i : ℕ) (w : W) (state new : WalkState) (m v : W) → IsInput all
    → Walked does all i w state m → StepsAt does all i state m new v → Walked does all (i + 1) w new v
one_more_walked laws does all i w state new m v input walked steps =
    let s : List Line = take i all in
    let l : Line = steps.l in
    let round = around all i l input steps.is in
    let one : i + 1 ≡ suc i = omega arith in
    let next : take (i + 1) all ≡ s ++ l ∷ [] = ap (λ (n : ℕ). take n all) one ∙ take_one_more all i l steps.is in
    let came = came-append does 0 w m v (come_in s) (come_at_line s l) walked.came
    (subst (λ (p : ℕ). Came does p m (come_at_line s l) v) (walked.follows.place ∙ omega arith) steps.steps.came) in
    record {
      follows = subst (λ (x : List Line). Follows all x new) (sym next) steps.steps.follows;
      came = subst (λ (c : List Coming). Came does 0 w c v) (sym (ap come_in next ∙ laws.comes s l round.is_line)) came;
    }

pub walked_cut : Laws → {W : Type 0} (does : ℕ → Coming → W → Bool → W → Type 0) (all : List Line) (i : ℕ) (w : W) (state : WalkState) (m v : W) → IsInput all
    → Walked does all i w state m → CutAt does all i state.place m v → IsCut does 0 w (comings_of all) v
walked_cut laws does all i w state m v input walked cut =
    let s : List Line = take i all in
    let l : Line = cut.l in
    let rest : List Line = drop (suc i) all in
    let round = around all i l input cut.is in
    let prefix = laws.first (s ++ l ∷ []) rest (All-from_recursion IsLine rest round.rest_are) in
    let whole : all ≡ (s ++ l ∷ []) ++ rest = round.all_are ∙ sym (append_assoc s (l ∷ []) rest) in
    let comings : comings_of all ≡ (come_in s ++ come_at_line s l) ++ prefix.0 =
    ap comings_of whole ∙ (sym prefix.1 ∙ ap (λ (c : List Coming). c ++ prefix.0) (laws.comes s l round.is_line)) in
    subst (λ (c : List Coming). IsCut does 0 w c v) (sym comings)
    (cut_longer does 0 w v (come_in s ++ come_at_line s l) prefix.0
    (cut_behind does 0 w m v (come_in s) (come_at_line s l) walked.came
    (subst (λ (p : ℕ). IsCut does p m (come_at_line s l) v) (walked.follows.place ∙ omega arith) cut.cut)))

-- behind all lines
pub all_walked : {W : Type 0} (does : ℕ → Coming → W → Bool → W → Type 0) (all : List Line) (i : ℕ) (w : W) (state : WalkState) (v : W) → i ≡ length all → Walked does all i w state v
    → Follows all all state × Came does 0 w (come_in all) v
all_walked does all i w state v end walked =
    let over : take i all ≡ all = ap (λ (n : ℕ). take n all) end ∙ take-length all in
    (subst (λ (s : List Line). Follows all s state) over walked.follows, subst (λ (s : List Line). Came does 0 w (come_in s) v) over walked.came)

pub all_came : {W : Type 0} (does : ℕ → Coming → W → Bool → W → Type 0) (all : List Line) (w : W) (state : WalkState) (m v : W) → Follows all all state × Came does 0 w (come_in all) m
    → Came does state.place m (map Coming.cancels (left_in all)) v → Came does 0 w (comings_of all) v
unfolding comings_of
all_came does all w state m v walked left =
    came-append does 0 w m v (come_in all) (map Coming.cancels (left_in all)) walked.1
    (subst (λ (p : ℕ). Came does p m (map Coming.cancels (left_in all)) v) (walked.0.place ∙ omega arith) left)

pub end_cut : {W : Type 0} (does : ℕ → Coming → W → Bool → W → Type 0) (all : List Line) (w : W) (state : WalkState) (m v : W) → Follows all all state × Came does 0 w (come_in all) m
    → IsCut does state.place m (map Coming.cancels (left_in all)) v → IsCut does 0 w (comings_of all) v
unfolding comings_of
end_cut does all w state m v walked cut =
    cut_behind does 0 w m v (come_in all) (map Coming.cancels (left_in all)) walked.1
    (subst (λ (p : ℕ). IsCut does p m (map Coming.cancels (left_in all)) v) (walked.0.place ∙ omega arith) cut)

-- before the first line
pub follows_none : CountLaws → (all : List Line) (timers : TimersSeen) (homes : ℕ) → timers ≡ record { tick = 0; asked = 0; waiting = []; fired = []; homes = homes } → homes ≡ count_by is_delayed all
    → Follows all [] (record { timers = timers; documents = 0; place = 0 })
follows_none counts all timers homes new many = record {
  tick = ap (λ (t : TimersSeen). t.tick) new;
  asked = ap (λ (t : TimersSeen). t.asked) new;
  waiting = ap (λ (t : TimersSeen). t.waiting) new;
  fired = ap (λ (t : TimersSeen). t.fired) new;
  homes = ap (λ (t : TimersSeen). t.homes + 0) new ∙ omega (arith, many);
  documents = refl;
  place = ap (λ (c : List Coming). length c) (sym counts.none);
}
