-- Cancel lines and ticks.
use Rattle.std.proofs.Common.{◌≡◌, ℕ, suc, ◌+◌, List, [], ◌∷◌, ◌++◌, length, take, drop, Bool, true, false, not, nat_le, Some, refl, sym, ap, ◌∙◌, subst, arith, map, filter, append-nil, append_assoc, length-append}
use Rattle.std.specs.Prelude.{◌==◌, slice_get}
use Rattle.std.specs.List.{AllByRecursion}
use Rattle.std.proofs.lemmas.Bool.Decides.{nat_tests}
use Rattle.std.proofs.lemmas.List.{length-map, map-append}
use Rattle.query_model.specs.declared.line.Line.{Line}
use Rattle.query_model.specs.declared.line.Line.TheVariants as line
use Rattle.query_model.specs.LineByLine.{is_due, is_numbered}
use Rattle.query_model.specs.Order.{Asked, due_of, left_in}
use Rattle.query_model.specs.Sorting.{sorted_by}
use Rattle.query_model.proofs.ListLaws.{all-filter, all-right, filter-map, filter-same, heads_same, tails_same}
use Rattle.query_model.proofs.SortedLists.{all-sorted_by, map-sorted_by}
use Rattle.fan_model.specs.Comings.{Coming, ComesAt, IsAsked, answered_at_line, come_at_line, come_in, due_first, left_at_line}
use Rattle.query_timers.specs.declared.query.DelayedQuery.{DelayedQuery}
use Rattle.query_timers.specs.Seen.{Ticks, TimersSeen, has_number, is_due_by, without}
use Rattle.query_timers.specs.Seen as waits
use Rattle.front_walk.specs.declared.state.WalkState.{WalkState}
use Rattle.front_walk.specs.Coming.{Came, IsCut}
use Rattle.front_walk.specs.Following.{Follows, IsInput, IsTurnOf, Steps, kept_in}
use Rattle.front_walk.specs.Laws.{Laws}
use Rattle.front_walk.specs.Turns.{IsCancelling}
use Rattle.front_walk.proofs.Cutting.{came-append, came_none, came_one, cut_behind, cut_first}
use Rattle.front_walk.proofs.Following.{all_kept, around, follows_more, kept_more, left_are}
use Rattle.front_walk.proofs.LineByLine.{comes_at}

pub other_way : (m n : ℕ) → (m == n) ≡ (n == m)
other_way m n = grind (arith, nat_tests)

pub no_more : {A B : Type 0} (f : A → B) (xs : List A) → [] ≡ map f xs → xs ≡ []
no_more f [] h = refl
no_more f (x ∷ xs) h = absurd cc

pub first_of_map : {A B : Type 0} (f : A → B) (xs : List A) (k : B) (ks : List B) → k ∷ ks ≡ map f xs → (a : A) × (more : List A) × (xs ≡ a ∷ more) × (k ≡ f a) × (ks ≡ map f more)
first_of_map f [] k ks h = absurd cc
first_of_map f (x ∷ xs) k ks h = (x, xs, refl, heads_same k (f x) ks (map f xs) h, tails_same k (f x) ks (map f xs) h)

-- cancel lines

numbered_kept : (all s : List Line) (n : ℕ) (state : WalkState) → Follows all s state → filter (has_number n) state.timers.waiting ≡ map (kept_in s) (filter (is_numbered n) (left_in s))
numbered_kept all s n state follows =
    ap (filter (has_number n)) follows.waiting
    ∙ (filter-map (has_number n) (kept_in s) (left_in s)
    ∙ ap (map (kept_in s)) (filter-same (λ a. has_number n (kept_in s a)) (is_numbered n) (λ a. other_way a.number n) (left_in s)))

others_kept : (all s : List Line) (n : ℕ) (state : WalkState) → Follows all s state
    → filter (λ q. not (has_number n q)) state.timers.waiting ≡ map (kept_in s) (filter (λ a. not (is_numbered n a)) (left_in s))
others_kept all s n state follows =
    ap (filter (λ q. not (has_number n q))) follows.waiting
    ∙ (filter-map (λ q. not (has_number n q)) (kept_in s) (left_in s)
    ∙ ap (map (kept_in s)) (filter-same (λ a. not (has_number n (kept_in s a))) (λ a. not (is_numbered n a)) (λ a. ap not (other_way a.number n)) (left_in s)))

pub follows_cancel : Laws → (all : List Line) (i n : ℕ) (old new : WalkState) → IsInput all → slice_get all i ≡ Some (line.Cancel n) → Follows all (take i all) old
    → new.timers ≡ without n old.timers → new.documents ≡ old.documents → new.place ≡ old.place + length (come_at_line (take i all) (line.Cancel n))
    → Follows all (take i all ++ line.Cancel n ∷ []) new
follows_cancel laws all i n old new input at follows made documents place =
    let s : List Line = take i all in
    let l : Line = line.Cancel n in
    let round = around all i l input at in
    let others : List Asked = filter (λ a. not (is_numbered n a)) (left_in s) in
    follows_more laws all s l old new round.is_line follows
    (ap (λ (t : TimersSeen). t.tick) made ∙ omega arith) (ap (λ (t : TimersSeen). t.asked) made ∙ omega arith)
    (ap (λ (t : TimersSeen). t.waiting) made ∙ (others_kept all s n old follows ∙ all_kept laws s (l ∷ []) others (all-filter (IsAsked s) (λ a. not (is_numbered n a)) (left_in s) (left_are laws s))))
    (ap (λ (t : TimersSeen). t.fired) made ∙ follows.fired) (ap (λ (t : TimersSeen). t.homes + 0) made ∙ omega arith) (documents ∙ omega arith) place

-- nobody waits with the number
pub none_cancelled : (all : List Line) (i n : ℕ) (state : WalkState) → Follows all (take i all) state → [] ≡ filter (has_number n) state.timers.waiting
    → come_at_line (take i all) (line.Cancel n) ≡ []
none_cancelled all i n state follows none =
    ap (map Coming.cancels) (no_more (kept_in (take i all)) (filter (is_numbered n) (left_in (take i all))) (none ∙ numbered_kept all (take i all) n state follows))

-- one does
pub record Cancelled (all : List Line) (i n : ℕ) (query : DelayedQuery) : Type 0 where
  pub asked : Asked
  pub come : come_at_line (take i all) (line.Cancel n) ≡ Coming.cancels asked ∷ []
  pub names : query.number ≡ asked.number

pub one_cancelled : (all : List Line) (i n : ℕ) (state : WalkState) (query : DelayedQuery) → Follows all (take i all) state → query ∷ [] ≡ filter (has_number n) state.timers.waiting
    → Cancelled all i n query
one_cancelled all i n state query follows those =
    let s : List Line = take i all in
    let one = first_of_map (kept_in s) (filter (is_numbered n) (left_in s)) query [] (those ∙ numbered_kept all s n state follows) in
    record {
      asked = one.0;
      come = ap (map Coming.cancels) (one.2 ∙ ap (λ (l : List Asked). one.0 ∷ l) (no_more (kept_in s) one.1 one.4));
      names = ap (λ (q : DelayedQuery). q.number) one.3;
    }

pub cancelled_comes : Laws → (all : List Line) (i n place : ℕ) (query : DelayedQuery) → IsInput all → slice_get all i ≡ Some (line.Cancel n) → (one : Cancelled all i n query)
    → place ≡ length (come_in (take i all)) → ComesAt all place (Coming.cancels one.asked)
cancelled_comes laws all i n place query input at one here =
    comes_at laws all i (line.Cancel n) [] [] (Coming.cancels one.asked) place (around all i (line.Cancel n) input at) one.come (here ∙ omega arith)

-- ticks

abbrev pub due_at_line : List Line → ℕ → ℕ → List Asked
due_at_line all i n = answered_at_line (take i all) (line.Tick n)

pub fired_kept : (all : List Line) (i n : ℕ) (old : WalkState) (new : TimersSeen) → Follows all (take i all) old → Ticks n old.timers new → new.fired ≡ map (kept_in (take i all)) (due_at_line all i n)
fired_kept all i n old new follows ticks =
    let s : List Line = take i all in
    let tick : ℕ = old.timers.tick + n in
    ticks.fired
    ∙ (ap (λ (l : List DelayedQuery). l ++ sorted_by waits.due_first (filter (is_due_by tick) old.timers.waiting)) follows.fired
    ∙ (ap (λ (l : List DelayedQuery). sorted_by waits.due_first (filter (is_due_by tick) l)) follows.waiting
    ∙ (ap (sorted_by waits.due_first) (filter-map (is_due_by tick) (kept_in s) (left_in s))
    ∙ (map-sorted_by (kept_in s) waits.due_first (filter (λ a. is_due_by tick (kept_in s a)) (left_in s))
    ∙ ap (λ (m : ℕ). map (kept_in s) (sorted_by (due_first s) (filter (λ a. nat_le (due_of s a) (m + n)) (left_in s)))) follows.tick))))

waiting_kept : (all : List Line) (i n : ℕ) (old : WalkState) (new : TimersSeen) → Follows all (take i all) old → Ticks n old.timers new
    → new.waiting ≡ map (kept_in (take i all)) (left_at_line (take i all) (line.Tick n))
waiting_kept all i n old new follows ticks =
    let s : List Line = take i all in
    let tick : ℕ = old.timers.tick + n in
    ticks.waiting
    ∙ (ap (filter (λ q. not (is_due_by tick q))) follows.waiting
    ∙ (filter-map (λ q. not (is_due_by tick q)) (kept_in s) (left_in s)
    ∙ ap (λ (m : ℕ). map (kept_in s) (filter (λ a. not (nat_le (due_of s a) (m + n))) (left_in s))) follows.tick))

-- while those that have fired are begun
pub record Begun {W : Type 0} (does : ℕ → Coming → W → Bool → W → Type 0) (all : List Line) (i n : ℕ) (old : WalkState) (w : W) (state : WalkState) (v : W) : Type 0 where
  pub done : List Asked
  pub todo : List Asked
  pub due : due_at_line all i n ≡ done ++ todo
  pub fired : state.timers.fired ≡ map (kept_in (take i all)) todo
  pub tick : state.timers.tick ≡ old.timers.tick + n
  pub asked : state.timers.asked ≡ old.timers.asked
  pub homes : state.timers.homes ≡ old.timers.homes
  pub waiting : state.timers.waiting ≡ map (kept_in (take i all)) (left_at_line (take i all) (line.Tick n))
  pub documents : state.documents ≡ old.documents
  pub place : state.place ≡ old.place + length done
  pub came : Came does old.place w (map Coming.begins done) v

pub none_begun : {W : Type 0} (does : ℕ → Coming → W → Bool → W → Type 0) (all : List Line) (i n : ℕ) (old new : WalkState) (w : W) → Follows all (take i all) old → Ticks n old.timers new.timers
    → new.documents ≡ old.documents → new.place ≡ old.place → Begun does all i n old w new w
none_begun does all i n old new w follows ticks documents place = record {
  done = [];
  todo = due_at_line all i n;
  due = refl;
  fired = fired_kept all i n old new.timers follows ticks;
  tick = ticks.tick;
  asked = ticks.asked;
  homes = ticks.homes;
  waiting = waiting_kept all i n old new.timers follows ticks;
  documents = documents;
  place = place ∙ omega arith;
  came = came_none does old.place w;
}

-- the next of those that have fired
pub record Next (all : List Line) (i n : ℕ) (done : List Asked) (query : DelayedQuery) (rest : List DelayedQuery) (place : ℕ) : Type 0 where
  pub asked : Asked
  pub more : List Asked
  pub due : due_at_line all i n ≡ done ++ asked ∷ more
  pub rest_are : rest ≡ map (kept_in (take i all)) more
  pub turn : IsTurnOf all place query
  pub comes : ComesAt all place (Coming.begins asked)

pub next_fired : Laws → {W : Type 0} (does : ℕ → Coming → W → Bool → W → Type 0) (all : List Line) (i n : ℕ) (old : WalkState) (w : W) (state : WalkState) (v : W) (query : DelayedQuery) (rest : List DelayedQuery)
    → IsInput all → slice_get all i ≡ Some (line.Tick n) → Follows all (take i all) old → (begun : Begun does all i n old w state v) → state.timers.fired ≡ query ∷ rest
    → Next all i n begun.done query rest state.place
next_fired laws does all i n old w state v query rest input at follows begun is =
    let s : List Line = take i all in
    let l : Line = line.Tick n in
    let round = around all i l input at in
    let one = first_of_map (kept_in s) begun.todo query rest (sym is ∙ begun.fired) in
    let due : due_at_line all i n ≡ begun.done ++ one.0 ∷ one.1 = begun.due ∙ ap (λ (x : List Asked). begun.done ++ x) one.2 in
    let are : AllByRecursion (IsAsked s) (due_at_line all i n) = all-sorted_by (IsAsked s) (due_first s) (filter (is_due s n) (left_in s)) (all-filter (IsAsked s) (is_due s n) (left_in s) (left_are laws s)) in
    let asked : IsAsked s one.0 = (all-right (IsAsked s) begun.done (one.0 ∷ one.1) (subst (λ (x : List Asked). AllByRecursion (IsAsked s) x) due are)).0 in
    let rest_lines : List Line = l ∷ drop (suc i) all in
    let come : come_at_line s l ≡ map Coming.begins begun.done ++ Coming.begins one.0 ∷ (map Coming.begins one.1 ++ []) =
    ap (λ (x : List Asked). map Coming.begins x ++ []) due
    ∙ (ap (λ (x : List Coming). x ++ []) (map-append Coming.begins begun.done (one.0 ∷ one.1)) ∙ append_assoc (map Coming.begins begun.done) (Coming.begins one.0 ∷ map Coming.begins one.1) []) in
    let comes : ComesAt all state.place (Coming.begins one.0) =
    comes_at laws all i l (map Coming.begins begun.done) (map Coming.begins one.1 ++ []) (Coming.begins one.0) state.place round come
    (begun.place ∙ (ap (λ (m : ℕ). m + length begun.done) follows.place ∙ ap (λ (m : ℕ). length (come_in s) + m) (sym (length-map begun.done Coming.begins)))) in
    record {
      asked = one.0;
      more = one.1;
      due = due;
      rest_are = one.4;
      turn = record {
        asked = one.0;
        comes = comes;
        is_asked = subst (λ (x : List Line). IsAsked x one.0) (sym round.all_are) (laws.more s rest_lines one.0 asked);
        kept = one.3 ∙ (kept_more laws s rest_lines one.0 asked ∙ ap (λ (x : List Line). kept_in x one.0) (sym round.all_are));
      };
      comes = comes;
    }

-- the next was begun
pub one_more_begun : {W : Type 0} (does : ℕ → Coming → W → Bool → W → Type 0) (all : List Line) (i n : ℕ) (old : WalkState) (w : W) (state : WalkState) (m : W) (new : WalkState) (v : W) (query : DelayedQuery)
    → (begun : Begun does all i n old w state m) → (next : Next all i n begun.done query new.timers.fired state.place) → new.timers ≡ record state.timers { fired = new.timers.fired }
    → new.documents ≡ state.documents → new.place ≡ state.place + 1 → does state.place (Coming.begins next.asked) m true v → Begun does all i n old w new v
one_more_begun does all i n old w state m new v query begun next same documents place did = record {
  done = begun.done ++ next.asked ∷ [];
  todo = next.more;
  due = next.due ∙ sym (append_assoc begun.done (next.asked ∷ []) next.more);
  fired = next.rest_are;
  tick = ap (λ (t : TimersSeen). t.tick) same ∙ begun.tick;
  asked = ap (λ (t : TimersSeen). t.asked) same ∙ begun.asked;
  homes = ap (λ (t : TimersSeen). t.homes) same ∙ begun.homes;
  waiting = ap (λ (t : TimersSeen). t.waiting) same ∙ begun.waiting;
  documents = documents ∙ begun.documents;
  place = place ∙ omega (arith, begun.place, length-append begun.done (next.asked ∷ []));
  came = subst (λ (x : List Coming). Came does old.place w x v) (sym (map-append Coming.begins begun.done (next.asked ∷ [])))
      (came-append does old.place w m v (map Coming.begins begun.done) (Coming.begins next.asked ∷ []) begun.came
      (came_one does (old.place + length (map Coming.begins begun.done)) (Coming.begins next.asked) m v
      (subst (λ (p : ℕ). does p (Coming.begins next.asked) m true v) (begun.place ∙ ap (λ (k : ℕ). old.place + k) (sym (length-map begun.done Coming.begins))) did)));
}

-- the next found no memory
pub begun_cut : {W : Type 0} (does : ℕ → Coming → W → Bool → W → Type 0) (all : List Line) (i n : ℕ) (old : WalkState) (w : W) (state : WalkState) (m v : W) (query : DelayedQuery) (rest : List DelayedQuery)
    → (begun : Begun does all i n old w state m) → (next : Next all i n begun.done query rest state.place) → does state.place (Coming.begins next.asked) m false v
    → IsCut does old.place w (come_at_line (take i all) (line.Tick n)) v
begun_cut does all i n old w state m v query rest begun next did =
    let come : come_at_line (take i all) (line.Tick n) ≡ map Coming.begins begun.done ++ Coming.begins next.asked ∷ (map Coming.begins next.more ++ []) =
    ap (λ (x : List Asked). map Coming.begins x ++ []) next.due
    ∙ (ap (λ (x : List Coming). x ++ []) (map-append Coming.begins begun.done (next.asked ∷ next.more)) ∙ append_assoc (map Coming.begins begun.done) (Coming.begins next.asked ∷ map Coming.begins next.more) []) in
    subst (λ (x : List Coming). IsCut does old.place w x v) (sym come)
    (cut_behind does old.place w m v (map Coming.begins begun.done) (Coming.begins next.asked ∷ (map Coming.begins next.more ++ [])) begun.came
    (cut_first does (old.place + length (map Coming.begins begun.done)) m v (Coming.begins next.asked) (map Coming.begins next.more ++ [])
    (subst (λ (p : ℕ). does p (Coming.begins next.asked) m false v) (begun.place ∙ ap (λ (k : ℕ). old.place + k) (sym (length-map begun.done Coming.begins))) did)))

-- all were begun
pub all_begun : Laws → {W : Type 0} (does : ℕ → Coming → W → Bool → W → Type 0) (all : List Line) (i n : ℕ) (old : WalkState) (w : W) (state : WalkState) (v : W)
    → IsInput all → slice_get all i ≡ Some (line.Tick n) → Follows all (take i all) old → Begun does all i n old w state v → state.timers.fired ≡ [] → Steps does all i (line.Tick n) old w state v
all_begun laws does all i n old w state v input at follows begun none =
    let s : List Line = take i all in
    let l : Line = line.Tick n in
    let round = around all i l input at in
    let over : due_at_line all i n ≡ begun.done = begun.due ∙ (ap (λ (x : List Asked). begun.done ++ x) (no_more (kept_in s) begun.todo (sym none ∙ begun.fired)) ∙ append-nil begun.done) in
    let come : come_at_line s l ≡ map Coming.begins begun.done = append-nil (map Coming.begins (due_at_line all i n)) ∙ ap (map Coming.begins) over in
    let left : List Asked = left_at_line s l in
    record {
      follows = follows_more laws all s l old state round.is_line follows
          begun.tick (begun.asked ∙ omega arith)
          (begun.waiting ∙ all_kept laws s (l ∷ []) left (all-filter (IsAsked s) (λ a. not (is_due s n a)) (left_in s) (left_are laws s)))
          none (ap (λ (k : ℕ). k + 0) begun.homes ∙ omega arith) (begun.documents ∙ omega arith)
          (begun.place ∙ ap (λ (k : ℕ). old.place + k) (sym (ap (λ (x : List Coming). length x) come ∙ length-map begun.done Coming.begins)));
      came = subst (λ (x : List Coming). Came does old.place w x v) (sym come) begun.came;
    }

pub cancelled_steps : Laws → {W : Type 0} (does : ℕ → Coming → W → Bool → W → Type 0) (all : List Line) (i n : ℕ) (old new : WalkState) (w v : W) (query : DelayedQuery) → IsInput all
    → slice_get all i ≡ Some (line.Cancel n) → Follows all (take i all) old → (one : Cancelled all i n query) → new.timers ≡ without n old.timers → new.documents ≡ old.documents → new.place ≡ old.place + 1
    → does old.place (Coming.cancels one.asked) w true v → Steps does all i (line.Cancel n) old w new v
cancelled_steps laws does all i n old new w v query input at follows one made documents place did = record {
  follows = follows_cancel laws all i n old new input at follows made documents (place ∙ omega (arith, ap (λ (c : List Coming). length c) one.come));
  came = subst (λ (x : List Coming). Came does old.place w x v) (sym one.come) (came_one does old.place (Coming.cancels one.asked) w v did);
}

pub cancelled_cut : {W : Type 0} (does : ℕ → Coming → W → Bool → W → Type 0) (all : List Line) (i n place : ℕ) (w v : W) (query : DelayedQuery) → (one : Cancelled all i n query)
    → does place (Coming.cancels one.asked) w false v → IsCut does place w (come_at_line (take i all) (line.Cancel n)) v
cancelled_cut does all i n place w v query one did =
    subst (λ (x : List Coming). IsCut does place w x v) (sym one.come) (cut_first does place w v (Coming.cancels one.asked) [] did)

pub none_steps : Laws → {W : Type 0} (does : ℕ → Coming → W → Bool → W → Type 0) (all : List Line) (i n : ℕ) (old new : WalkState) (w : W) → IsInput all
    → slice_get all i ≡ Some (line.Cancel n) → Follows all (take i all) old → [] ≡ filter (has_number n) old.timers.waiting → new.timers ≡ without n old.timers → new.documents ≡ old.documents → new.place ≡ old.place
    → Steps does all i (line.Cancel n) old w new w
none_steps laws does all i n old new w input at follows none made documents place =
    let come = none_cancelled all i n old follows none in
    record {
      follows = follows_cancel laws all i n old new input at follows made documents (place ∙ omega (arith, ap (λ (c : List Coming). length c) come));
      came = subst (λ (x : List Coming). Came does old.place w x w) (sym come) (came_none does old.place w);
    }

pub cancelled_names : (all hooked : List Line) (i n place : ℕ) (query : DelayedQuery) → hooked ≡ all → (one : Cancelled all i n query) → ComesAt all place (Coming.cancels one.asked) → IsCancelling hooked place query.number
cancelled_names all hooked i n place query names one comes =
    subst (λ (x : List Line). IsCancelling x place query.number) (sym names) (record { asked = one.asked; comes = comes; names = one.names })
