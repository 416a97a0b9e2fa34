-- One line of each kind.
use Rattle.std.proofs.Common.{◌≡◌, ℕ, zero, suc, ◌+◌, ◌<◌, ◌≤◌, List, [], ◌∷◌, ◌++◌, length, take, drop, Bool, true, false, cond, Option, Some, None, refl, sym, ap, ◌∙◌, subst, arith, map, append-nil, append_assoc, length-append}
use Rattle.std.specs.Prelude.{slice_get}
use Rattle.std.specs.List.{sum_by}
use Rattle.std.proofs.lemmas.List.{map-append}
use Rattle.std.proofs.lemmas.List.Elements.{All-from_recursion, filter_map-append}
use Rattle.std.proofs.lemmas.List.Sums.{sum_by-append}
use Rattle.std.proofs.lemmas.Option.{slice_get_within}
use Rattle.fan_base.specs.declared.doc.Doc.{Doc}
use Rattle.query_model.specs.declared.line.Line.{Line}
use Rattle.query_model.specs.declared.line.Line.TheVariants as line
use Rattle.query_model.specs.declared.line.Query.{Query}
use Rattle.query_model.specs.Documents.{IsLine, doc_of_line, docs_of, queries_of}
use Rattle.query_model.specs.LineByLine.{next_asked}
use Rattle.query_model.specs.Order.{Asked, docs_before, left_in}
use Rattle.query_model.proofs.ListFacts.{slice_get-append_seam, slice_get-append_some}
use Rattle.fan_model.specs.Comings.{Coming, ComesAt, answered_with, cancelled_at_line, come_at_line, come_in, comings_of, left_at_line, waits_with}
use Rattle.query_timers.specs.declared.query.DelayedQuery.{DelayedQuery}
use Rattle.query_timers.specs.Seen.{Ticks, TimersSeen, has_number, is_due_by, with_delayed, with_skipped}
use Rattle.query_timers.specs.Seen as waits
use Rattle.front_walk.specs.declared.at_turn.QueryTurn.{QueryTurn}
use Rattle.front_walk.specs.declared.state.WalkState.{WalkState}
use Rattle.front_walk.specs.Coming.{Came, IsCut}
use Rattle.front_walk.specs.Following.{Follows, IsInput, Steps, is_delayed, is_some, kept_in}
use Rattle.front_walk.specs.Laws.{Laws, NextLaws}
use Rattle.front_walk.specs.Turns.{IsBeginning}
use Rattle.front_walk.proofs.Cutting.{came_one, cut_first}
use Rattle.front_walk.proofs.Following.{Around, all_kept, around, follows_more, left_are}

length-take_at : {A : Type 0} (xs : List A) (i : ℕ) (x : A) → slice_get xs i ≡ Some x → length (take i xs) ≡ i
length-take_at [] i x h = absurd cc
length-take_at (y ∷ xs) zero x h = refl
length-take_at (y ∷ xs) (suc i) x h = ap suc (length-take_at xs i x h)

-- what comes at a line comes at its places
pub comes_at : Laws → (all : List Line) (i : ℕ) (l : Line) (front back : List Coming) (c : Coming) (place : ℕ) → Around all i l
    → come_at_line (take i all) l ≡ front ++ c ∷ back → place ≡ length (come_in (take i all)) + length front → ComesAt all place c
comes_at laws all i l front back c place round comes far =
    let s : List Line = take i all in
    let rest : List Line = drop (suc i) all in
    let whole : all ≡ (s ++ l ∷ []) ++ rest = round.all_are ∙ sym (append_assoc s (l ∷ []) rest) in
    let prefix = laws.first (s ++ l ∷ []) rest (All-from_recursion IsLine rest round.rest_are) in
    let here : come_in (s ++ l ∷ []) ≡ (come_in s ++ front) ++ c ∷ back =
    laws.comes s l round.is_line ∙ (ap (λ (x : List Coming). come_in s ++ x) comes ∙ sym (append_assoc (come_in s) front (c ∷ back))) in
    let at : slice_get ((come_in s ++ front) ++ c ∷ back) place ≡ Some c = slice_get-append_seam (come_in s ++ front) c back place (far ∙ sym (length-append (come_in s) front)) in
    let in_all : slice_get (comings_of ((s ++ l ∷ []) ++ rest)) place ≡ Some c =
    ap (λ (x : List Coming). slice_get x place) (sym prefix.1)
    ∙ slice_get-append_some (come_in (s ++ l ∷ [])) prefix.0 place c (ap (λ (x : List Coming). slice_get x place) here ∙ at) in
    record { at = ap (λ (x : List Line). slice_get (comings_of x) place) whole ∙ in_all }

-- documents

pub few_docs : (all : List Line) (i : ℕ) (doc : Doc) → IsInput all → slice_get all i ≡ Some (line.Doc doc) → length (docs_of (take i all)) ≤ 200000
few_docs all i doc input at =
    let round = around all i (line.Doc doc) input at in
    let more = ap (λ (d : List Doc). length d) (ap docs_of round.all_are ∙ filter_map-append doc_of_line (take i all) (line.Doc doc ∷ drop (suc i) all))
    ∙ length-append (docs_of (take i all)) (docs_of (line.Doc doc ∷ drop (suc i) all)) in
    omega (arith, more, input.limits.few_documents)

pub follows_doc : Laws → (all : List Line) (i : ℕ) (doc : Doc) (old new : WalkState) → IsInput all → slice_get all i ≡ Some (line.Doc doc) → Follows all (take i all) old
    → new.timers ≡ old.timers → new.documents ≡ old.documents + 1 → new.place ≡ old.place → Follows all (take i all ++ line.Doc doc ∷ []) new
follows_doc laws all i doc old new input at follows same more place =
    let s : List Line = take i all in
    let round = around all i (line.Doc doc) input at in
    follows_more laws all s (line.Doc doc) old new round.is_line follows
    (ap (λ (t : TimersSeen). t.tick) same ∙ omega arith) (ap (λ (t : TimersSeen). t.asked) same ∙ omega arith)
    (ap (λ (t : TimersSeen). t.waiting) same ∙ (follows.waiting ∙ all_kept laws s (line.Doc doc ∷ []) (left_in s) (left_are laws s)))
    (ap (λ (t : TimersSeen). t.fired) same ∙ follows.fired) (ap (λ (t : TimersSeen). t.homes + 0) same ∙ omega arith) more (place ∙ omega arith)

-- queries

abbrev one_if : Bool → ℕ
one_if b = cond b 1 0

delayed_one : (query : Query) (delay : ℕ) → query.delay ≡ Some delay → one_if (is_delayed (line.Query query)) ≡ 1
delayed_one query delay is = ap (λ (d : Option ℕ). one_if (is_some d)) is

delayed_none : (query : Query) → query.delay ≡ None → one_if (is_delayed (line.Query query)) ≡ 0
delayed_none query is = ap (λ (d : Option ℕ). one_if (is_some d)) is

pub a_home_is_left : (all : List Line) (i : ℕ) (query : Query) (delay : ℕ) (state : WalkState) → IsInput all → slice_get all i ≡ Some (line.Query query) → query.delay ≡ Some delay
    → Follows all (take i all) state → 0 < state.timers.homes
a_home_is_left all i query delay state input at is follows =
    let round = around all i (line.Query query) input at in
    let f : Line → ℕ = λ l. one_if (is_delayed l) in
    let split : sum_by f all ≡ sum_by f (take i all) + sum_by f (line.Query query ∷ drop (suc i) all) =
    ap (sum_by f) round.all_are ∙ sum_by-append f (take i all) (line.Query query ∷ drop (suc i) all) in
    let here : sum_by f (line.Query query ∷ drop (suc i) all) ≡ f (line.Query query) + sum_by f (drop (suc i) all) = sum_by-append f (line.Query query ∷ []) (drop (suc i) all) ∙ omega arith in
    omega (arith, split, here, delayed_one query delay is, follows.homes)

pub follows_wait : Laws → NextLaws → (all : List Line) (i : ℕ) (query : Query) (delay : ℕ) (old new : WalkState) → IsInput all → slice_get all i ≡ Some (line.Query query)
    → query.delay ≡ Some delay → Follows all (take i all) old → 0 < old.timers.homes → new.timers ≡ with_delayed old.timers i old.documents delay → new.documents ≡ old.documents → new.place ≡ old.place
    → Follows all (take i all ++ line.Query query ∷ []) new
follows_wait laws next all i query delay old new input at is follows some made documents place =
    let s : List Line = take i all in
    let l : Line = line.Query query in
    let round = around all i l input at in
    let a : Asked = next_asked s query in
    let more : TimersSeen = with_delayed old.timers i old.documents delay in
    let kept : waits.delayed old.timers i old.documents delay ≡ kept_in (s ++ l ∷ []) a =
    ap (λ (n : ℕ). let q : DelayedQuery = record { number = n; line = i; documents = old.documents; due = old.timers.tick + delay } in q) (ap (λ (n : ℕ). n + 1) follows.asked ∙ omega arith)
    ∙ (ap (λ (n : ℕ). let q : DelayedQuery = record { number = a.number; line = n; documents = old.documents; due = old.timers.tick + delay } in q) (sym (length-take_at all i l at))
    ∙ (ap (λ (n : ℕ). let q : DelayedQuery = record { number = a.number; line = a.place; documents = n; due = old.timers.tick + delay } in q) (follows.documents ∙ ap (λ (d : List Doc). length d) (sym (next.docs s query)))
    ∙ ap (λ (n : ℕ). let q : DelayedQuery = record { number = a.number; line = a.place; documents = length (docs_before (s ++ l ∷ []) a); due = n } in q) (ap (λ (n : ℕ). n + delay) follows.tick ∙ sym (next.due s query delay is)))) in
    let waiting : more.waiting ≡ map (kept_in (s ++ l ∷ [])) (left_at_line s l) =
    ap (λ (x : List DelayedQuery). x ++ waits.delayed old.timers i old.documents delay ∷ []) (follows.waiting ∙ all_kept laws s (l ∷ []) (left_in s) (left_are laws s))
    ∙ (ap (λ (q : DelayedQuery). map (kept_in (s ++ l ∷ [])) (left_in s) ++ q ∷ []) kept
    ∙ (sym (map-append (kept_in (s ++ l ∷ [])) (left_in s) (a ∷ []))
    ∙ ap (λ (d : Option ℕ). map (kept_in (s ++ l ∷ [])) (left_in s ++ waits_with s query d)) (sym is))) in
    let none : length (come_at_line s l) ≡ 0 = ap (λ (d : Option ℕ). length (map Coming.begins (answered_with s query d) ++ map Coming.cancels (cancelled_at_line s l))) is in
    follows_more laws all s l old new round.is_line follows
    (ap (λ (t : TimersSeen). t.tick) made ∙ omega arith) (ap (λ (t : TimersSeen). t.asked) made)
    (ap (λ (t : TimersSeen). t.waiting) made ∙ waiting)
    (ap (λ (t : TimersSeen). t.fired) made ∙ follows.fired) (ap (λ (t : TimersSeen). t.homes + one_if (is_delayed l)) made ∙ omega (arith, delayed_one query delay is, some)) (documents ∙ omega arith) (place ∙ omega (arith, none))

pub come_none : (s : List Line) (query : Query) (delay : ℕ) → query.delay ≡ Some delay → come_at_line s (line.Query query) ≡ []
come_none s query delay is = ap (λ (d : Option ℕ). map Coming.begins (answered_with s query d) ++ map Coming.cancels (cancelled_at_line s (line.Query query))) is

pub come_one : (s : List Line) (query : Query) → query.delay ≡ None → come_at_line s (line.Query query) ≡ Coming.begins (next_asked s query) ∷ []
come_one s query is = ap (λ (d : Option ℕ). map Coming.begins (answered_with s query d) ++ map Coming.cancels (cancelled_at_line s (line.Query query))) is

pub next_comes : Laws → (all : List Line) (i : ℕ) (query : Query) (place : ℕ) → IsInput all → slice_get all i ≡ Some (line.Query query) → query.delay ≡ None
    → place ≡ length (come_in (take i all)) → ComesAt all place (Coming.begins (next_asked (take i all) query))
next_comes laws all i query place input at is here =
    comes_at laws all i (line.Query query) [] [] (Coming.begins (next_asked (take i all) query)) place (around all i (line.Query query) input at) (come_one (take i all) query is) (here ∙ omega arith)

pub next_begins : Laws → NextLaws → (all hooked : List Line) (i : ℕ) (query : Query) (turn : QueryTurn) (state : WalkState) → hooked ≡ all → IsInput all → slice_get all i ≡ Some (line.Query query)
    → query.delay ≡ None → Follows all (take i all) state → turn.number ≡ state.timers.asked + 1 → turn.line ≡ i → turn.documents ≡ state.documents
    → IsBeginning hooked state.place turn query
next_begins laws next all hooked i query turn state names input at is follows number place documents =
    let s : List Line = take i all in
    let l : Line = line.Query query in
    let a : Asked = next_asked s query in
    let round = around all i l input at in
    let whole : all ≡ (s ++ l ∷ []) ++ drop (suc i) all = round.all_are ∙ sym (append_assoc s (l ∷ []) (drop (suc i) all)) in
    let docs : docs_before all a ≡ docs_of s =
    ap (λ (x : List Line). docs_before x a) whole ∙ (laws.docs (s ++ l ∷ []) (drop (suc i) all) a (next.is s query) ∙ next.docs s query) in
    subst (λ (x : List Line). IsBeginning x state.place turn query) (sym names)
    (record {
      asked = a;
      comes = next_comes laws all i query state.place input at is follows.place;
      number = number ∙ (ap (λ (n : ℕ). n + 1) follows.asked ∙ omega arith);
      line = place ∙ sym (length-take_at all i l at);
      documents = documents ∙ (follows.documents ∙ ap (λ (d : List Doc). length d) (sym docs));
      says = refl;
    })

pub follows_answered : Laws → (all : List Line) (i : ℕ) (query : Query) (old new : WalkState) → IsInput all → slice_get all i ≡ Some (line.Query query)
    → query.delay ≡ None → Follows all (take i all) old → new.timers ≡ with_skipped old.timers → new.documents ≡ old.documents → new.place ≡ old.place + 1
    → Follows all (take i all ++ line.Query query ∷ []) new
follows_answered laws all i query old new input at is follows made documents place =
    let s : List Line = take i all in
    let l : Line = line.Query query in
    let round = around all i l input at in
    let left : left_at_line s l ≡ left_in s = ap (λ (d : Option ℕ). left_in s ++ waits_with s query d) is ∙ append-nil (left_in s) in
    follows_more laws all s l old new round.is_line follows
    (ap (λ (t : TimersSeen). t.tick) made ∙ omega arith) (ap (λ (t : TimersSeen). t.asked) made)
    (ap (λ (t : TimersSeen). t.waiting) made ∙ (follows.waiting ∙ (all_kept laws s (l ∷ []) (left_in s) (left_are laws s) ∙ ap (map (kept_in (s ++ l ∷ []))) (sym left))))
    (ap (λ (t : TimersSeen). t.fired) made ∙ follows.fired) (ap (λ (t : TimersSeen). t.homes + one_if (is_delayed l)) made ∙ omega (arith, delayed_none query is)) (documents ∙ omega arith)
    (place ∙ omega (arith, ap (λ (c : List Coming). length c) (come_one s query is)))

-- fewer comings than queries: places stay small
pub small_place : ((lines : List Line) → length (comings_of lines) ≡ length (queries_of lines)) → (all : List Line) (place : ℕ) (c : Coming) → IsInput all → ComesAt all place c → place < 50000
small_place many all place c input comes =
    let within : place < length (comings_of all) = slice_get_within (comings_of all) place c comes.at in
    omega (arith, many all, input.limits.few_queries)

-- the next query was begun, or found no memory
pub answered_steps : Laws → {W : Type 0} (does : ℕ → Coming → W → Bool → W → Type 0) (all : List Line) (i : ℕ) (query : Query) (old new : WalkState) (w v : W) → IsInput all
    → slice_get all i ≡ Some (line.Query query) → query.delay ≡ None → Follows all (take i all) old → new.timers ≡ with_skipped old.timers → new.documents ≡ old.documents → new.place ≡ old.place + 1
    → does old.place (Coming.begins (next_asked (take i all) query)) w true v → Steps does all i (line.Query query) old w new v
answered_steps laws does all i query old new w v input at is follows made documents place did = record {
  follows = follows_answered laws all i query old new input at is follows made documents place;
  came = subst (λ (x : List Coming). Came does old.place w x v) (sym (come_one (take i all) query is)) (came_one does old.place (Coming.begins (next_asked (take i all) query)) w v did);
}

pub answered_cut : {W : Type 0} (does : ℕ → Coming → W → Bool → W → Type 0) (s : List Line) (query : Query) (place : ℕ) (w v : W) → query.delay ≡ None
    → does place (Coming.begins (next_asked s query)) w false v → IsCut does place w (come_at_line s (line.Query query)) v
answered_cut does s query place w v is did =
    subst (λ (x : List Coming). IsCut does place w x v) (sym (come_one s query is)) (cut_first does place w v (Coming.begins (next_asked s query)) [] did)

-- where the hook's lines are these
pub named : (all hooked : List Line) (place : ℕ) (c : Coming) → hooked ≡ all → ComesAt all place c → ComesAt hooked place c
named all hooked place c names comes = subst (λ (x : List Line). ComesAt x place c) (sym names) comes
