-- Each kind of step keeps the rule of the mark.
use Rattle.std.proofs.Common.{◌≡◌, ℕ, ◌+◌, ◌-◌, ◌<◌, ◌≤◌, List, [], ◌∷◌, get_or, set, sym, refl, ap, ◌∙◌, arith}
use mathlib.Core.Logic.{dite}
use mathlib.Core.Option.{some}
use mathlib.Core.Option as core
use native.Mathlib.Decide.{ℕ_discrete}
use lib.ListN.{get_elem?}
use Rattle.atomic_table.specs.Table.{State, Me, step, keeps, stepped, Allows, Splits, Joins}
use Rattle.task_queue.specs.declared.mark.MarkView.{MarkView}
use Rattle.task_queue.specs.Marks.{marking, KnowsMark, MarkHolds, looks, agrees, sets}
use Rattle.queue_packets.proofs.Views.{all_set, all_more}
use Rattle.task_queue.proofs.Seats.{all_first, at_other}
use Rattle.task_queue.proofs.Sums.{sum-set, sum-fork, sum-merge, sum_at}

abbrev parts_of : MarkView → ℕ
parts_of v = v.parts

nothing_found : (mark : ℕ) (parts : ℕ) → KnowsMark mark (marking parts 0 0 0)
nothing_found mark parts = record { found = λ h. absurd (h refl); theirs = λ h. absurd (h refl) }

pub mark_begins : (adders : ℕ) → MarkHolds adders record { words = 0 ∷ []; homes = []; views = marking adders 0 0 0 ∷ [] }
mark_begins adders = record {
  mark = 0;
  word = refl;
  known = omega arith;
  not_ended = λ _. omega arith;
  has_ended = λ h. absurd (h refl);
  knows = all_first (λ _ v. KnowsMark 0 v) (marking adders 0 0 0) (nothing_found 0 adders);
}

module _ (adders : ℕ) where
  -- a seat gives one part to a new seat
  pub gives_part : (id : ℕ) (v : MarkView) → 0 < v.parts → Splits (MarkHolds adders) id v (marking (v.parts - 1) v.found v.theirs v.looks) (marking 1 0 0 0)
  gives_part id v has_part s h here =
      let left = marking (v.parts - 1) v.found v.theirs v.looks in
      let right = marking 1 0 0 0 in
      let total = sum-fork parts_of s.views id v left right here in
      record {
        mark = h.mark;
        word = h.word;
        known = h.known;
        not_ended = λ e. let was = h.not_ended e in omega arith;
        has_ended = λ e. let was = h.has_ended e in omega arith;
        knows = all_more (λ _ u. KnowsMark h.mark u) (set s.views id left) right (nothing_found h.mark 1)
            (all_set (λ _ u. KnowsMark h.mark u) s.views id left (let k = h.knows id v here in record { found = k.found; theirs = k.theirs }) (λ j u apart there. h.knows j u there));
      }

  -- a seat makes one that has no part
  pub gives_watch : (id : ℕ) (v : MarkView) → Splits (MarkHolds adders) id v v (marking 0 0 0 0)
  gives_watch id v s h here =
      let right = marking 0 0 0 0 in
      let total = sum-fork parts_of s.views id v v right here in
      record {
        mark = h.mark;
        word = h.word;
        known = h.known;
        not_ended = λ e. let was = h.not_ended e in omega arith;
        has_ended = λ e. let was = h.has_ended e in omega arith;
        knows = all_more (λ _ u. KnowsMark h.mark u) (set s.views id v) right (nothing_found h.mark 0)
            (all_set (λ _ u. KnowsMark h.mark u) s.views id v (h.knows id v here) (λ j u apart there. h.knows j u there));
      }

  -- two seats are put together
  pub meets : (id : ℕ) (v : MarkView) (other : ℕ) (w : MarkView) → Joins (MarkHolds adders) id v other w (marking (v.parts + w.parts) v.found w.found v.looks) (marking 0 0 0 0)
  meets id v other w s h here apart there =
      let both = marking (v.parts + w.parts) v.found w.found v.looks in
      let total = sum-merge parts_of s.views id other v both w (marking 0 0 0 0) here there in
      let other_knows : KnowsMark h.mark w = h.knows other w (at_other s.views id other both w apart there) in
      let mine = h.knows id v here in
      record {
        mark = h.mark;
        word = h.word;
        known = h.known;
        not_ended = λ e. let was = h.not_ended e in omega arith;
        has_ended = λ e. let was = h.has_ended e in omega arith;
        knows = all_set (λ _ u. KnowsMark h.mark u) (set s.views id both) other (marking 0 0 0 0) (nothing_found h.mark 0)
            (λ j u _ at. all_set (λ _ y. KnowsMark h.mark y) s.views id both record { found = mine.found; theirs = other_knows.found } (λ i y _ yet. h.knows i y yet) j u at);
      }

  -- the seat's view becomes one with as many parts, and the word stays
  stays : (s : State ℕ MarkView) (h : MarkHolds adders s) (id : ℕ) (v w : MarkView) (cs : List (ℕ × ℕ)) → get_elem? s.views id ≡ some v → w.parts ≡ v.parts → KnowsMark h.mark w
      → MarkHolds adders (stepped s 0 (get_or s.words 0 0) id cs w keeps)
  stays s h id v w cs here parts knows =
      let total = sum-set parts_of s.views id v w here in
      record {
        mark = h.mark;
        word = ap (λ (ws : List ℕ). set ws 0 (get_or ws 0 0)) h.word;
        known = h.known;
        not_ended = λ e. let was = h.not_ended e in omega (arith, was, total, parts);
        has_ended = λ e. let was = h.has_ended e in omega (arith, was, total, parts);
        knows = all_set (λ _ u. KnowsMark h.mark u) s.views id w knows (λ j u apart there. h.knows j u there);
      }

  word_is : (s : State ℕ MarkView) (h : MarkHolds adders s) → get_or s.words 0 0 ≡ h.mark
  word_is s h = ap (λ (ws : List ℕ). get_or ws 0 0) h.word

  pub look_allowed : (slots id : ℕ) (me : Me ℕ MarkView) → Allows (MarkHolds adders) slots id me 0 (λ n. n) (looks (step slots 0 0 0 core.none) me)
  look_allowed slots id me s h _ here _ =
      let word = word_is s h in
      let w = marking me.0.parts (get_or s.words 0 0) me.0.theirs (me.0.looks + 1) in
      let mine = h.knows id me.0 here in (
        w,
        keeps,
        tt,
        stays s h id me.0 w me.1 here refl record { found = λ _. word; theirs = mine.theirs },
        record { after_is = refl; known = let k = h.known in omega arith; stays = λ n. word ∙ sym (mine.found n) },
      )

  pub agree_allowed : (slots id : ℕ) (me : Me ℕ MarkView) → Allows (MarkHolds adders) slots id me 0 (λ n. n) (agrees (step slots 0 0 0 core.none) me)
  agree_allowed slots id me s h _ here _ =
      let w = marking me.0.parts me.0.found 0 me.0.looks in
      let mine = h.knows id me.0 here in (
        w,
        keeps,
        tt,
        stays s h id me.0 w me.1 here refl record { found = mine.found; theirs = λ n. absurd (n refl) },
        λ found. record {
          after_is = refl;
          no_part =
              let ended = h.has_ended (λ z. found (mine.found found ∙ z)) in
              let at = sum_at parts_of s.views id me.0 here in
              omega arith;
          same = λ theirs. mine.theirs theirs ∙ sym (mine.found found);
        },
      )

  -- the seat has the parts of all adders, and sets the mark
  pub set_allowed : (slots id new : ℕ) (me : Me ℕ MarkView) → me.0.parts ≡ adders → 0 < me.0.parts → me.0.theirs ≡ 0 → 0 < new → new ≤ 2
      → Allows (MarkHolds adders) slots id me 0 (λ _. new) (λ _. sets (step slots 0 new 0 core.none) me new)
  set_allowed slots id new me all some_part theirs is_end known s h _ here _ =
      let w = marking 0 new 0 0 in
      let total = sum-set parts_of s.views id me.0 w here in
      let at = sum_at parts_of s.views id me.0 here in
      let no_end : h.mark ≡ 0 = dite (ℕ_discrete h.mark 0) (λ e. e) (λ n. absurd (let z = h.has_ended n in omega arith)) in
      let was = h.not_ended no_end in
      let found_none : (j : ℕ) (u : MarkView) → get_elem? s.views j ≡ some u → KnowsMark new u =
      λ j u there.
      let k = h.knows j u there in
      record { found = λ n. absurd (n (k.found n ∙ no_end)); theirs = λ n. absurd (n (k.theirs n ∙ no_end)) } in (
        w,
        keeps,
        tt,
        record {
          mark = new;
          word = ap (λ (ws : List ℕ). set ws 0 new) h.word;
          known = known;
          not_ended = λ e. absurd (omega (arith, e, is_end));
          has_ended = λ _. omega (arith, total, was, all);
          knows = all_set (λ _ u. KnowsMark new u) s.views id w record { found = λ _. refl; theirs = λ n. absurd (n refl) } (λ j u apart there. found_none j u there);
        },
        refl,
      )
