-- Lists that are drawn place by place: what was drawn so far, and what the draws that are left give behind it.
use Rattle.std.proofs.Common.{refl, sym, ap, subst, ◌∙◌, ◌≡◌, ◌+◌, ℕ, suc, List, [], ◌∷◌, ◌++◌, append_assoc, Result, Ok, Err, IfOk}
use Rattle.std.proofs.lemmas.List.{append-nil}
use Rattle.fan_base.specs.declared.word.Word.{Word}
use Rattle.query_model.specs.declared.line.Line.{Line}
use Rattle.query_gen.specs.Drawn.{IsDrawnOnto}
use Rattle.query_model.specs.Generated.{Drawn, draw_doc, draw_docs, draw_lines, draw_queries, draw_query, draw_ticks, draw_word, draw_words}

-- of draws that begin at a place and are so many: `lines` are those so far, behind what was there `before`
pub record IsSoFar {X : Type 0} (draws : ℕ → ℕ → Drawn (List X)) (before lines : List X) (place left state count start : ℕ) : Type 0 where
  pub lines_are : lines ++ (draws place left state).0 ≡ before ++ (draws 0 count start).0
  pub state_is : (draws place left state).1 ≡ (draws 0 count start).1

-- words have no places
abbrev pub words_at : ℕ → ℕ → Drawn (List Word)
words_at place count = draw_words count

pub begins : {X : Type 0} (draws : ℕ → ℕ → Drawn (List X)) (before : List X) (count start : ℕ) → IsSoFar draws before before 0 count start count start
begins draws before count start = record { lines_are = refl; state_is = refl }

-- one place more, where its draws give `piece` and leave `new`
goes_on : {X : Type 0} (draws : ℕ → ℕ → Drawn (List X)) (before lines piece : List X) (place next left less state new count start : ℕ)
    → IsSoFar draws before lines place left state count start → left ≡ suc less
    → (draws place (suc less) state).0 ≡ piece ++ (draws next less new).0 → (draws place (suc less) state).1 ≡ (draws next less new).1
    → IsSoFar draws before (lines ++ piece) next less new count start
goes_on draws before lines piece place next left less state new count start h e p q =
    let all : lines ++ (draws place (suc less) state).0 ≡ before ++ (draws 0 count start).0 = subst (λ n. lines ++ (draws place n state).0 ≡ before ++ (draws 0 count start).0) e h.lines_are in
    let end : (draws place (suc less) state).1 ≡ (draws 0 count start).1 = subst (λ n. (draws place n state).1 ≡ (draws 0 count start).1) e h.state_is in
    record {
      lines_are = append_assoc lines piece (draws next less new).0 ∙ (ap (λ more. lines ++ more) (sym p) ∙ all);
      state_is = sym q ∙ end;
    }

pub one_word : (words : List Word) (word : Word) (left less state new count start : ℕ) → IsSoFar words_at [] words 0 left state count start → left ≡ suc less
    → word ≡ (draw_word state).0 → new ≡ (draw_word state).1 → IsSoFar words_at [] (words ++ word ∷ []) 0 less new count start
one_word words word left less state new count start h e w s =
    goes_on words_at [] words (word ∷ []) 0 0 left less state new count start h e (λ i. sym w i ∷ (draw_words less (sym s i)).0) (λ i. (draw_words less (sym s i)).1)

pub one_document : (before lines : List Line) (doc : Line) (place left less state new count start : ℕ) → IsSoFar draw_docs before lines place left state count start → left ≡ suc less
    → doc ≡ (draw_doc place state).0 → new ≡ (draw_doc place state).1 → IsSoFar draw_docs before (lines ++ doc ∷ []) (place + 1) less new count start
one_document before lines doc place left less state new count start h e d s =
    goes_on draw_docs before lines (doc ∷ []) place (place + 1) left less state new count start h e (λ i. sym d i ∷ (draw_docs (place + 1) less (sym s i)).0) (λ i. (draw_docs (place + 1) less (sym s i)).1)

-- a query, and the ticks behind it
pub one_query : (before lines with_query with_ticks : List Line) (query : Line) (place left less state middle new count start : ℕ)
    → IsSoFar draw_queries before lines place left state count start → left ≡ suc less
    → query ≡ (draw_query state).0 → middle ≡ (draw_query state).1 → with_query ≡ lines ++ query ∷ []
    → with_ticks ≡ with_query ++ (draw_ticks place middle).0 → new ≡ (draw_ticks place middle).1
    → IsSoFar draw_queries before with_ticks (place + 1) less new count start
one_query before lines with_query with_ticks query place left less state middle new count start h e q m eq et s =
    let piece : List Line = query ∷ (draw_ticks place middle).0 in
    let whole : with_ticks ≡ lines ++ piece = et ∙ (ap (λ some. some ++ (draw_ticks place middle).0) eq ∙ append_assoc lines (query ∷ []) (draw_ticks place middle).0) in
    let behind : (draw_ticks place (draw_query state).1).1 ≡ new = ap (λ drawn. (draw_ticks place drawn).1) (sym m) ∙ sym s in
    subst (λ made. IsSoFar draw_queries before made (place + 1) less new count start) (sym whole)
    (goes_on draw_queries before lines piece place (place + 1) left less state new count start h e
    (λ i. sym q i ∷ ((draw_ticks place (sym m i)).0 ++ (draw_queries (place + 1) less (behind i)).0))
    (λ i. (draw_queries (place + 1) less (behind i)).1))

-- the draws so far are all
pub ends : {X : Type 0} (draws : ℕ → ℕ → Drawn (List X)) (before lines : List X) (place left state count start : ℕ) → IsSoFar draws before lines place left state count start
    → left ≡ 0 → draws place 0 state ≡ ([], state) → (lines ≡ before ++ (draws 0 count start).0) × (state ≡ (draws 0 count start).1)
ends draws before lines place left state count start h e none =
    let all : lines ++ (draws place 0 state).0 ≡ before ++ (draws 0 count start).0 = subst (λ n. lines ++ (draws place n state).0 ≡ before ++ (draws 0 count start).0) e h.lines_are in
    let end : (draws place 0 state).1 ≡ (draws 0 count start).1 = subst (λ n. (draws place n state).1 ≡ (draws 0 count start).1) e h.state_is in
    (sym (append-nil lines) ∙ (ap (λ drawn. lines ++ drawn.0) (sym none) ∙ all), ap (λ drawn. drawn.1) (sym none) ∙ end)

-- documents, and queries behind them
pub whole : {E : Type 0} (result : Result (List Line) E) (documents : List Line) (seed start middle new docs queries : ℕ) → start ≡ seed
    → (documents ≡ (draw_docs 0 docs start).0) × (middle ≡ (draw_docs 0 docs start).1)
    → IsDrawnOnto (draw_queries 0 queries) result documents middle new → IfOk result (λ table. table ≡ (draw_lines docs queries seed).0)
whole (Ok all) documents seed start middle new docs queries s first behind =
    let docs_are : documents ≡ (draw_docs 0 docs seed).0 = first.0 ∙ (λ i. (draw_docs 0 docs (s i)).0) in
    let state : middle ≡ (draw_docs 0 docs seed).1 = first.1 ∙ (λ i. (draw_docs 0 docs (s i)).1) in
    behind.0 ∙ (λ i. docs_are i ++ (draw_queries 0 queries (state i)).0)
whole (Err e) documents seed start middle new docs queries s first behind = tt
