-- What is tracked answers the checks, and is kept by one more line.
use Rattle.std.proofs.Common.{◌≡◌, ℕ, ◌+◌, ◌<◌, List, [], ◌∷◌, ◌++◌, length, Bool, true, false, ◌||◌, cond, eqb, refl, sym, ap, subst, ◌∙◌, arith, length-append}
use Rattle.std.specs.List.{list_any, count_by, sum_by}
use Rattle.std.proofs.lemmas.List.Sums.{sum_by-append, sum_by-cons, count_by-le-length}
use Rattle.std.proofs.lemmas.List.Folds.{list_any-append}
use Rattle.fan_base.specs.declared.doc.Doc.{Doc}
use Rattle.query_model.specs.declared.line.Line.{Line}
use Rattle.query_model.specs.declared.line.Line.TheVariants as line
use Rattle.query_model.specs.declared.line.Query.{Query}
use Rattle.query_model.specs.Lines.{is_doc, is_query, has_id, ticks_of}
use Rattle.query_text.specs.declared.so_far.SoFar.TheInside.{Inside}
use Rattle.query_text.specs.Known.{NextIsAbove, is_known}
use Rattle.query_text.specs.Tracks.{Tracks}

one_more : (old new : Bool) → (old || new) ≡ (old || (new || false))
one_more true new = refl
one_more false true = refl
one_more false false = refl

-- what a line adds to a sum over the lines
sum-more : (f : Line → ℕ) (lines new : List Line) (l : Line) → new ≡ lines ++ l ∷ [] → sum_by f new ≡ sum_by f lines + f l
sum-more f lines new l is = omega (arith, ap (λ ls. sum_by f ls) is, sum_by-append f lines (l ∷ []), sum_by-cons f l [])

no_id : (old : Bool) → old ≡ (old || (false || false))
no_id true = refl
no_id false = refl

-- a line that is no document leaves the ids
same_ids : (a b : Inside) (l : Line) → Tracks a → b.lines ≡ a.lines ++ l ∷ [] → b.ids ≡ a.ids → ((id : ℕ) → has_id id l ≡ false) → (id : ℕ) → is_known b.ids id ≡ list_any (has_id id) b.lines
same_ids a b l t lines ids other id =
    ap (λ known. is_known known id) ids ∙ (t.ids id ∙ (no_id (list_any (has_id id) a.lines)
    ∙ (ap (λ c. list_any (has_id id) a.lines || (c || false)) (sym (other id))
    ∙ (sym (list_any-append (has_id id) a.lines (l ∷ [])) ∙ ap (λ ls. list_any (has_id id) ls) (sym lines)))))

pub Tracks-doc : (a b : Inside) (doc : Doc) → Tracks a → b.lines ≡ a.lines ++ line.Doc doc ∷ [] → ((id : ℕ) → is_known b.ids id ≡ (is_known a.ids id || eqb doc.id id))
    → NextIsAbove b.ids → b.documents ≡ a.documents + 1 → b.queries ≡ a.queries → b.ticks ≡ a.ticks → Tracks b
Tracks-doc a b doc t lines ids above documents queries ticks =
    record {
      ids = λ id.
          ids id ∙ (ap (λ old. old || eqb doc.id id) (t.ids id) ∙ (one_more (list_any (has_id id) a.lines) (eqb doc.id id)
          ∙ (sym (list_any-append (has_id id) a.lines (line.Doc doc ∷ [])) ∙ ap (λ ls. list_any (has_id id) ls) (sym lines))));
      above = above;
      documents = omega (arith, documents, t.documents, sum-more (λ l. cond (is_doc l) 1 0) a.lines b.lines (line.Doc doc) lines);
      queries = omega (arith, queries, t.queries, sum-more (λ l. cond (is_query l) 1 0) a.lines b.lines (line.Doc doc) lines);
      ticks = omega (arith, ticks, t.ticks, sum-more ticks_of a.lines b.lines (line.Doc doc) lines);
    }

pub Tracks-query : (a b : Inside) (query : Query) → Tracks a → b.lines ≡ a.lines ++ line.Query query ∷ [] → b.ids ≡ a.ids
    → b.documents ≡ a.documents → b.queries ≡ a.queries + 1 → b.ticks ≡ a.ticks → Tracks b
Tracks-query a b query t lines ids documents queries ticks =
    record {
      ids = same_ids a b (line.Query query) t lines ids (λ id. refl);
      above = subst NextIsAbove (sym ids) t.above;
      documents = omega (arith, documents, t.documents, sum-more (λ l. cond (is_doc l) 1 0) a.lines b.lines (line.Query query) lines);
      queries = omega (arith, queries, t.queries, sum-more (λ l. cond (is_query l) 1 0) a.lines b.lines (line.Query query) lines);
      ticks = omega (arith, ticks, t.ticks, sum-more ticks_of a.lines b.lines (line.Query query) lines);
    }

pub Tracks-ticks : (a b : Inside) (n : ℕ) → Tracks a → b.lines ≡ a.lines ++ line.Tick n ∷ [] → b.ids ≡ a.ids
    → b.documents ≡ a.documents → b.queries ≡ a.queries → b.ticks ≡ a.ticks + n → Tracks b
Tracks-ticks a b n t lines ids documents queries ticks =
    record {
      ids = same_ids a b (line.Tick n) t lines ids (λ id. refl);
      above = subst NextIsAbove (sym ids) t.above;
      documents = omega (arith, documents, t.documents, sum-more (λ l. cond (is_doc l) 1 0) a.lines b.lines (line.Tick n) lines);
      queries = omega (arith, queries, t.queries, sum-more (λ l. cond (is_query l) 1 0) a.lines b.lines (line.Tick n) lines);
      ticks = omega (arith, ticks, t.ticks, sum-more ticks_of a.lines b.lines (line.Tick n) lines);
    }

pub Tracks-cancel : (a b : Inside) (n : ℕ) → Tracks a → b.lines ≡ a.lines ++ line.Cancel n ∷ [] → b.ids ≡ a.ids
    → b.documents ≡ a.documents → b.queries ≡ a.queries → b.ticks ≡ a.ticks → Tracks b
Tracks-cancel a b n t lines ids documents queries ticks =
    record {
      ids = same_ids a b (line.Cancel n) t lines ids (λ id. refl);
      above = subst NextIsAbove (sym ids) t.above;
      documents = omega (arith, documents, t.documents, sum-more (λ l. cond (is_doc l) 1 0) a.lines b.lines (line.Cancel n) lines);
      queries = omega (arith, queries, t.queries, sum-more (λ l. cond (is_query l) 1 0) a.lines b.lines (line.Cancel n) lines);
      ticks = omega (arith, ticks, t.ticks, sum-more ticks_of a.lines b.lines (line.Cancel n) lines);
    }

-- lines of a kind are fewer than the lines with one more
pub count_below : (is : Line → Bool) (lines new : List Line) (l : Line) → new ≡ lines ++ l ∷ [] → count_by is lines < length new
count_below is lines new l more = omega (arith, count_by-le-length is lines, ap length more, length-append lines (l ∷ []))
