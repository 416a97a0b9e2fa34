-- Fields written one behind another are the canonical text of a line.
use Rattle.std.proofs.Common.{◌≡◌, List, [], ◌∷◌, ◌++◌, Result, Ok, Err, OnOk, refl, sym, ap, ◌∙◌, append_assoc, append-nil}
use Rattle.std.specs.List.{join_with_byte}
use Rattle.query_model.specs.declared.line.Ask.{Ask}
use Rattle.query_model.specs.declared.line.Ask.TheVariants as ask
use Rattle.query_model.specs.declared.line.Query.{Query}
use Rattle.query_model.specs.declared.line.Line.TheVariants as line
use Rattle.query_model.specs.Pieces.{Bytes, space}
use Rattle.query_model.specs.Canonical.{ask_fields, delay_fields, line_text, prio_fields}
use Rattle.query_text.specs.Writing.{before_spaces, behind_spaces}

join_behind : (x : Bytes) (xs : List Bytes) → join_with_byte space (x ∷ xs) ≡ x ++ behind_spaces xs
join_behind x [] = sym (append-nil x)
join_behind x (y ∷ ys) = ap (λ bs. x ++ (space ∷ bs)) (join_behind y ys)

join_before : (xs : List Bytes) (y : Bytes) (ys : List Bytes) → join_with_byte space (xs ++ y ∷ ys) ≡ before_spaces xs ++ join_with_byte space (y ∷ ys)
join_before [] y ys = refl
join_before (x ∷ []) y ys =
    sym (append_assoc x (space ∷ []) (join_with_byte space (y ∷ ys))) ∙ ap (λ bs. bs ++ join_with_byte space (y ∷ ys)) (sym (append-nil (x ++ space ∷ [])))
join_before (x ∷ z ∷ xs) y ys =
    ap (λ bs. x ++ (space ∷ bs)) (join_before (z ∷ xs) y ys)
    ∙ (sym (append_assoc x (space ∷ []) (before_spaces (z ∷ xs) ++ join_with_byte space (y ∷ ys)))
    ∙ sym (append_assoc (x ++ space ∷ []) (before_spaces (z ∷ xs)) (join_with_byte space (y ∷ ys))))

-- a name, a number and words
pub named_words : {E : Type 0} (r : Result (Unit {0}) E) (old mid new name digits : Bytes) (words : List Bytes) → mid ≡ old ++ (name ++ space ∷ digits)
    → OnOk r (new ≡ mid ++ behind_spaces words) → OnOk r (new ≡ old ++ join_with_byte space (name ∷ (digits ∷ words)))
named_words (Ok u) old mid new name digits words first then =
    then ∙ (ap (λ bs. bs ++ behind_spaces words) first
    ∙ (append_assoc old (name ++ space ∷ digits) (behind_spaces words)
    ∙ ap (λ bs. old ++ bs) (append_assoc name (space ∷ digits) (behind_spaces words) ∙ ap (λ bs. name ++ (space ∷ bs)) (sym (join_behind digits words)))))
named_words (Err e) old mid new name digits words first then = tt

-- a delay, a priority and an ask
query_fields : (query : Query) → line_text (line.Query query) ≡ before_spaces (delay_fields query.delay) ++ (before_spaces (prio_fields query.prio) ++ join_with_byte space (ask_fields query.ask))
query_fields query = by query.ask
  where
    front : (y : Bytes) (ys : List Bytes) → join_with_byte space (delay_fields query.delay ++ (prio_fields query.prio ++ y ∷ ys))
        ≡ before_spaces (delay_fields query.delay) ++ (before_spaces (prio_fields query.prio) ++ join_with_byte space (y ∷ ys))
    front y ys =
        ap (join_with_byte space) (sym (append_assoc (delay_fields query.delay) (prio_fields query.prio) (y ∷ ys)))
        ∙ (join_before (delay_fields query.delay ++ prio_fields query.prio) y ys
        ∙ (ap (λ bs. bs ++ join_with_byte space (y ∷ ys)) (before-append (delay_fields query.delay) (prio_fields query.prio))
        ∙ append_assoc (before_spaces (delay_fields query.delay)) (before_spaces (prio_fields query.prio)) (join_with_byte space (y ∷ ys))))
      where
        before-append : (xs zs : List Bytes) → before_spaces (xs ++ zs) ≡ before_spaces xs ++ before_spaces zs
        before-append [] zs = refl
        before-append (x ∷ xs) zs =
            ap (λ bs. (x ++ space ∷ []) ++ bs) (before-append xs zs) ∙ sym (append_assoc (x ++ space ∷ []) (before_spaces xs) (before_spaces zs))

    by : (asks : Ask) → join_with_byte space (delay_fields query.delay ++ (prio_fields query.prio ++ ask_fields asks))
        ≡ before_spaces (delay_fields query.delay) ++ (before_spaces (prio_fields query.prio) ++ join_with_byte space (ask_fields asks))
    by (ask.Find e) = front _ _
    by (ask.Count e) = front _ _
    by (ask.Present e) = front _ _
    by (ask.Top k words) = front _ _

pub query_done : {E : Type 0} (r : Result (Unit {0}) E) (query : Query) (old first mid new : Bytes) → first ≡ old ++ before_spaces (delay_fields query.delay)
    → mid ≡ first ++ before_spaces (prio_fields query.prio) → OnOk r (new ≡ mid ++ join_with_byte space (ask_fields query.ask)) → OnOk r (new ≡ old ++ line_text (line.Query query))
query_done (Err e) query old first mid new a b c = tt
query_done (Ok u) query old first mid new a b c =
    c ∙ (ap (λ bs. bs ++ join_with_byte space (ask_fields query.ask)) (b ∙ ap (λ bs. bs ++ before_spaces (prio_fields query.prio)) a)
    ∙ (append_assoc (old ++ before_spaces (delay_fields query.delay)) (before_spaces (prio_fields query.prio)) (join_with_byte space (ask_fields query.ask))
    ∙ (append_assoc old (before_spaces (delay_fields query.delay)) (before_spaces (prio_fields query.prio) ++ join_with_byte space (ask_fields query.ask))
    ∙ ap (λ bs. old ++ bs) (sym (query_fields query)))))
