-- What selections select, by other tests that answer the same.
use Rattle.std.proofs.Common.{◌≡◌, List, Bool, true, false, not, ◌&&◌, ◌||◌, refl, subst}
use Rattle.fan_base.specs.declared.doc.Doc.{Doc}
use Rattle.shard_index.specs.Places.{places_where}
use Rattle.shard_index.specs.declared.selection.Selection.{Selection}
use Rattle.shard_index.specs.Selections.{Selects}

pub places_where-same : (p q : Doc → Bool) (docs : List Doc) → ((doc : Doc) → p doc ≡ q doc) → places_where p docs ≡ places_where q docs
places_where-same p q docs same = λ i. places_where (λ doc. same doc i) docs

pub Selects-same : (selection : Selection) (p q : Doc → Bool) (docs : List Doc) → ((doc : Doc) → p doc ≡ q doc) → Selects selection p docs → Selects selection q docs
Selects-same selection p q docs same selects = subst (λ (test : Doc → Bool). Selects selection test docs) (λ i doc. same doc i) selects

pub not-not : (b : Bool) → not (not b) ≡ b
not-not true = refl
not-not false = refl

pub and_second : (b c : Bool) → (b && not (not c)) ≡ (b && c)
and_second true c = not-not c
and_second false c = refl

pub and_first : (b c : Bool) → (c && not (not b)) ≡ (b && c)
and_first true true = refl
and_first true false = refl
and_first false true = refl
and_first false false = refl

pub nor : (b c : Bool) → (not b || not c) ≡ not (b && c)
nor true c = refl
nor false c = refl

pub or_by_and : (b c : Bool) → not (not b && not c) ≡ (b || c)
or_by_and true c = refl
or_by_and false c = not-not c
