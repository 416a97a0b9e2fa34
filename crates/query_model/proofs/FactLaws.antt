-- Lines are what they are by their facts: numbers, words, documents, ticks and cancels.
use Rattle.std.proofs.Common.{◌≡◌, ℕ, ◌+◌, ◌<◌, ◌≤◌, List, [], ◌∷◌, length, take, Bool, true, false, ◌&&◌, not, cond, Option, Some, None, Result, Ok, Err, refl, sym, ap, ◌∙◌, arith, subst, true≢false}
use Rattle.std.specs.Prelude.{nat_lt, nat_le, find}
use Rattle.std.specs.List.{list_any, list_all, count_by, sum_by}
use Rattle.std.specs.Option.{ok_or}
use Rattle.std.specs.Cmp.Lexicographic.{bytes_decides}
use Rattle.std.proofs.lemmas.Bool.{ltb-true, leb-true, lt-ltb, le-leb, and_from}
use Rattle.std.proofs.lemmas.List.{take_all}
use Rattle.std.proofs.lemmas.List.Sums.{list_all-from_AllPass, AllPass-from_list_all}
use Rattle.fan_base.specs.Word.{is_word}
use Rattle.fan_base.specs.declared.doc.Doc.{Doc}
use Rattle.fan_base.specs.declared.word.Word.{Word}
use Rattle.query_model.specs.Results.{◌>>=◌, check, first_of}
use Rattle.query_model.specs.Pieces.{Bytes, is_text}
use Rattle.query_model.specs.declared.line.Line.{Line}
use Rattle.query_model.specs.declared.keyword.Keyword.{Keyword}
use Rattle.query_model.specs.declared.keyword.Keyword.TheVariants as word
use Rattle.query_model.specs.declared.fault.BadKind.{BadKind}
use Rattle.query_model.specs.declared.fault.BadKind.TheVariants.{BadByte, BadNumber, BadWord, DuplicateDoc, MissingField, ExtraField, UnknownCommand}
use Rattle.query_model.specs.declared.fault.BadKind.TheVariants as bad
use Rattle.query_model.specs.declared.fault.Limit.TheVariants as limit
use Rattle.query_model.specs.Limits.{most_words, most_documents, most_ticks, most_id}
use Rattle.query_model.specs.Numbers.{is_number, number_of, number_in, number_field}
use Rattle.query_model.specs.Keywords.{keywords, keyword_of, text_of}
use Rattle.query_model.specs.Lines.{words_of, number_alone, doc_room, doc_behind, tick_behind, is_doc, has_id, ticks_of}
use Rattle.query_model.specs.Documents.{AreWords}
use Rattle.query_model.specs.ByFacts.{IsNumber}

pub go_on : {A B E : Type 0} (r : Result A E) (f : A → Result B E) (y : B) → (r >>= f) ≡ Ok y → (x : A) × (r ≡ Ok x) × (f x ≡ Ok y)
go_on (Ok x) f y e = (x, refl, e)
go_on (Err err) f y e = absurd cc

pub checked : {B E : Type 0} (b : Bool) (err : E) (f : Unit {0} → Result B E) (y : B) → (check b err >>= f) ≡ Ok y → (b ≡ true) × (f tt ≡ Ok y)
checked true err f y e = (refl, e)
checked false err f y e = absurd cc

pub passed : {E : Type 0} (b : Bool) (err : E) (y : Unit {0}) → check b err ≡ Ok y → b ≡ true
passed true err y e = refl
passed false err y e = absurd cc

pub pass : {B E : Type 0} (b : Bool) (err : E) (f : Unit {0} → Result B E) → b ≡ true → (check b err >>= f) ≡ f tt
pass true err f e = refl
pass false err f e = absurd (true≢false (sym e))

pub not_true : (b : Bool) → not b ≡ true → b ≡ false
not_true true e = absurd (true≢false (sym e))
not_true false e = refl

pub same_Ok : {A E : Type 0} (a b : A) (x y : Result A E) → x ≡ Ok a → y ≡ Ok b → x ≡ y → a ≡ b
same_Ok a b x y ea eb e = cc

pub first_is : {A E : Type 0} (xs : List A) (err : E) (p : A × List A) → first_of xs err ≡ Ok p → xs ≡ p.0 ∷ p.1
first_is [] err p e = absurd cc
first_is {A = A} {E = E} (x ∷ xs) err p e =
    let given : Result (A × List A) E = Ok (x, xs) in
    let is : given ≡ Ok p = e in
    let same : (x, xs) ≡ p = cc in
    ap (λ (q : A × List A). q.0 ∷ q.1) same

-- numbers
number_in_facts : (low high : ℕ) (field : Bytes) (n : ℕ) → number_in low high field ≡ Some n → IsNumber low high field n
number_in_facts low high field n e = by (is_number field) (nat_le low (number_of field)) (nat_le (number_of field) high) refl refl refl e
  where
    by : (a b c : Bool) → is_number field ≡ a → nat_le low (number_of field) ≡ b → nat_le (number_of field) high ≡ c
        → cond (a && (b && c)) (Some (number_of field)) None ≡ Some n → IsNumber low high field n
    by true true true ea eb ec e =
        let value : number_of field ≡ n = cc in
        record {
          digits = ea;
          value = value;
          above = subst (λ (m : ℕ). low ≤ m) value (leb-true low (number_of field) eb);
          below = subst (λ (m : ℕ). m ≤ high) value (leb-true (number_of field) high ec);
        }
    by true true false ea eb ec e = absurd cc
    by true false c ea eb ec e = absurd cc
    by false b c ea eb ec e = absurd cc

ok_or-Some : {A E : Type 0} (o : Option A) (err : E) (x : A) → ok_or o err ≡ Ok x → o ≡ Some x
ok_or-Some (Some y) err x e = let same : y ≡ x = cc in ap (λ z. Some z) same
ok_or-Some None err x e = absurd cc

pub number_facts : (low high : ℕ) (field : Bytes) (n : ℕ) → number_field low high field ≡ Ok n → IsNumber low high field n
number_facts low high field n e = number_in_facts low high field n (ok_or-Some (number_in low high field) BadNumber n e)

pub number_reads : (low high : ℕ) (field : Bytes) (n : ℕ) → IsNumber low high field n → number_field low high field ≡ Ok n
number_reads low high field n is =
    let above : nat_le low (number_of field) ≡ true = le-leb low (number_of field) (subst (λ (m : ℕ). low ≤ m) (sym is.value) is.above) in
    let below : nat_le (number_of field) high ≡ true = le-leb (number_of field) high (subst (λ (m : ℕ). m ≤ high) (sym is.value) is.below) in
    let test = and_from (is_number field) (nat_le low (number_of field) && nat_le (number_of field) high) is.digits (and_from (nat_le low (number_of field)) (nat_le (number_of field) high) above below) in
    ap (λ (b : Bool). ok_or (cond b (Some (number_of field)) None) BadNumber) test ∙ ap (λ (m : ℕ). Ok m) is.value

-- words
pub words_facts : (texts : List Bytes) (words : List Word) → words_of texts ≡ Ok words → (texts ≡ words) × AreWords words
words_facts texts words e =
    let all = checked (list_all is_word (take most_words texts)) BadWord (λ u. check (nat_le (length texts) most_words) (bad.Limit limit.Words) >>= λ v. Ok texts) words e in
    let few = checked (nat_le (length texts) most_words) (bad.Limit limit.Words) (λ v. Ok texts) words all.1 in
    let given : Result (List Word) BadKind = Ok texts in
    let wanted : Result (List Word) BadKind = Ok words in
    let is : given ≡ wanted = few.1 in
    let same : texts ≡ words = cc in
    let low = leb-true (length texts) most_words few.0 in (
      same,
      subst (λ (ws : List Word). AreWords ws) same
          (record { few = low; each = AllPass-from_list_all is_word texts (ap (list_all is_word) (sym (take_all most_words texts low)) ∙ all.0) }),
    )

pub words_read : (words : List Word) → AreWords words → words_of words ≡ Ok words
words_read words are =
    let all : list_all is_word (take most_words words) ≡ true = ap (list_all is_word) (take_all most_words words are.few) ∙ list_all-from_AllPass is_word words are.each in
    pass (list_all is_word (take most_words words)) BadWord (λ u. check (nat_le (length words) most_words) (bad.Limit limit.Words) >>= λ v. Ok words) all
    ∙ pass (nat_le (length words) most_words) (bad.Limit limit.Words) (λ v. Ok words) (le-leb (length words) most_words are.few)

-- keywords
find_passes : {A : Type 0} (p : A → Bool) (xs : List A) (x : A) → find p xs ≡ Some x → p x ≡ true
find_passes p [] x e = absurd cc
find_passes {A = A} p (y ∷ ys) x e = by (p y) refl e (λ h. find_passes p ys x h)
  where
    by : (b : Bool) → p y ≡ b → cond b (Some y) (find p ys) ≡ Some x → (find p ys ≡ Some x → p x ≡ true) → p x ≡ true
    by true is e rest = let same : y ≡ x = cc in subst (λ (z : A). p z ≡ true) same is
    by false is e rest = rest e

pub keyword_is : (name : Bytes) (k : Keyword) → keyword_of name ≡ Some k → name ≡ text_of k
keyword_is name k e = (bytes_decides name (text_of k)).0 (find_passes (λ keyword. is_text (text_of keyword) name) keywords k e)

pub keyword_of-text_of : (k : Keyword) → keyword_of (text_of k) ≡ Some k
keyword_of-text_of word.Doc = refl
keyword_of-text_of word.Tick = refl
keyword_of-text_of word.Cancel = refl
keyword_of-text_of word.After = refl
keyword_of-text_of word.Lo = refl
keyword_of-text_of word.Mid = refl
keyword_of-text_of word.Hi = refl
keyword_of-text_of word.Find = refl
keyword_of-text_of word.Count = refl
keyword_of-text_of word.Exists = refl
keyword_of-text_of word.Top = refl

-- what stands alone behind `tick` and `cancel`
pub record IsAlone (low high : ℕ) (others : List Bytes) (n : ℕ) : Type 0 where
  pub field : Bytes
  pub others_are : others ≡ field ∷ []
  pub number : IsNumber low high field n

none_left : (xs : List Bytes) → nat_le (length xs) 0 ≡ true → xs ≡ []
none_left [] e = refl
none_left (x ∷ xs) e = absurd (omega (arith, leb-true (length (x ∷ xs)) 0 e))

pub alone_facts : (low high : ℕ) (others : List Bytes) (n : ℕ) → number_alone low high others ≡ Ok n → IsAlone low high others n
alone_facts low high others n e =
    let first = go_on (first_of others MissingField) _ n e in
    let number = go_on (number_field low high first.0.0) _ n first.2 in
    let alone = checked (nat_le (length first.0.1) 0) ExtraField _ n number.2 in
    let given : Result ℕ BadKind = Ok number.0 in
    let is : given ≡ Ok n = alone.1 in
    let same : number.0 ≡ n = cc in
    record {
      field = first.0.0;
      others_are = first_is others MissingField first.0 first.1 ∙ ap (λ (rest : List Bytes). first.0.0 ∷ rest) (none_left first.0.1 alone.0);
      number = subst (λ (m : ℕ). IsNumber low high first.0.0 m) same (number_facts low high first.0.0 number.0 number.1);
    }

pub alone_reads : (low high : ℕ) (field : Bytes) (n : ℕ) → IsNumber low high field n → number_alone low high (field ∷ []) ≡ Ok n
alone_reads low high field n is = ap (λ (r : Result ℕ BadKind). r >>= λ m. Ok m) (number_reads low high field n is)

-- what stands behind `doc`
pub record IsBehindDoc (before : List Line) (others : List Bytes) (doc : Doc) : Type 0 where
  pub id : Bytes
  pub others_are : others ≡ id ∷ doc.words
  pub number : IsNumber 0 most_id id doc.id
  pub words : AreWords doc.words
  pub own : list_any (has_id doc.id) before ≡ false
  pub room : count_by is_doc before < most_documents

pub doc_facts : (before : List Line) (others : List Bytes) (doc : Doc) → doc_behind before others ≡ Ok doc → IsBehindDoc before others doc
doc_facts before others doc e =
    let id = go_on (first_of others MissingField) _ doc e in
    let n = go_on (number_field 0 most_id id.0.0) _ doc id.2 in
    let words = go_on (words_of id.0.1) _ doc n.2 in
    let both = go_on (doc_room before n.0) _ doc words.2 in
    let own = checked (not (list_any (has_id n.0) before)) DuplicateDoc _ both.0 both.1 in
    let room = passed (nat_lt (count_by is_doc before) most_documents) (bad.Limit limit.Documents) both.0 own.1 in
    let given : Result Doc BadKind = Ok (record { id = n.0; words = words.0 }) in
    let is : given ≡ Ok doc = both.2 in
    let made : Doc = record { id = n.0; words = words.0 } in
    let same : made ≡ doc = cc in
    let within = words_facts id.0.1 words.0 words.1 in
    subst (λ d. IsBehindDoc before others d) same (record {
      id = id.0.0;
      others_are = first_is others MissingField id.0 id.1 ∙ ap (λ ws. id.0.0 ∷ ws) within.0;
      number = number_facts 0 most_id id.0.0 n.0 n.1;
      words = within.1;
      own = not_true (list_any (has_id n.0) before) own.0;
      room = ltb-true (count_by is_doc before) most_documents room;
    })

pub doc_reads : (before : List Line) (doc : Doc) (id : Bytes) → IsNumber 0 most_id id doc.id → AreWords doc.words
    → list_any (has_id doc.id) before ≡ false → count_by is_doc before < most_documents → doc_behind before (id ∷ doc.words) ≡ Ok doc
doc_reads before doc id number words own room =
    let rest : ℕ → List Word → Result Doc BadKind = λ n ws. doc_room before n >>= λ r. Ok (record { id = n; words = ws }) in
    let roomy : doc_room before doc.id ≡ Ok tt =
    pass (not (list_any (has_id doc.id) before)) DuplicateDoc _ (ap not own)
    ∙ ap (λ b. check b (bad.Limit limit.Documents)) (lt-ltb (count_by is_doc before) most_documents room) in
    ap (λ r. r >>= λ n. words_of doc.words >>= λ ws. rest n ws) (number_reads 0 most_id id doc.id number)
    ∙ (ap (λ r. r >>= λ ws. rest doc.id ws) (words_read doc.words words)
    ∙ ap (λ r. r >>= λ u. Ok (record { id = doc.id; words = doc.words })) roomy)

-- what stands behind `tick`
pub tick_facts : (before : List Line) (others : List Bytes) (n : ℕ) → tick_behind before others ≡ Ok n → IsAlone 1 most_ticks others n × (sum_by ticks_of before + n ≤ most_ticks)
tick_facts before others n e =
    let number = go_on (number_alone 1 most_ticks others) _ n e in
    let room = checked (nat_le (sum_by ticks_of before + number.0) most_ticks) (bad.Limit limit.Ticks) _ n number.2 in
    let given : Result ℕ BadKind = Ok number.0 in
    let is : given ≡ Ok n = room.1 in
    let same : number.0 ≡ n = cc in (
      subst (λ (m : ℕ). IsAlone 1 most_ticks others m) same (alone_facts 1 most_ticks others number.0 number.1),
      subst (λ (m : ℕ). sum_by ticks_of before + m ≤ most_ticks) same (leb-true (sum_by ticks_of before + number.0) most_ticks room.0),
    )

pub tick_reads : (before : List Line) (field : Bytes) (n : ℕ) → IsNumber 1 most_ticks field n → sum_by ticks_of before + n ≤ most_ticks → tick_behind before (field ∷ []) ≡ Ok n
tick_reads before field n is room =
    ap (λ (r : Result ℕ BadKind). r >>= λ m. check (nat_le (sum_by ticks_of before + m) most_ticks) (bad.Limit limit.Ticks) >>= λ u. Ok m) (alone_reads 1 most_ticks field n is)
    ∙ pass (nat_le (sum_by ticks_of before + n) most_ticks) (bad.Limit limit.Ticks) (λ u. Ok n) (le-leb (sum_by ticks_of before + n) most_ticks room)
