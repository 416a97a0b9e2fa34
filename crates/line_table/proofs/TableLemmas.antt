-- What holds of a table, with one line more.
use Rattle.std.proofs.Common.{◌≡◌, ◌+◌, ◌*◌, ◌≤◌, List, [], ◌∷◌, ◌++◌, length, cond, map, refl, sym, ap, ◌∙◌, subst, arith}
use Rattle.std.specs.List.{AllByRecursion, count_by}
use Rattle.std.proofs.lemmas.List.{map-append}
use Rattle.std.proofs.lemmas.List.Sums.{sum_by-append, sum_by-cons}
use Rattle.fan_base.specs.declared.doc.Doc.{Doc}
use Rattle.fan_base.specs.declared.word.Word.{Word}
use Rattle.query_model.specs.declared.line.Line.{Line}
use Rattle.query_model.specs.declared.line.Line.TheVariants as line
use Rattle.query_model.specs.Lines.{is_doc}
use Rattle.word_table.specs.declared.numbered.NumberedDoc.{NumberedDoc}
use Rattle.word_table.specs.Numbered.{IsNumbered, doc_by}
use Rattle.word_table.specs.Numbers.{Knows, with_words, words_in}
use Rattle.line_table.specs.declared.line.TableLine.{TableLine}
use Rattle.line_table.specs.declared.line.TableLine.TheVariants as table
use Rattle.line_table.specs.declared.table.LineTable.TheInside.{Inside}
use Rattle.line_table.specs.Numbered.{HasNumbers, IsNumberedLine, line_by}
use Rattle.line_table.specs.Rooms.{IsRoomFor, words_of_line}
use Rattle.line_table.specs.Tables.{IsTable, lines_of}

pub numbered-doc : (known : List Word) (numbered : NumberedDoc) (doc : Doc) (l : Line) → l ≡ line.Doc doc → IsNumbered (with_words known doc.words) numbered doc
    → IsNumberedLine (with_words known (words_of_line l)) (table.Doc numbered) l
numbered-doc known numbered doc l is n =
    subst (λ (k : Line). IsNumberedLine (with_words known (words_of_line k)) (table.Doc numbered) k) (sym is) (record { line_is = ap line.Doc n.doc_is; numbers = n.numbers })

-- the numbers that stand are still those of the same words
Stays : List Word → List Word → Type 0
Stays words new = (numbered : NumberedDoc) (doc : Doc) → IsNumbered words numbered doc → IsNumbered new numbered doc

line-stays : (words new : List Word) → Stays words new → (t : TableLine) → HasNumbers words t → IsNumberedLine new t (line_by words t)
unfolding Stays
line-stays words new stay (table.Doc numbered) h =
    let n = stay numbered (doc_by words numbered) (record { doc_is = refl; numbers = h }) in
    record { line_is = ap line.Doc n.doc_is; numbers = n.numbers }
line-stays words new stay (table.Query query) h = record { line_is = refl; numbers = tt }
line-stays words new stay (table.Tick n) h = record { line_is = refl; numbers = tt }
line-stays words new stay (table.Cancel n) h = record { line_is = refl; numbers = tt }

numbers-stay : (words new : List Word) → Stays words new → (ts : List TableLine) → AllByRecursion (HasNumbers words) ts → AllByRecursion (HasNumbers new) ts
unfolding Stays
numbers-stay words new stay [] h = tt
numbers-stay words new stay (t ∷ ts) h = ((line-stays words new stay t h.0).numbers, numbers-stay words new stay ts h.1)

lines-stay : (words new : List Word) → Stays words new → (ts : List TableLine) → AllByRecursion (HasNumbers words) ts → map (line_by new) ts ≡ map (line_by words) ts
unfolding Stays
lines-stay words new stay [] h = refl
lines-stay words new stay (t ∷ ts) h = λ i. (line-stays words new stay t h.0).line_is i ∷ lines-stay words new stay ts h.1 i

numbers-push : (words : List Word) (ts : List TableLine) (t : TableLine) → AllByRecursion (HasNumbers words) ts → HasNumbers words t → AllByRecursion (HasNumbers words) (ts ++ t ∷ [])
numbers-push words [] t h one = (one, tt)
numbers-push words (u ∷ us) t h one = (h.0, numbers-push words us t h.1 one)

-- one line more
pub record IsStep (a b : Inside) (l : Line) (t : TableLine) : Type 0 where
  pub stay : (words more : List Word) (numbered : NumberedDoc) (doc : Doc) → IsNumbered words numbered doc → IsNumbered (with_words words more) numbered doc
  pub few : (words more : List Word) → length (with_words words more) ≤ length words + length more
  pub knows : Knows b.dictionary (with_words (words_in a.dictionary) (words_of_line l))
  pub numbered : IsNumberedLine (with_words (words_in a.dictionary) (words_of_line l)) t l
  pub pushed : b.lines.items ≡ a.lines.items ++ t ∷ []

pub step-lines : (a b : Inside) (l : Line) (t : TableLine) → IsTable a → IsStep a b l t → lines_of b ≡ lines_of a ++ l ∷ []
unfolding Stays
step-lines a b l t is s =
    let words = words_in a.dictionary in
    let new : List Word = with_words words (words_of_line l) in
    let known : words_in b.dictionary ≡ new = s.knows.words_are in
    (λ i. map (line_by (known i)) (s.pushed i))
    ∙ (map-append (line_by new) a.lines.items (t ∷ [])
    ∙ (λ i. lines-stay words new (s.stay words (words_of_line l)) a.lines.items is.numbers i ++ s.numbered.line_is i ∷ []))

count-push : (lines new : List Line) (l : Line) → new ≡ lines ++ l ∷ [] → count_by is_doc new ≡ count_by is_doc lines + cond (is_doc l) 1 0
count-push lines new l is =
    omega (arith, ap (λ ls. count_by is_doc ls) is, sum_by-append (λ k. cond (is_doc k) 1 0) lines (l ∷ []), sum_by-cons (λ k. cond (is_doc k) 1 0) l [])

-- the words of a line are at most 1,000 for a document, and none else
few-words : (before : List Line) (l : Line) → IsRoomFor before l → length (words_of_line l) ≤ 1000 * cond (is_doc l) 1 0
few-words before (line.Doc doc) room = room.few_words
few-words before (line.Query query) room = omega arith
few-words before (line.Tick n) room = omega arith
few-words before (line.Cancel n) room = omega arith

few-docs : (before : List Line) (l : Line) → IsRoomFor before l → count_by is_doc before ≤ 200000 → count_by is_doc before + cond (is_doc l) 1 0 ≤ 200000
few-docs before (line.Doc doc) room few = omega (arith, room.few_documents)
few-docs before (line.Query query) room few = omega (arith, few)
few-docs before (line.Tick n) room few = omega (arith, few)
few-docs before (line.Cancel n) room few = omega (arith, few)

pub few-numbers : (a : Inside) (l : Line) → IsTable a → IsRoomFor (lines_of a) l → length (words_in a.dictionary) + length (words_of_line l) ≤ 4294967296
few-numbers a l is room = omega (arith, is.few_words, is.few_documents, few-words (lines_of a) l room, few-docs (lines_of a) l room is.few_documents)

pub step-table : (a b : Inside) (l : Line) (t : TableLine) → IsTable a → IsRoomFor (lines_of a) l → IsStep a b l t → IsTable b
unfolding Stays
step-table a b l t is room s =
    let words = words_in a.dictionary in
    let new : List Word = with_words words (words_of_line l) in
    let known : words_in b.dictionary ≡ new = s.knows.words_are in
    let more = count-push (lines_of a) (lines_of b) l (step-lines a b l t is s) in
    record {
      knows = subst (λ (ws : List Word). Knows b.dictionary ws) (sym known) s.knows;
      numbers = subst (λ (ws : List Word). AllByRecursion (HasNumbers ws) b.lines.items) (sym known)
          (subst (λ (ts : List TableLine). AllByRecursion (HasNumbers new) ts) (sym s.pushed)
          (numbers-push new a.lines.items t (numbers-stay words new (s.stay words (words_of_line l)) a.lines.items is.numbers) s.numbered.numbers));
      few_words = omega (arith, is.few_words, more, ap length known, s.few words (words_of_line l), few-words (lines_of a) l room);
      few_documents = omega (arith, more, few-docs (lines_of a) l room is.few_documents);
    }
