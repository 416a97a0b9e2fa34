-- Documents by numbers, as more words are known.
use Rattle.std.proofs.Common.{◌≡◌, ℕ, zero, suc, ◌+◌, ◌<◌, ◌≤◌, List, [], ◌∷◌, ◌++◌, length, Bool, true, false, cond, eqb, get_or, set, take, map, refl, sym, ap, ◌∙◌, subst, arith, append_assoc, append-nil, length-append, inl, inr}
use Rattle.std.specs.List.{AllByRecursion}
use Rattle.std.specs.Cmp.Lexicographic.{pointwise}
use Rattle.std.proofs.lemmas.Bool.{cases_lt}
use Rattle.std.proofs.lemmas.List.{get_or_append_left, map-append, take_more, take_more_set}
use Rattle.fan_base.specs.declared.doc.Doc.{Doc}
use Rattle.fan_base.specs.declared.word.Word.{Word}
use Rattle.word_table.specs.declared.numbered.NumberedDoc.{NumberedDoc}
use Rattle.word_table.specs.Numbered.{IsNumbered, AreNumbersOf, word_at}
use Rattle.word_table.specs.Numbers.{number_in, with_word, with_words}
use Rattle.word_table.proofs.NumberLemmas.{in-with, same_word, with-more, with-new, with-old}
use Rattle.word_table.proofs.PairLemmas.{all-append}

-- more words stand behind those that were there
pub record Extends (words more new : List Word) : Type 0 where
  pub behind : List Word
  pub new_is : new ≡ words ++ behind
  pub few : length behind ≤ length more

extends-one : (words more new : List Word) (w : Word) → Extends (with_word words w) more new → Extends words (w ∷ more) new
extends-one words more new w e = elim (cases_lt (number_in words w) (length words)) [
  | inl less ↦ record {
    behind = e.behind;
    new_is = e.new_is ∙ ap (λ (ws : List Word). ws ++ e.behind) (with-old words w less);
    few = omega (arith, e.few);
  }
  | inr past ↦ record {
    behind = w ∷ e.behind;
    new_is = e.new_is ∙ (ap (λ (ws : List Word). ws ++ e.behind) (with-new words w past) ∙ append_assoc words (w ∷ []) e.behind);
    few = omega (arith, e.few);
  }
]

pub with-extends : (words more : List Word) → Extends words more (with_words words more)
with-extends words [] = record { behind = []; new_is = sym (append-nil words); few = omega arith }
with-extends words (w ∷ ws) = extends-one words ws (with_words words (w ∷ ws)) w (with-extends (with_word words w) ws)

pub few-more : (words more : List Word) → length (with_words words more) ≤ length words + length more
few-more words more =
    let e = with-extends words more in
    omega (arith, e.few, ap length e.new_is, length-append words e.behind)

-- the numbers stand for the same words

within-wider : (j k : ℕ) (numbers : List ℕ) → j ≤ k → AllByRecursion (λ n. n < j) numbers → AllByRecursion (λ n. n < k) numbers
within-wider j k [] le all = tt
within-wider j k (n ∷ ns) le all = (omega (arith, le, all.0), within-wider j k ns le all.1)

same-texts : (words behind : List Word) (numbers : List ℕ) → AllByRecursion (λ n. n < length words) numbers → map (word_at (words ++ behind)) numbers ≡ map (word_at words) numbers
same-texts words behind [] all = refl
same-texts words behind (n ∷ ns) all = λ i. get_or_append_left words behind [] n all.0 i ∷ same-texts words behind ns all.1 i

stand-behind : (words behind : List Word) (numbers : List ℕ) (texts : List Word) → AreNumbersOf words numbers texts → AreNumbersOf (words ++ behind) numbers texts
stand-behind words behind numbers texts s = record {
  texts_are = same-texts words behind numbers s.within ∙ s.texts_are;
  within = within-wider (length words) (length (words ++ behind)) numbers (omega (arith, length-append words behind)) s.within;
}

pub stand-more : (words more : List Word) (numbers : List ℕ) (texts : List Word) → AreNumbersOf words numbers texts → AreNumbersOf (with_words words more) numbers texts
stand-more words more numbers texts s =
    let e = with-extends words more in
    subst (λ (ws : List Word). AreNumbersOf ws numbers texts) (sym e.new_is) (stand-behind words e.behind numbers texts s)

pub numbered-more : (words more : List Word) (numbered : NumberedDoc) (doc : Doc) → IsNumbered words numbered doc → IsNumbered (with_words words more) numbered doc
numbered-more words more numbered doc is =
    let s = stand-more words more numbered.words (map (word_at words) numbered.words) (record { texts_are = refl; within = is.numbers }) in
    record {
      doc_is = ap with_texts s.texts_are ∙ is.doc_is;
      numbers = s.within;
    }
  where
    with_texts : List Word → Doc
    with_texts texts = record { id = numbered.id; words = texts }

-- one number more

pub text-at : (words : List Word) (w : Word) → number_in words w < length words → word_at words (number_in words w) ≡ w
text-at [] w less = absurd (omega (arith, less))
text-at (u ∷ us) w less = by (pointwise eqb u w) refl less (text-at us w)
  where
    by : (b : Bool) → pointwise eqb u w ≡ b → cond b zero (suc (number_in us w)) < suc (length us) → (number_in us w < length us → word_at us (number_in us w) ≡ w)
        → word_at (u ∷ us) (cond b zero (suc (number_in us w))) ≡ w
    by true e less rest = same_word u w e
    by false e less rest = rest (omega (arith, less))

stand-push : (words : List Word) (numbers : List ℕ) (texts : List Word) (n : ℕ) (w : Word) → AreNumbersOf words numbers texts → n ≡ number_in (with_word words w) w
    → AreNumbersOf (with_word words w) (numbers ++ n ∷ []) (texts ++ w ∷ [])
stand-push words numbers texts n w s is =
    let wide : AreNumbersOf (with_word words w) numbers texts = stand-more words (w ∷ []) numbers texts s in
    let known : List Word = with_word words w in
    let there : n < length known = omega (arith, is, in-with words w) in
    let text : word_at known n ≡ w = ap (word_at known) is ∙ text-at known w (in-with words w) in
    record {
      texts_are = map-append (word_at known) numbers (n ∷ []) ∙ (λ i. wide.texts_are i ++ text i ∷ []);
      within = all-append (λ m. m < length known) numbers (n ∷ []) wide.within (there, tt);
    }

pub stand-step : (known texts : List Word) (i n : ℕ) (w : Word) (numbers : List ℕ) → i < length texts → w ≡ get_or texts i w → length numbers ≡ length texts
    → AreNumbersOf (with_words known (take i texts)) (take i numbers) (take i texts) → n ≡ number_in (with_word (with_words known (take i texts)) w) w
    → AreNumbersOf (with_words known (take (i + 1) texts)) (take (i + 1) (set numbers i n)) (take (i + 1) texts)
stand-step known texts i n w numbers within text many s is =
    let step = stand-push (with_words known (take i texts)) (take i numbers) (take i texts) n w s is in
    let words = with-more known texts i w within text in
    let ns = take_more_set numbers i n (omega (arith, within, many)) in
    let ts = take_more texts i w within ∙ ap (λ (v : Word). take i texts ++ v ∷ []) (sym text) in
    subst (λ (ws : List Word). AreNumbersOf ws (take (i + 1) (set numbers i n)) (take (i + 1) texts)) (sym words)
    (subst (λ (ms : List ℕ). AreNumbersOf (with_word (with_words known (take i texts)) w) ms (take (i + 1) texts)) (sym ns)
    (subst (λ (vs : List Word). AreNumbersOf (with_word (with_words known (take i texts)) w) (take i numbers ++ n ∷ []) vs) (sym ts) step))
