-- How far the reading of an input has come.
use Rattle.std.proofs.Common.{◌≡◌, ℕ, ◌+◌, ◌≤◌, List, [], ◌∷◌, ◌++◌, length, Bool, true, false, cond, eqb, Option, Result, Ok, Err, refl, sym, ap, ◌∙◌, arith, append_assoc, append-nil, length-append, subst, ◌⊎◌, inl, inr}
use Rattle.std.specs.List.{onto_first}
use Rattle.std.specs.Option.{option_to_list}
use Rattle.std.specs.Result.{IfOk}
use Rattle.std.proofs.lemmas.List.Elements.{filter_map-append}
use Rattle.query_model.specs.declared.line.Line.{Line}
use Rattle.query_model.specs.declared.line.Input.{Input}
use Rattle.query_model.specs.declared.fault.BadInput.{BadInput}
use Rattle.query_model.specs.declared.fault.InputFault.{InputFault}
use Rattle.query_model.specs.declared.fault.InputFault.TheVariants as fault
use Rattle.query_model.specs.Pieces.{Bytes, pieces, line_feed}
use Rattle.query_model.specs.Lines.{LineBehind}
use Rattle.query_model.specs.Reading.{kept, StandFor, Accepts, Refuses}
use Rattle.query_model.specs.Laws.{IsDecided}
use Rattle.query_model.proofs.ReadingLaws.{kept-push}
use Rattle.query_text.specs.Progress.{ReadSoFar, EndsLine, HasReadText, HasRead}
use Rattle.query_text.specs.Outcomes.{AreLinesOf, IsRefusal}

-- a text without bytes has no pieces
pub read_nothing : (shards : ℕ) (lines : List Line) → StandFor shards [] [] → lines ≡ [] → HasReadText shards [] (record { lines = lines; number = 0 })
unfolding pieces
read_nothing shards lines none is = record { marks = []; stand = none; lines_are = is; number_is = refl }

-- no piece was read behind what was read first
pub read_none : (shards : ℕ) (all : List Bytes) (first : ReadSoFar) → HasRead shards all all first first
read_none shards all first = record {
  done = [];
  marks = [];
  cut = refl;
  stand = λ ps before s is. subst (λ qs. StandFor shards qs (before ++ [])) (sym (append-nil ps)) (subst (λ ms. StandFor shards ps ms) (sym (append-nil before)) s);
  lines_are = sym (append-nil first.lines);
  number_is = omega arith;
}

pub read_more : (shards : ℕ) (all left rest : List Bytes) (first : ReadSoFar) (lines more : List Line) (number : ℕ) (piece : Bytes) (mark : Option Line)
    → ((ps : List Bytes) (marks : List (Option Line)) (piece : Bytes) (mark : Option Line) → StandFor shards ps marks → LineBehind shards (kept marks) piece (Ok mark) → StandFor shards (ps ++ piece ∷ []) (marks ++ mark ∷ []))
    → HasRead shards all left first (record { lines = lines; number = number }) → left ≡ piece ∷ rest → LineBehind shards lines piece (Ok mark) → more ≡ lines ++ option_to_list mark
    → HasRead shards all rest first (record { lines = more; number = number + 1 })
read_more shards all left rest first lines more number piece mark push h front is same = record {
  done = h.done ++ piece ∷ [];
  marks = h.marks ++ mark ∷ [];
  cut = h.cut ∙ (ap (λ ps. h.done ++ ps) front ∙ sym (append_assoc h.done (piece ∷ []) rest));
  stand = λ ps before s begins.
      let behind : lines ≡ kept (before ++ h.marks) = h.lines_are ∙ (ap (λ ls. ls ++ kept h.marks) begins ∙ sym (filter_map-append (λ m. m) before h.marks)) in
      let pushed = push (ps ++ h.done) (before ++ h.marks) piece mark (h.stand ps before s begins) (subst (λ ls. LineBehind shards ls piece (Ok mark)) behind is) in
      subst (λ qs. StandFor shards qs (before ++ (h.marks ++ mark ∷ []))) (append_assoc ps h.done (piece ∷ []))
      (subst (λ ms. StandFor shards ((ps ++ h.done) ++ piece ∷ []) ms) (append_assoc before h.marks (mark ∷ [])) pushed);
  lines_are = same ∙ (ap (λ ls. ls ++ option_to_list mark) h.lines_are ∙ (append_assoc first.lines (kept h.marks) (option_to_list mark) ∙ ap (λ ls. first.lines ++ ls) (sym (kept-push h.marks mark))));
  number_is = omega (arith, h.number_is, length-append h.done (piece ∷ []));
}

-- what begins behind the end of a line has pieces of its own
pub pieces_behind : (text bytes : Bytes) → EndsLine text → pieces (text ++ bytes) ≡ pieces text ++ pieces bytes
unfolding pieces
pieces_behind text bytes (inl none) = subst (λ t. pieces (t ++ bytes) ≡ pieces t ++ pieces bytes) (sym none) refl
pieces_behind text bytes (inr (front, ends)) =
    subst (λ t. pieces (t ++ bytes) ≡ pieces t ++ pieces bytes) (sym ends) (ap pieces (append_assoc front (line_feed ∷ []) bytes) ∙ (by front).1)
  where
    -- the pieces of a text that ends a line are some, and those of what comes behind stand behind them
    by : (front : Bytes) → ((piece : Bytes) × (ps : List Bytes) × (pieces (front ++ line_feed ∷ []) ≡ piece ∷ ps)) × (pieces (front ++ line_feed ∷ bytes) ≡ pieces (front ++ line_feed ∷ []) ++ pieces bytes)
    by [] = (([], [], refl), refl)
    by (b ∷ bs) = one (eqb b line_feed) (by bs)
      where
        one : (c : Bool) → ((piece : Bytes) × (ps : List Bytes) × (pieces (bs ++ line_feed ∷ []) ≡ piece ∷ ps)) × (pieces (bs ++ line_feed ∷ bytes) ≡ pieces (bs ++ line_feed ∷ []) ++ pieces bytes)
            → ((piece : Bytes) × (ps : List Bytes) × (cond c ([] ∷ pieces (bs ++ line_feed ∷ [])) (onto_first b (pieces (bs ++ line_feed ∷ []))) ≡ piece ∷ ps))
            × (cond c ([] ∷ pieces (bs ++ line_feed ∷ bytes)) (onto_first b (pieces (bs ++ line_feed ∷ bytes))) ≡ cond c ([] ∷ pieces (bs ++ line_feed ∷ [])) (onto_first b (pieces (bs ++ line_feed ∷ []))) ++ pieces bytes)
        one true (some, rest) = (([], pieces (bs ++ line_feed ∷ []), refl), ap (λ ps. [] ∷ ps) rest)
        one false ((piece, ps, some), rest) = (
          (b ∷ piece, ps, ap (onto_first b) some),
          ap (onto_first b) (rest ∙ ap (λ qs. qs ++ pieces bytes) some) ∙ sym (ap (λ qs. onto_first b qs ++ pieces bytes) some),
        )

-- all pieces were read
pub read_all : (text bytes : Bytes) (shards : ℕ) (left : List Bytes) (first now : ReadSoFar) → EndsLine text → HasReadText shards text first → HasRead shards (pieces bytes) left first now → left ≡ []
    → HasReadText shards (text ++ bytes) now
read_all text bytes shards left first now ends t h none =
    let all : h.done ≡ pieces bytes = sym (h.cut ∙ (ap (λ ps. h.done ++ ps) none ∙ append-nil h.done)) in
    let parts : pieces text ++ h.done ≡ pieces (text ++ bytes) = ap (λ ps. pieces text ++ ps) all ∙ sym (pieces_behind text bytes ends) in
    record {
      marks = t.marks ++ h.marks;
      stand = subst (λ ps. StandFor shards ps (t.marks ++ h.marks)) parts (h.stand (pieces text) t.marks t.stand t.lines_are);
      lines_are = h.lines_are ∙ (ap (λ ls. ls ++ kept h.marks) t.lines_are ∙ sym (filter_map-append (λ m. m) t.marks h.marks));
      number_is = omega (arith, h.number_is, t.number_is, ap length parts, length-append (pieces text) h.done);
    }

-- what was read behind nothing is accepted whole
pub accepts_all : (bytes : Bytes) (shards : ℕ) (read : ReadSoFar) → HasReadText shards bytes read → Accepts bytes shards (record { lines = read.lines })
accepts_all bytes shards read t = record { marks = t.marks; stand = t.stand; lines = t.lines_are }

pieces_on : (bytes rest : Bytes) → EndsLine bytes ⊎ (rest ≡ []) → pieces (bytes ++ rest) ≡ pieces bytes ++ pieces rest
unfolding pieces
pieces_on bytes rest (inl ends) = pieces_behind bytes rest ends
pieces_on bytes rest (inr none) =
    subst (λ r. pieces (bytes ++ r) ≡ pieces bytes ++ pieces r) (sym none) (ap pieces (append-nil bytes) ∙ sym (append-nil (pieces bytes)))

pub read_bad : (text bytes rest : Bytes) (shards : ℕ) (left more : List Bytes) (first : ReadSoFar) (lines : List Line) (number : ℕ) (piece : Bytes) (bad : BadInput)
    → EndsLine text → HasReadText shards text first → EndsLine bytes ⊎ (rest ≡ []) → HasRead shards (pieces bytes) left first (record { lines = lines; number = number }) → left ≡ piece ∷ more
    → (bad.line ≡ number + 1) × LineBehind shards lines piece (Err bad.kind) → Refuses (text ++ (bytes ++ rest)) shards bad
read_bad text bytes rest shards left more first lines number piece bad ends t on h front unmet =
    let behind : lines ≡ kept (t.marks ++ h.marks) = h.lines_are ∙ (ap (λ ls. ls ++ kept h.marks) t.lines_are ∙ sym (filter_map-append (λ m. m) t.marks h.marks)) in
    let cut : pieces bytes ++ pieces rest ≡ h.done ++ piece ∷ (more ++ pieces rest) =
    ap (λ ps. ps ++ pieces rest) (h.cut ∙ ap (λ ps. h.done ++ ps) front) ∙ append_assoc h.done (piece ∷ more) (pieces rest) in
    record {
      before = pieces text ++ h.done;
      piece = piece;
      after = more ++ pieces rest;
      cut = pieces_behind text (bytes ++ rest) ends ∙ (ap (λ ps. pieces text ++ ps) (pieces_on bytes rest on ∙ cut) ∙ sym (append_assoc (pieces text) h.done (piece ∷ (more ++ pieces rest))));
      number = omega (arith, unmet.0, h.number_is, t.number_is, length-append (pieces text) h.done);
      marks = t.marks ++ h.marks;
      stand = h.stand (pieces text) t.marks t.stand t.lines_are;
      unmet = subst (λ ls. LineBehind shards ls piece (Err bad.kind)) behind unmet.1;
    }

length-onto_first : (b : ℕ) (ps : List Bytes) → length (onto_first b ps) ≤ length ps + 1
length-onto_first b [] = omega arith
length-onto_first b (p ∷ ps) = omega arith

length-pieces : (bytes : Bytes) → length (pieces bytes) ≤ length bytes
unfolding pieces
length-pieces [] = omega arith
length-pieces (b ∷ bs) = by (eqb b line_feed) (length-pieces bs)
  where
    by : (c : Bool) → length (pieces bs) ≤ length bs → length (cond c ([] ∷ pieces bs) (onto_first b (pieces bs))) ≤ length (b ∷ bs)
    by true few = omega (arith, few)
    by false few = omega (arith, few, length-onto_first b (pieces bs))

-- the pieces that were read are at most as many as the bytes
pub number_within : (bytes : Bytes) (shards : ℕ) (left : List Bytes) (first now : ReadSoFar) → HasRead shards (pieces bytes) left first now → now.number + length left ≤ first.number + length bytes
number_within bytes shards left first now h = omega (arith, h.number_is, ap length h.cut, length-append h.done left, length-pieces bytes)

-- the input of these lines
abbrev pub input_of : List Line → Input
input_of lines = record { lines = lines }

pub gives_accepts : (bytes : Bytes) (shards : ℕ) (r : Result (List Line) InputFault) → IsDecided bytes shards → IfOk r (λ lines. Accepts bytes shards (record { lines = lines }))
    → ((bad : BadInput) → r ≡ Err (fault.Bad bad) → Refuses bytes shards bad) → (input : Input) → Accepts bytes shards input → AreLinesOf r input
gives_accepts bytes shards (Ok read) d accepted refused input a = ap (λ (i : Input). i.lines) (d.one_input (input_of read) input accepted a)
gives_accepts bytes shards (Err (fault.Bad bad)) d accepted refused input a = d.never_both input bad a (refused bad refl)
gives_accepts bytes shards (Err fault.Memory) d accepted refused input a = tt

pub gives_refuses : (bytes : Bytes) (shards : ℕ) (r : Result (List Line) InputFault) → IsDecided bytes shards → IfOk r (λ lines. Accepts bytes shards (record { lines = lines }))
    → ((bad : BadInput) → r ≡ Err (fault.Bad bad) → Refuses bytes shards bad) → (bad : BadInput) → Refuses bytes shards bad → IsRefusal r bad
gives_refuses bytes shards (Ok read) d accepted refused bad u = d.never_both (input_of read) bad accepted u
gives_refuses bytes shards (Err (fault.Bad found)) d accepted refused bad u = d.one_refusal found bad (refused found refl) u
gives_refuses bytes shards (Err fault.Memory) d accepted refused bad u = tt
