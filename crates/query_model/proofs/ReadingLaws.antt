-- Reading piece by piece, and that it ends as the definitions say: accepted, or at the first unmet check.
use Rattle.std.proofs.Common.{◌≡◌, ℕ, ◌+◌, ◌<◌, List, [], ◌∷◌, ◌++◌, length, take, Option, Some, None, Result, Ok, Err, refl, sym, ap, ◌∙◌, subst, arith, add-one, append_assoc, append-nil, length-append, ◌⊎◌, inl, inr}
use Rattle.std.specs.Option.{option_to_list}
use Rattle.std.proofs.lemmas.Option.{slice_get_within}
use Rattle.std.proofs.lemmas.Bool.{cases_lt}
use Rattle.std.proofs.lemmas.List.{take-append-le}
use Rattle.std.proofs.Math.Seq.{take-append_seam, take-length}
use Rattle.query_model.specs.declared.line.Line.{Line}
use Rattle.query_model.specs.declared.line.Input.{Input}
use Rattle.query_model.specs.declared.fault.BadKind.{BadKind}
use Rattle.query_model.specs.declared.fault.BadInput.{BadInput}
use Rattle.query_model.specs.Pieces.{Bytes, pieces}
use Rattle.query_model.specs.Lines.{LineBehind}
use Rattle.query_model.specs.Reading.{kept, StandFor, Accepts, IsFirstUnmet, Refuses}
use Rattle.query_model.specs.Laws.{GrammarDecides, IsDecided}
use Rattle.query_model.proofs.ListFacts.{slice_get-append_left, slice_get-append_seam, take_one_more, slice_get_there}
use Rattle.query_model.proofs.LineLaws.{one_LineBehind, some_LineBehind}

pub kept-push : (marks : List (Option Line)) (mark : Option Line) → kept (marks ++ mark ∷ []) ≡ kept marks ++ option_to_list mark
kept-push [] None = refl
kept-push [] (Some l) = refl
kept-push (None ∷ ms) mark = kept-push ms mark
kept-push (Some l ∷ ms) mark = ap (λ ls. l ∷ ls) (kept-push ms mark)

-- one more piece, and the line or none that it stands for
pub StandFor-push : (shards : ℕ) (ps : List Bytes) (marks : List (Option Line)) (piece : Bytes) (mark : Option Line)
    → StandFor shards ps marks → LineBehind shards (kept marks) piece (Ok mark) → StandFor shards (ps ++ piece ∷ []) (marks ++ mark ∷ [])
StandFor-push shards ps marks piece mark s is = record {
  as_many = length-append marks (mark ∷ []) ∙ (ap (λ n. n + 1) s.as_many ∙ sym (length-append ps (piece ∷ [])));
  each = λ place p m there is_there. elim (cases_lt place (length ps)) [
    | inl low ↦
        let low' : place < length marks = rw s.as_many low in
        let before = s.each place p m (sym (slice_get-append_left ps (piece ∷ []) place low) ∙ there) (sym (slice_get-append_left marks (mark ∷ []) place low') ∙ is_there) in
        subst (λ ms. LineBehind shards (kept ms) p (Ok m)) (sym (take-append-le place marks (mark ∷ []) (omega arith))) before
    | inr high ↦
        let within : place < length (ps ++ piece ∷ []) = slice_get_within (ps ++ piece ∷ []) place p there in
        let last : place ≡ length ps = omega (arith, length-append ps (piece ∷ [])) in
        let at_end : place ≡ length marks = last ∙ sym s.as_many in
        let same : Some piece ≡ Some p = sym (slice_get-append_seam ps piece [] place last) ∙ there in
        let same_mark : Some mark ≡ Some m = sym (slice_get-append_seam marks mark [] place at_end) ∙ is_there in
        let is_piece : piece ≡ p = cc in
        let is_mark : mark ≡ m = cc in
        let front : marks ≡ take place (marks ++ mark ∷ []) = sym (ap (λ n. take n (marks ++ mark ∷ [])) at_end ∙ take-append_seam marks (mark ∷ [])) in
        subst (λ ms. LineBehind shards (kept ms) p (Ok m)) front
        (subst (λ x. LineBehind shards (kept marks) p (Ok x)) is_mark
        (subst (λ x. LineBehind shards (kept marks) x (Ok mark)) is_piece is))
  ];
}

-- no piece stands for no line
pub StandFor-none : (shards : ℕ) → StandFor shards [] []
StandFor-none shards = record { as_many = refl; each = λ place piece mark there is_there. absurd cc }

abbrev refusal : ℕ → BadKind → BadInput
refusal number kind = record { line = number; kind = kind }

-- the pieces, of which the first has this number, read behind these lines
abbrev pub Reads : ℕ → ℕ → List Line → List Bytes → Result (List Line) BadInput → Type 0
Reads shards number before [] given = given ≡ Ok before
Reads shards number before (piece ∷ ps) given =
    ((mark : Option Line) × LineBehind shards before piece (Ok mark) × Reads shards (number + 1) (before ++ option_to_list mark) ps given)
    ⊎ ((kind : BadKind) × LineBehind shards before piece (Err kind) × (given ≡ Err (refusal number kind)))

-- how pieces end
abbrev pub EndsAs : ℕ → List Bytes → Result (List Line) BadInput → Type 0
EndsAs shards ps (Ok lines) = (marks : List (Option Line)) × StandFor shards ps marks × (lines ≡ kept marks)
EndsAs shards ps (Err bad) = IsFirstUnmet shards ps bad

pub EndsAs-from_reads : (shards : ℕ) (ps done : List Bytes) (marks : List (Option Line)) (given : Result (List Line) BadInput)
    → StandFor shards done marks → Reads shards (length done + 1) (kept marks) ps given → EndsAs shards (done ++ ps) given
EndsAs-from_reads shards [] done marks (Ok lines) s r =
    let same : lines ≡ kept marks = cc in
    (marks, subst (λ ps. StandFor shards ps marks) (sym (append-nil done)) s, same)
EndsAs-from_reads shards [] done marks (Err bad) s r = absurd cc
EndsAs-from_reads shards (piece ∷ ps) done marks given s (inl m) =
    let one : length done + 1 ≡ length (done ++ piece ∷ []) = sym (length-append done (piece ∷ [])) in
    let next : Reads shards (length (done ++ piece ∷ []) + 1) (kept (marks ++ m.0 ∷ [])) ps given =
    subst (λ n. Reads shards (n + 1) (kept (marks ++ m.0 ∷ [])) ps given) one
    (subst (λ ls. Reads shards (length done + 1 + 1) ls ps given) (sym (kept-push marks m.0)) m.2) in
    subst (λ all. EndsAs shards all given) (append_assoc done (piece ∷ []) ps)
    (EndsAs-from_reads shards ps (done ++ piece ∷ []) (marks ++ m.0 ∷ []) given (StandFor-push shards done marks piece m.0 s m.1) next)
EndsAs-from_reads shards (piece ∷ ps) done marks (Ok lines) s (inr k) = absurd cc
EndsAs-from_reads shards (piece ∷ ps) done marks (Err bad) s (inr k) =
    let is : refusal (length done + 1) k.0 ≡ bad = cc in
    record {
      before = done;
      piece = piece;
      after = ps;
      cut = refl;
      number = sym (ap (λ b. b.line) is);
      marks = marks;
      stand = s;
      unmet = subst (λ b. LineBehind shards (kept marks) piece (Err b.kind)) is k.1;
    }

-- pieces that stand for lines or none are read as them, whatever comes behind
reads_from_StandFor : (shards : ℕ) (ps done more : List Bytes) (before : List Line) (marks : List (Option Line)) (given : Result (List Line) BadInput)
    → StandFor shards (done ++ ps) marks → before ≡ kept (take (length done) marks)
    → Reads shards (length (done ++ ps) + 1) (kept marks) more given → Reads shards (length done + 1) before (ps ++ more) given
reads_from_StandFor shards [] done more before marks given s front r =
    let all : length done ≡ length marks = sym (s.as_many ∙ ap length (append-nil done)) in
    let is : kept marks ≡ before = sym (front ∙ (ap (λ n. kept (take n marks)) all ∙ ap kept (take-length marks))) in
    subst (λ ls. Reads shards (length done + 1) ls more given) is
    (subst (λ ps. Reads shards (length ps + 1) (kept marks) more given) (append-nil done) r)
reads_from_StandFor shards (piece ∷ ps) done more before marks given s front r =
    let within : length done < length marks = omega (arith, s.as_many, length-append done (piece ∷ ps)) in
    let found = slice_get_there marks (length done) within in
    let each = s.each (length done) piece found.0 (slice_get-append_seam done piece ps (length done) refl) found.1 in
    let assoc : done ++ piece ∷ ps ≡ (done ++ piece ∷ []) ++ ps = sym (append_assoc done (piece ∷ []) ps) in
    let pushed : StandFor shards ((done ++ piece ∷ []) ++ ps) marks = subst (λ ps. StandFor shards ps marks) assoc s in
    let one : length (done ++ piece ∷ []) ≡ length done + 1 = length-append done (piece ∷ []) in
    let longer : before ++ option_to_list found.0 ≡ kept (take (length (done ++ piece ∷ [])) marks) =
    ap (λ ls. ls ++ option_to_list found.0) front
    ∙ (sym (kept-push (take (length done) marks) found.0)
    ∙ (ap kept (sym (take_one_more marks (length done) found.0 found.1))
    ∙ ap (λ n. kept (take n marks)) (sym (one ∙ add-one (length done))))) in
    let rest = reads_from_StandFor shards ps (done ++ piece ∷ []) more (before ++ option_to_list found.0) marks given pushed longer
    (subst (λ ps. Reads shards (length ps + 1) (kept marks) more given) assoc r) in
    inl (
      found.0,
      subst (λ ls. LineBehind shards ls piece (Ok found.0)) (sym front) each,
      subst (λ n. Reads shards (n + 1) (before ++ option_to_list found.0) (ps ++ more) given) one rest,
    )

pub reads_from_Accepts : (shards : ℕ) (ps : List Bytes) (marks : List (Option Line)) → StandFor shards ps marks → Reads shards 1 [] ps (Ok (kept marks))
reads_from_Accepts shards ps marks s =
    subst (λ ps. Reads shards 1 [] ps (Ok (kept marks))) (append-nil ps) (reads_from_StandFor shards ps [] [] [] marks (Ok (kept marks)) s refl refl)

pub reads_from_Refuses : (shards : ℕ) (ps : List Bytes) (bad : BadInput) → IsFirstUnmet shards ps bad → Reads shards 1 [] ps (Err bad)
reads_from_Refuses shards ps bad u =
    subst (λ ps. Reads shards 1 [] ps (Err bad)) (sym u.cut)
    (reads_from_StandFor shards u.before [] (u.piece ∷ u.after) [] u.marks (Err bad) u.stand refl
    (inr (bad.kind, u.unmet, ap (λ n. Err (refusal n bad.kind)) u.number)))

one_reading : GrammarDecides → (shards number : ℕ) (before : List Line) (ps : List Bytes) (a b : Result (List Line) BadInput)
    → Reads shards number before ps a → Reads shards number before ps b → a ≡ b
one_reading d shards number before [] a b r s = r ∙ sym s
one_reading d shards number before (piece ∷ ps) a b (inl m) (inl n) =
    let same : Ok m.0 ≡ Ok n.0 = one_LineBehind d shards before piece (Ok m.0) (Ok n.0) m.1 n.1 in
    let is : n.0 ≡ m.0 = cc in
    one_reading d shards (number + 1) (before ++ option_to_list m.0) ps a b m.2
    (subst (λ x. Reads shards (number + 1) (before ++ option_to_list x) ps b) is n.2)
one_reading d shards number before (piece ∷ ps) a b (inl m) (inr k) =
    let same : Ok m.0 ≡ Err k.0 = one_LineBehind d shards before piece (Ok m.0) (Err k.0) m.1 k.1 in absurd cc
one_reading d shards number before (piece ∷ ps) a b (inr k) (inl m) =
    let same : Ok m.0 ≡ Err k.0 = one_LineBehind d shards before piece (Ok m.0) (Err k.0) m.1 k.1 in absurd cc
one_reading d shards number before (piece ∷ ps) a b (inr j) (inr k) =
    let first : Result (Option Line) BadKind = Err j.0 in
    let other : Result (Option Line) BadKind = Err k.0 in
    let same : first ≡ other = one_LineBehind d shards before piece (Err j.0) (Err k.0) j.1 k.1 in
    let is : j.0 ≡ k.0 = cc in
    j.2 ∙ (ap (λ x. Err (refusal number x)) is ∙ sym k.2)

some_reading : GrammarDecides → (shards number : ℕ) (before : List Line) (ps : List Bytes) → (given : Result (List Line) BadInput) × Reads shards number before ps given
some_reading d shards number before [] = (Ok before, refl)
some_reading d shards number before (piece ∷ ps) = by (λ mark. some_reading d shards (number + 1) (before ++ option_to_list mark) ps) (some_LineBehind d shards before piece)
  where
    by : ((mark : Option Line) → (given : Result (List Line) BadInput) × Reads shards (number + 1) (before ++ option_to_list mark) ps given)
        → (found : Result (Option Line) BadKind) × LineBehind shards before piece found → (given : Result (List Line) BadInput) × Reads shards number before (piece ∷ ps) given
    by rest (Ok mark, is) = ((rest mark).0, inl (mark, is, (rest mark).1))
    by rest (Err kind, is) = (Err (refusal number kind), inr (kind, is, refl))

pub is_decided : GrammarDecides → (bytes : Bytes) (shards : ℕ) → IsDecided bytes shards
is_decided d bytes shards = record {
  some = by (some_reading d shards 1 [] (pieces bytes));
  one_input = λ a b x y.
      let one : Result (List Line) BadInput = Ok a.lines in
      let other : Result (List Line) BadInput = Ok b.lines in
      let same : one ≡ other = one_reading d shards 1 [] (pieces bytes) (Ok a.lines) (Ok b.lines) (input_read a x) (input_read b y) in
      let is : a.lines ≡ b.lines = cc in
      ap (λ ls. record { lines = ls }) is;
  one_refusal = λ a b x y.
      let one : Result (List Line) BadInput = Err a in
      let other : Result (List Line) BadInput = Err b in
      let same : one ≡ other = one_reading d shards 1 [] (pieces bytes) (Err a) (Err b) (reads_from_Refuses shards (pieces bytes) a x) (reads_from_Refuses shards (pieces bytes) b y) in
      cc;
  never_both = λ input bad x y.
      let same : Ok input.lines ≡ Err bad = one_reading d shards 1 [] (pieces bytes) (Ok input.lines) (Err bad) (input_read input x) (reads_from_Refuses shards (pieces bytes) bad y) in
      absurd cc;
}
  where
    input_read : (input : Input) → Accepts bytes shards input → Reads shards 1 [] (pieces bytes) (Ok input.lines)
    input_read input x = subst (λ ls. Reads shards 1 [] (pieces bytes) (Ok ls)) (sym x.lines) (reads_from_Accepts shards (pieces bytes) x.marks x.stand)

    by : (given : Result (List Line) BadInput) × Reads shards 1 [] (pieces bytes) given → ((input : Input) × Accepts bytes shards input) ⊎ ((bad : BadInput) × Refuses bytes shards bad)
    by (Ok lines, r) =
        let ends = EndsAs-from_reads shards (pieces bytes) [] [] (Ok lines) (StandFor-none shards) r in
        inl (record { lines = lines }, record { marks = ends.0; stand = ends.1; lines = ends.2 })
    by (Err bad, r) = inr (bad, EndsAs-from_reads shards (pieces bytes) [] [] (Err bad) (StandFor-none shards) r)
