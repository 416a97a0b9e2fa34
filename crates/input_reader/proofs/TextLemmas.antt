-- What one more chunk makes of what was read so far, and what is left of it at the end.
use Rattle.std.proofs.Common.{◌≡◌, ℕ, ◌+◌, ◌≤◌, ◌==◌, ◌||◌, [], ◌∷◌, ◌++◌, length, Result, Ok, Err, refl, sym, ap, ◌∙◌, subst, arith, append_assoc, append-nil, length-append, ◌⊎◌, inl, inr}
use Rattle.std.specs.Result.{IfOk}
use Rattle.std.specs.List.{list_any}
use Rattle.std.proofs.lemmas.List.Folds.{list_any-append}
use Rattle.query_model.specs.declared.fault.BadInput.{BadInput}
use Rattle.query_model.specs.Pieces.{Bytes, line_feed}
use Rattle.query_model.specs.Reading.{Refuses}
use Rattle.query_text.specs.Progress.{ReadSoFar, EndsLine, HasReadText}
use Rattle.input_reader.specs.declared.text.ReadLines.TheVariants.{UpTo, Refused}
use Rattle.input_reader.specs.Texts.{EndsInFeed, HasNoFeed, IsReadAs}

-- what follows from what an answer that is Ok says
pub if_ok : {X E : Type 0} (r : Result X E) {P Q : X → Type 0} → IfOk r P → ((x : X) → P x → Q x) → IfOk r Q
if_ok (Ok x) p more = more x p
if_ok (Err e) p more = tt

-- a text behind which another ends a line ends it too
behind_feed : (text closed : Bytes) → EndsInFeed closed → EndsInFeed (text ++ closed)
behind_feed text closed (front, is) = (text ++ front, ap (λ c. text ++ c) is ∙ sym (append_assoc text front (line_feed ∷ [])))

module _ (shards : ℕ) (text tail : Bytes) (reading : ReadSoFar) where
  -- the line that is open is refused, and nothing comes behind it
  pub last_refused : (bad : BadInput) → ((t rest : Bytes) → EndsLine t → HasReadText shards t reading → EndsLine tail ⊎ (rest ≡ []) → Refuses (t ++ (tail ++ rest)) shards bad)
      → IsReadAs shards text tail (UpTo reading) → Refuses text shards bad
  last_refused bad refuses (closed, is, ends, read, few, none) =
      subst (λ t. Refuses t shards bad) (ap (λ t. closed ++ t) (append-nil tail) ∙ sym is) (refuses closed [] ends read (inr refl))

  -- a chunk without a line feed
  pub none_closed : (chunk : Bytes) → HasNoFeed chunk → IsReadAs shards text tail (UpTo reading) → IsReadAs shards (text ++ chunk) (tail ++ chunk) (UpTo reading)
  none_closed chunk clear (closed, is, ends, read, few, none) =
      (closed, ap (λ t. t ++ chunk) is ∙ append_assoc closed tail chunk, ends, read, few, list_any-append (λ b. b == line_feed) tail chunk ∙ (ap (λ c. c || list_any (λ b. b == line_feed) chunk) none ∙ clear))

  module _ (chunk closed rest whole : Bytes) (parts : chunk ≡ closed ++ rest) (feed : EndsInFeed closed) (whole_is : whole ≡ tail ++ closed) where
    whole_ends : EndsInFeed whole
    whole_ends = subst EndsInFeed (sym whole_is) (behind_feed tail closed feed)

    -- the lines that end in it were read
    pub some_closed : (more : ReadSoFar) → HasNoFeed rest → ((t : Bytes) → EndsLine t → HasReadText shards t reading → HasReadText shards (t ++ whole) more) → more.number ≤ reading.number + length whole
        → IsReadAs shards text tail (UpTo reading) → IsReadAs shards (text ++ chunk) rest (UpTo more)
    some_closed more clear reads number (before, is, ends, read, few, none) =
        let all : text ++ chunk ≡ (before ++ whole) ++ rest =
        ap (λ t. t ++ chunk) is ∙ (ap (λ p. (before ++ tail) ++ p) parts
        ∙ (sym (append_assoc (before ++ tail) closed rest) ∙ ap (λ t. t ++ rest) (append_assoc before tail closed ∙ ap (λ t. before ++ t) (sym whole_is)))) in
        (before ++ whole, all, inr (behind_feed before whole whole_ends), reads before ends read, omega (arith, number, few, length-append before whole), clear)

    -- one of them is refused
    pub one_refused : (bad : BadInput) → ((t left : Bytes) → EndsLine t → HasReadText shards t reading → EndsLine whole ⊎ (left ≡ []) → Refuses (t ++ (whole ++ left)) shards bad)
        → IsReadAs shards text tail (UpTo reading) → (left : Bytes) → Refuses ((text ++ chunk) ++ left) shards bad
    one_refused bad refuses (before, is, ends, read, few, none) left =
        let all : before ++ (whole ++ (rest ++ left)) ≡ (text ++ chunk) ++ left =
        ap (λ w. before ++ (w ++ (rest ++ left))) whole_is
        ∙ (sym (append_assoc before (tail ++ closed) (rest ++ left))
        ∙ (ap (λ t. t ++ (rest ++ left)) (sym (append_assoc before tail closed))
        ∙ (sym (append_assoc ((before ++ tail) ++ closed) rest left)
        ∙ (ap (λ t. t ++ left) (append_assoc (before ++ tail) closed rest)
        ∙ ap (λ t. t ++ left) (ap (λ t. t ++ (closed ++ rest)) (sym is) ∙ ap (λ p. text ++ p) (sym parts)))))) in
        subst (λ t. Refuses t shards bad) all (refuses before (rest ++ left) ends read (inl (inr whole_ends)))

-- a refusal stays, whatever comes behind it
pub refused_more : (shards : ℕ) (text chunk tail : Bytes) (bad : BadInput) → IsReadAs shards text tail (Refused bad) → IsReadAs shards (text ++ chunk) tail (Refused bad)
refused_more shards text chunk tail bad (none, refuses) = (none, λ rest. subst (λ t. Refuses t shards bad) (sym (append_assoc text chunk rest)) (refuses (chunk ++ rest)))

pub refused_whole : (shards : ℕ) (text tail : Bytes) (bad : BadInput) → IsReadAs shards text tail (Refused bad) → Refuses text shards bad
refused_whole shards text tail bad (none, refuses) = subst (λ t. Refuses t shards bad) (append-nil text) (refuses [])
