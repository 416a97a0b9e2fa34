-- The first piece of a text, the first field of a line and the first part of a field, by where they are cut.
use Rattle.std.proofs.Common.{◌≡◌, ℕ, [], ◌∷◌, ◌++◌, ◌+◌, ◌<◌, length, take, drop, get_or, Bool, true, false, ◌≤◌, ◌||◌, eqb, true≢false, sym, refl, ap, ◌∙◌, arith, append-nil, length-append}
use Rattle.std.specs.List.{All, AllByRecursion, onto_first, flat_map, position_or_len}
use Rattle.std.specs.Prelude.{filter, find, not}
use Rattle.std.proofs.lemmas.Bool.{lt-ltb, eqb-true, or_from, or_parts}
use Rattle.std.proofs.lemmas.List.Concat.{flat_map-append}
use Rattle.std.proofs.lemmas.List.Elements.{recursion_from_All, All-from_recursion, All-weaker}
use Rattle.std.proofs.lemmas.List.Splits.{slice_split_none, slice_split_at}
use Rattle.std.proofs.lemmas.Bool.Decides.{nat_tests}
use Rattle.std.proofs.Math.Seq.{take-append_seam}
use Rattle.query_model.specs.Pieces.{Bytes, fields, is_skipped, is_some_text, says_nothing, pieces, line_feed, space}
use Rattle.query_model.specs.Expressions.{apart, is_sign, parts}
use Rattle.query_text.specs.Cuts.{HasNoSpaceFirst, ends_run, IsAtEndOfRun}
use Rattle.query_text.proofs.FirstLemmas.{cut_here, found_near, front_clear}

last_piece : (b : ℕ) (bs : Bytes) → AllByRecursion (λ b. eqb b line_feed ≡ false) (b ∷ bs) → pieces (b ∷ bs) ≡ (b ∷ bs) ∷ []
unfolding pieces
last_piece b [] clear = rw clear.0 refl
last_piece b (c ∷ cs) clear = rw clear.0 (ap (onto_first b) (last_piece c cs clear.1))

first_piece : (front after : Bytes) → AllByRecursion (λ b. eqb b line_feed ≡ false) front → pieces (front ++ line_feed ∷ after) ≡ front ∷ pieces after
unfolding pieces
first_piece [] after clear = refl
first_piece (b ∷ bs) after clear = rw clear.0 (ap (onto_first b) (first_piece bs after clear.1))

pub pieces_last : (bytes front : Bytes) → eqb (length bytes) 0 ≡ false → All (λ b. eqb b line_feed ≡ false) front → bytes ≡ front → pieces bytes ≡ front ∷ pieces []
unfolding pieces
pieces_last bytes [] some clear whole = absurd (true≢false (ap (λ xs. eqb (length xs) 0) (sym whole) ∙ some))
pieces_last bytes (b ∷ bs) some clear whole = rw whole (last_piece b bs (recursion_from_All _ (b ∷ bs) clear))

pub pieces_cut : (bytes front after : Bytes) → All (λ b. eqb b line_feed ≡ false) front → bytes ≡ front ++ line_feed ∷ after → pieces bytes ≡ front ∷ pieces after
pieces_cut bytes front after clear whole = rw whole (first_piece front after (recursion_from_All _ front clear))

-- spaces before a text give no field and no part, and tell nothing
behind_spaces : {A : Type 0} (f : Bytes → A) → ((bs : Bytes) → f (space ∷ bs) ≡ f bs) → (front rest : Bytes) → AllByRecursion (λ b. b ≡ space) front → f (front ++ rest) ≡ f rest
behind_spaces f skips [] rest spaces = refl
behind_spaces f skips (b ∷ bs) rest spaces = ap (λ c. f (c ∷ (bs ++ rest))) spaces.0 ∙ (skips (bs ++ rest) ∙ behind_spaces f skips bs rest spaces.1)

fields-space : (bs : Bytes) → fields (space ∷ bs) ≡ fields bs
unfolding fields
fields-space bs = refl

parts-space : (bs : Bytes) → parts (space ∷ bs) ≡ parts bs
unfolding parts
parts-space bs = fields-space (flat_map apart bs)

find-space : (bs : Bytes) → find (λ b. not (eqb b space)) (space ∷ bs) ≡ find (λ b. not (eqb b space)) bs
find-space bs = refl

fields_behind : (line front rest : Bytes) → All (λ b. b ≡ space) front → line ≡ front ++ rest → fields line ≡ fields rest
fields_behind line front rest spaces whole = ap fields whole ∙ behind_spaces fields fields-space front rest (recursion_from_All _ front spaces)

parts_behind : (line front rest : Bytes) → All (λ b. b ≡ space) front → line ≡ front ++ rest → parts line ≡ parts rest
parts_behind line front rest spaces whole = ap parts whole ∙ behind_spaces parts parts-space front rest (recursion_from_All _ front spaces)

find_behind : (line front rest : Bytes) → All (λ b. b ≡ space) front → line ≡ front ++ rest → find (λ b. not (eqb b space)) line ≡ find (λ b. not (eqb b space)) rest
find_behind line front rest spaces whole =
    ap (find (λ b. not (eqb b space))) whole ∙ behind_spaces (find (λ b. not (eqb b space))) find-space front rest (recursion_from_All _ front spaces)

no_length : (bs : Bytes) → eqb (length bs) 0 ≡ true → bs ≡ []
no_length [] e = refl
no_length (b ∷ bs) e = absurd (grind (arith, nat_tests))

-- a line that is skipped, by what stands behind its spaces
pub skipped_empty : (line front rest : Bytes) → All (λ b. b ≡ space) front → line ≡ front ++ rest → eqb (length rest) 0 ≡ true → true ≡ is_skipped line
skipped_empty line front rest spaces whole none =
    sym (ap says_nothing (find_behind line front rest spaces whole ∙ ap (find (λ b. not (eqb b space))) (no_length rest none)))

first_found : (rest : Bytes) → HasNoSpaceFirst rest → eqb (length rest) 0 ≡ false → eqb (get_or rest 0 0) 35 ≡ says_nothing (find (λ b. not (eqb b space)) rest)
first_found [] first some = absurd (true≢false some)
first_found (b ∷ bs) first some = rw first refl

pub skipped_first : (line front rest : Bytes) → All (λ b. b ≡ space) front → line ≡ front ++ rest → HasNoSpaceFirst rest → eqb (length rest) 0 ≡ false → eqb (get_or rest 0 0) 35 ≡ is_skipped line
skipped_first line front rest spaces whole first some = first_found rest first some ∙ sym (ap says_nothing (find_behind line front rest spaces whole))

some_text : (b : ℕ) (bs : Bytes) → is_some_text (b ∷ bs) ≡ true
some_text b bs = lt-ltb 0 (length (b ∷ bs)) (omega arith)

-- a field before a space, and one at the end
field_before : (front after : Bytes) → is_some_text front ≡ true → All (λ b. eqb b space ≡ false) front → fields (front ++ space ∷ after) ≡ front ∷ fields after
unfolding fields
field_before front after some clear = ap (filter is_some_text) (slice_split_at (λ b. eqb b space) front space after clear refl) ∙ rw some refl

field_at_end : (front : Bytes) → is_some_text front ≡ true → All (λ b. eqb b space ≡ false) front → fields front ≡ front ∷ []
unfolding fields
field_at_end front some clear = ap (filter is_some_text) (slice_split_none (λ b. eqb b space) front clear) ∙ rw some refl

some_before : (rest front after : Bytes) → HasNoSpaceFirst rest → rest ≡ front ++ space ∷ after → is_some_text front ≡ true
some_before [] [] after first whole = absurd cc
some_before (r ∷ rs) [] after first whole = let same : r ≡ space = cc in absurd (true≢false (sym (ap (λ c. eqb c space) same) ∙ first))
some_before rest (b ∷ bs) after first whole = some_text b bs

some_whole : (front : Bytes) → eqb (length front) 0 ≡ false → is_some_text front ≡ true
some_whole [] some = absurd (true≢false some)
some_whole (b ∷ bs) some = some_text b bs

pub no_field : (line front rest : Bytes) → All (λ b. b ≡ space) front → line ≡ front ++ rest → eqb (length rest) 0 ≡ true → fields line ≡ []
unfolding fields
no_field line front rest spaces whole none = fields_behind line front rest spaces whole ∙ ap fields (no_length rest none)

pub field_cut : (line spaces rest front after : Bytes) → All (λ b. b ≡ space) spaces → line ≡ spaces ++ rest → HasNoSpaceFirst rest
    → All (λ b. eqb b space ≡ false) front → rest ≡ front ++ space ∷ after → fields line ≡ front ∷ fields after
field_cut line spaces rest front after are_spaces whole first clear cut =
    fields_behind line spaces rest are_spaces whole ∙ (ap fields cut ∙ field_before front after (some_before rest front after first cut) clear)

no_fields : fields [] ≡ []
unfolding fields
no_fields = refl

pub field_last : (line spaces rest front : Bytes) → All (λ b. b ≡ space) spaces → line ≡ spaces ++ rest → eqb (length rest) 0 ≡ false
    → All (λ b. eqb b space ≡ false) front → rest ≡ front → fields line ≡ front ∷ fields []
field_last line spaces rest front are_spaces whole some clear cut =
    fields_behind line spaces rest are_spaces whole
    ∙ (ap fields cut ∙ (field_at_end front (some_whole front (ap (λ xs. eqb (length xs) 0) (sym cut) ∙ some)) clear ∙ ap (λ fs. front ∷ fs) (sym no_fields)))

no_space_first : (line : Bytes) → eqb (get_or line 0 0) space ≡ false → HasNoSpaceFirst line
no_space_first [] other = tt
no_space_first (b ∷ bs) other = other

-- a field that begins the line, with a space behind it among the first n bytes
pub field_near : (line : Bytes) (n size : ℕ) → n ≤ length line → eqb (get_or line 0 0) space ≡ false → size ≡ position_or_len (λ b. eqb b space) (take n (drop 0 line)) → size < n
    → fields line ≡ take size line ∷ fields (drop (size + 1) line)
field_near line n size room other is near =
    let found = found_near space line n size room is near in
    field_cut line [] line (take size line) (drop (size + 1) line) (All-from_recursion (λ b. b ≡ space) [] tt) refl (no_space_first line other)
    (front_clear space line size found) (cut_here space line size found (omega (arith, room, near)))

-- what begins with a field has it as its first so many bytes
pub front_within : (rest front more : Bytes) → rest ≡ front ++ more → length front ≤ length rest
front_within rest front more whole = omega (arith, ap length whole, length-append front more)

pub front_in_place : (rest front more : Bytes) → rest ≡ front ++ more → take (length front) rest ≡ front
front_in_place rest front more whole = ap (take (length front)) whole ∙ take-append_seam front more

-- parts
pub no_part : (line front rest : Bytes) → All (λ b. b ≡ space) front → line ≡ front ++ rest → eqb (length rest) 0 ≡ true → parts line ≡ []
unfolding parts
no_part line front rest spaces whole none = parts_behind line front rest spaces whole ∙ (ap parts (no_length rest none) ∙ no_fields)

sign_is_no_space : (b : ℕ) → is_sign b ≡ true → eqb b space ≡ false
sign_is_no_space b e = by (eqb b space) refl
  where
    by : (c : Bool) → eqb b space ≡ c → c ≡ false
    by false is = refl
    by true is = let same : b ≡ space = eqb-true b space is in absurd (true≢false (sym e ∙ ap is_sign same))

apart-sign : (b : ℕ) → is_sign b ≡ true → apart b ≡ space ∷ b ∷ space ∷ []
apart-sign b e = rw e refl

apart-other : (b : ℕ) → is_sign b ≡ false → apart b ≡ b ∷ []
apart-other b e = rw e refl

parts-sign : (b : ℕ) (bs : Bytes) → is_sign b ≡ true → parts (b ∷ bs) ≡ (b ∷ []) ∷ parts bs
unfolding parts
parts-sign b bs e =
    ap (λ xs. fields (xs ++ flat_map apart bs)) (apart-sign b e)
    ∙ (fields-space (b ∷ space ∷ flat_map apart bs)
    ∙ field_before (b ∷ []) (flat_map apart bs) refl (All-from_recursion (λ c. eqb c space ≡ false) (b ∷ []) (sign_is_no_space b e, tt)))

pub sign_cut : (line front rest : Bytes) → All (λ b. b ≡ space) front → line ≡ front ++ rest → eqb (length rest) 0 ≡ false → is_sign (get_or rest 0 0) ≡ true
    → parts line ≡ take 1 rest ∷ parts (drop 1 rest)
sign_cut line front [] spaces whole some sign = absurd (true≢false some)
sign_cut line front (b ∷ bs) spaces whole some sign = parts_behind line front (b ∷ bs) spaces whole ∙ parts-sign b bs sign

apart_run : (run : Bytes) → AllByRecursion (λ b. ends_run b ≡ false) run → flat_map apart run ≡ run
apart_run [] clear = refl
apart_run (b ∷ bs) clear =
    ap (λ xs. xs ++ flat_map apart bs) (apart-other b (or_parts (eqb b space) (is_sign b) clear.0).1) ∙ ap (λ xs. b ∷ xs) (apart_run bs clear.1)

left_of : (x y : Bool) → y ≡ false → (x || y) ≡ x
left_of true y f = refl
left_of false y f = f

-- what stands behind a run begins with a space, once its signs stand apart
end_of_run : (d : ℕ) (ds : Bytes) → ends_run d ≡ true → (more : Bytes) × (flat_map apart (d ∷ ds) ≡ space ∷ more)
end_of_run d ds e = by (is_sign d) refl
  where
    by : (c : Bool) → is_sign d ≡ c → (more : Bytes) × (flat_map apart (d ∷ ds) ≡ space ∷ more)
    by true is = (d ∷ space ∷ flat_map apart ds, ap (λ xs. xs ++ flat_map apart ds) (apart-sign d is))
    by false is =
        let at : eqb d space ≡ true = sym (left_of (eqb d space) (is_sign d) is) ∙ e in
        (flat_map apart ds, ap (λ xs. xs ++ flat_map apart ds) (apart-other d is) ∙ ap (λ c. c ∷ flat_map apart ds) (eqb-true d space at))

parts-run : (run after : Bytes) → is_some_text run ≡ true → All (λ b. ends_run b ≡ false) run → IsAtEndOfRun after → parts (run ++ after) ≡ run ∷ parts after
unfolding parts
parts-run run [] some clear stops =
    ap fields (ap (flat_map apart) (append-nil run) ∙ apart_run run (recursion_from_All _ run clear))
    ∙ (field_at_end run some (All-weaker _ (λ b. eqb b space ≡ false) (λ b e. (or_parts (eqb b space) (is_sign b) e).0) run clear) ∙ ap (λ fs. run ∷ fs) (sym no_fields))
parts-run run (d ∷ ds) some clear stops =
    let end = end_of_run d ds stops in
    ap fields (flat_map-append apart run (d ∷ ds) ∙ (ap (λ xs. xs ++ flat_map apart (d ∷ ds)) (apart_run run (recursion_from_All _ run clear)) ∙ ap (λ xs. run ++ xs) end.1))
    ∙ (field_before run end.0 some (All-weaker _ (λ b. eqb b space ≡ false) (λ b e. (or_parts (eqb b space) (is_sign b) e).0) run clear)
    ∙ ap (λ fs. run ∷ fs) (sym (ap fields end.1 ∙ fields-space end.0)))

some_run : (rest run after : Bytes) → HasNoSpaceFirst rest → eqb (length rest) 0 ≡ false → is_sign (get_or rest 0 0) ≡ false → rest ≡ run ++ after → IsAtEndOfRun after → is_some_text run ≡ true
some_run rest (b ∷ bs) after first some other whole stops = some_text b bs
some_run [] [] after first some other whole stops = absurd (true≢false some)
some_run (r ∷ rs) [] [] first some other whole stops = absurd cc
some_run (r ∷ rs) [] (d ∷ ds) first some other whole stops =
    let same : r ≡ d = cc in
    absurd (true≢false (sym (ap ends_run same ∙ stops) ∙ or_from (eqb r space) (is_sign r) first other))

pub run_cut : (line front rest run after : Bytes) → All (λ b. b ≡ space) front → line ≡ front ++ rest → HasNoSpaceFirst rest → eqb (length rest) 0 ≡ false
    → is_sign (get_or rest 0 0) ≡ false → All (λ b. ends_run b ≡ false) run → rest ≡ run ++ after → IsAtEndOfRun after → parts line ≡ run ∷ parts after
run_cut line front rest run after spaces whole first some other clear cut stops =
    parts_behind line front rest spaces whole ∙ (ap parts cut ∙ parts-run run after (some_run rest run after first some other cut stops) clear stops)
