-- Inputs with what answers them, line by line.
use Rattle.std.specs.Prelude.{◌≡◌, List, [], ◌∷◌, ◌++◌, codes}
use Rattle.std.specs.List.{flat_map}
use Rattle.query_model.specs.Pieces.{Bytes, line_feed}
use Rattle.query_model.specs.declared.line.Input.{Input}
use Rattle.query_model.specs.Reading.{Accepts}
use Rattle.query_model.specs.Output.{IsTextOf}
use Rattle.query_model.specs.Canonical.{canonical_text}
use Rattle.query_model.specs.Generated.{generated_input, summary_line}

-- lines, each ended by a line feed
abbrev pub joined : List Bytes → Bytes
joined lines = flat_map (λ l. l ++ line_feed ∷ []) lines

-- for these lines, over four shards, those lines are to be written
abbrev pub IsAnswered : List Bytes → List Bytes → Type 0
IsAnswered lines replies = IsTextOf (joined lines) 4 (joined replies)

-- one line that is refused, with this text
abbrev pub IsRefusedAlone : Bytes → Bytes → Type 0
IsRefusedAlone l text = IsAnswered (l ∷ []) ((codes "error line 1: " ++ text) ∷ [])

-- a query with a delay is answered at the tick line that makes it due
abbrev pub AnswersWhenDue : Type 0
AnswersWhenDue =
    IsAnswered (codes "doc 1 a" ∷ codes "after 2 count a" ∷ codes "count b" ∷ codes "tick 1" ∷ codes "tick 1" ∷ [])
    (codes "2 count 0" ∷ codes "1 count 1" ∷ [])

-- two queries are due at one line: the earlier due tick comes first
abbrev pub AnswersInOrderOfDueTicks : Type 0
AnswersInOrderOfDueTicks =
    IsAnswered (codes "doc 1 a" ∷ codes "after 256 count a" ∷ codes "tick 255" ∷ codes "after 1 count a" ∷ codes "tick 1" ∷ [])
    (codes "1 count 1" ∷ codes "2 count 1" ∷ [])

-- a query that is never due comes last, cancelled
abbrev pub CancelsWhatIsNeverDue : Type 0
CancelsWhatIsNeverDue =
    IsAnswered (codes "after 5 find a" ∷ [])
    (codes "1 cancelled" ∷ [])

-- the greater score first, then the smaller id; a word that no document has weighs nothing
abbrev pub RanksByScore : Type 0
RanksByScore =
    IsAnswered (codes "doc 1 a b" ∷ codes "doc 2 a b" ∷ codes "doc 3 c" ∷ codes "top 2 a b zzz" ∷ codes "top 5 c" ∷ [])
    (codes "1 top 2: 1=2 2=2" ∷ codes "2 top 1: 3=3" ∷ [])

-- a repeat among the words of a query counts once, one in a document each time
abbrev pub CountsRepeatsOnce : Type 0
CountsRepeatsOnce =
    IsAnswered (codes "doc 1 a a" ∷ codes "doc 2 a" ∷ codes "top 9 a a" ∷ [])
    (codes "1 top 2: 1=2 2=1" ∷ [])

-- a document behind a query is none of its documents
abbrev pub AnswersOverNoDocuments : Type 0
AnswersOverNoDocuments =
    IsAnswered (codes "count a" ∷ codes "doc 1 a" ∷ [])
    (codes "1 count 0" ∷ [])

-- also where the query is answered later
abbrev pub AnswersOverDocumentsBefore : Type 0
AnswersOverDocumentsBefore =
    IsAnswered (codes "doc 1 a" ∷ codes "count a" ∷ codes "doc 2 a" ∷ codes "count a" ∷ codes "after 1 count a" ∷ codes "doc 3 a" ∷ codes "tick 1" ∷ [])
    (codes "1 count 1" ∷ codes "2 count 2" ∷ codes "3 count 2" ∷ [])

-- weights and scores are over the documents before the query
abbrev pub WeighsDocumentsBefore : Type 0
WeighsDocumentsBefore =
    IsAnswered (codes "doc 1 a" ∷ codes "top 2 a" ∷ codes "doc 2 b" ∷ codes "top 2 a" ∷ [])
    (codes "1 top 1: 1=1" ∷ codes "2 top 1: 1=2" ∷ [])

abbrev pub NegatesOverDocumentsBefore : Type 0
NegatesOverDocumentsBefore =
    IsAnswered (codes "find !a" ∷ codes "doc 5 b" ∷ codes "find !a" ∷ [])
    (codes "1 find 0:" ∷ codes "2 find 1: 5" ∷ [])

-- an id with a zero before it is the same id
abbrev pub RefusesARepeatedId : Type 0
RefusesARepeatedId =
    IsAnswered (codes "doc 1 a" ∷ codes "find a" ∷ codes "doc 01 b" ∷ [])
    (codes "error line 3: duplicate document" ∷ [])

-- a cancel line acts before the due line; behind the answer it does nothing
abbrev pub CancelsBeforeDue : Type 0
CancelsBeforeDue =
    IsAnswered (codes "doc 1 a" ∷ codes "after 2 count a" ∷ codes "after 2 exists a" ∷ codes "cancel 1" ∷ codes "tick 2" ∷ codes "cancel 2" ∷ [])
    (codes "1 cancelled" ∷ codes "2 exists yes" ∷ [])

-- a cancel line before its query does nothing, and a second one neither
abbrev pub CancelsOnceBehindTheQuery : Type 0
CancelsOnceBehindTheQuery =
    IsAnswered (codes "cancel 1" ∷ codes "after 5 find a" ∷ codes "cancel 1" ∷ codes "cancel 1" ∷ codes "count a" ∷ [])
    (codes "1 cancelled" ∷ codes "2 count 0" ∷ [])

-- a query without delay is answered at its line
abbrev pub CancelsNoQueryWithoutDelay : Type 0
CancelsNoQueryWithoutDelay =
    IsAnswered (codes "doc 1 a" ∷ codes "count a" ∷ codes "cancel 1" ∷ codes "cancel 7" ∷ [])
    (codes "1 count 1" ∷ [])

-- a cancel line behind the due line is too late, whatever ticks come later
abbrev pub DueLineIsTheFirst : Type 0
DueLineIsTheFirst =
    IsAnswered (codes "doc 1 a" ∷ codes "after 2 count a" ∷ codes "tick 3" ∷ codes "cancel 1" ∷ codes "tick 5" ∷ [])
    (codes "1 count 1" ∷ [])

-- of one line the earlier due tick comes first, then the smaller number
abbrev pub OneLineOrdersByDueTick : Type 0
OneLineOrdersByDueTick =
    IsAnswered (codes "doc 1 a" ∷ codes "after 3 count a" ∷ codes "after 1 exists a" ∷ codes "after 3 find a" ∷ codes "tick 9" ∷ [])
    (codes "2 exists yes" ∷ codes "1 count 1" ∷ codes "3 find 1: 1" ∷ [])

abbrev pub RefusesTooManyTicks : Type 0
RefusesTooManyTicks =
    IsAnswered (codes "tick 10000000" ∷ codes "tick 1" ∷ [])
    (codes "error line 2: too many ticks" ∷ [])

abbrev pub AnswersTwoDocuments : Type 0
AnswersTwoDocuments =
    IsAnswered (codes "doc 7 red apple" ∷ codes "doc 4 red" ∷ codes "find red" ∷ [])
    (codes "1 find 2: 4 7" ∷ [])

abbrev pub AnswersComplements : Type 0
AnswersComplements =
    IsAnswered (codes "doc 7 red apple" ∷ codes "doc 4 red" ∷ codes "doc 9 green" ∷ codes "find !red" ∷ codes "count !red | red" ∷ [])
    (codes "1 find 1: 9" ∷ codes "2 count 3" ∷ [])

-- a priority changes no reply
abbrev pub AnswersByPriority : Type 0
AnswersByPriority =
    IsAnswered (codes "doc 5 a" ∷ codes "hi exists a" ∷ codes "lo exists b" ∷ [])
    (codes "1 exists yes" ∷ codes "2 exists no" ∷ [])

-- capitals, runs of spaces, empty lines and comments
abbrev pub ReadsCapitals : Type 0
ReadsCapitals =
    IsAnswered (codes "DOC  1 Red" ∷ codes " " ∷ codes "# note" ∷ codes "find RED" ∷ [])
    (codes "1 find 1: 1" ∷ [])

-- an everyday file
abbrev pub AnswersACatalogue : Type 0
AnswersACatalogue =
    IsAnswered (codes "# catalogue" ∷ codes "doc 101 the quick brown fox" ∷ codes "doc 102 the lazy dog" ∷ codes "doc 103 quick dog training" ∷ codes "hi find quick !fox" ∷ codes "count the dog" ∷ codes "after 3 top 2 quick dog" ∷ codes "exists cat" ∷ codes "tick 5" ∷ codes "find the" ∷ [])
    (codes "1 find 1: 103" ∷ codes "2 count 1" ∷ codes "4 exists no" ∷ codes "3 top 2: 103=2 101=1" ∷ codes "5 find 2: 101 102" ∷ [])

-- lines that are refused alone, by their texts

abbrev pub UnknownCommandAlone : Type 0
UnknownCommandAlone =
    IsRefusedAlone (codes "findx a") (codes "unknown command")
    × IsRefusedAlone (codes "after 1 tick 1") (codes "unknown command")
    × IsRefusedAlone (codes "hi lo find a") (codes "unknown command")
    × IsRefusedAlone (codes "lo after 1 find a") (codes "unknown command")
    × IsRefusedAlone (codes "lo tick") (codes "unknown command")

abbrev pub BadNumberAlone : Type 0
BadNumberAlone =
    IsRefusedAlone (codes "doc x") (codes "bad number")
    × IsRefusedAlone (codes "doc 4294967296") (codes "bad number")
    × IsRefusedAlone (codes "tick 0") (codes "bad number")
    × IsRefusedAlone (codes "tick 10000001") (codes "bad number")
    × IsRefusedAlone (codes "after 0 find a") (codes "bad number")
    × IsRefusedAlone (codes "after 0 top") (codes "bad number")
    × IsRefusedAlone (codes "top 0 a") (codes "bad number")
    × IsRefusedAlone (codes "top 101 a") (codes "bad number")
    × IsRefusedAlone (codes "cancel 0") (codes "bad number")
    × IsRefusedAlone (codes "cancel 50001") (codes "bad number")

abbrev pub BadWordAlone : Type 0
BadWordAlone =
    IsRefusedAlone (codes "doc 1 a-b") (codes "bad word")
    × IsRefusedAlone (codes "find a-b") (codes "bad word")
    × IsRefusedAlone (codes "find ) a-") (codes "bad word")
    × IsRefusedAlone (codes "top 1 a!") (codes "bad word")

abbrev pub MissingFieldAlone : Type 0
MissingFieldAlone =
    IsRefusedAlone (codes "doc") (codes "missing field")
    × IsRefusedAlone (codes "tick") (codes "missing field")
    × IsRefusedAlone (codes "cancel") (codes "missing field")
    × IsRefusedAlone (codes "after") (codes "missing field")
    × IsRefusedAlone (codes "after 1") (codes "missing field")
    × IsRefusedAlone (codes "after 1 lo") (codes "missing field")
    × IsRefusedAlone (codes "hi") (codes "missing field")
    × IsRefusedAlone (codes "top") (codes "missing field")
    × IsRefusedAlone (codes "top 1") (codes "missing field")

abbrev pub ExtraFieldAlone : Type 0
ExtraFieldAlone =
    IsRefusedAlone (codes "tick 1 2") (codes "extra field")
    × IsRefusedAlone (codes "cancel 1 1") (codes "extra field")

-- one carriage return at an end is taken off, and no line feed is needed at the end
abbrev pub CutsAtLineFeeds : Type 0
CutsAtLineFeeds = IsTextOf (codes "DOC  1 Red" ++ ((13 ∷ []) ++ ((10 ∷ []) ++ ((13 ∷ []) ++ ((10 ∷ []) ++ (codes "# note" ++ ((13 ∷ []) ++ ((10 ∷ []) ++ (codes "find RED"))))))))) 4 (codes "1 find 1: 1" ++ ((10 ∷ [])))

-- an input that ends in a word
abbrev pub ReadsACutWord : Type 0
ReadsACutWord = IsTextOf (codes "doc 7 red apple" ++ ((10 ∷ []) ++ (codes "doc 4 red" ++ ((10 ∷ []) ++ (codes "find re"))))) 4 (codes "1 find 0:" ++ ((10 ∷ [])))

-- a last piece that is a carriage return alone is skipped
abbrev pub SkipsALastReturn : Type 0
SkipsALastReturn = IsTextOf (codes "count a" ++ ((10 ∷ []) ++ ((13 ∷ [])))) 4 (codes "1 count 0" ++ ((10 ∷ [])))

-- bytes that are not printable ASCII, and a second carriage return
abbrev pub RefusesBytes : Type 0
RefusesBytes = IsTextOf (codes "find a" ++ ((128 ∷ []) ++ ((10 ∷ [])))) 4 (codes "error line 1: bad byte" ++ ((10 ∷ [])))
    × IsTextOf (codes "find a" ++ ((13 ∷ []) ++ ((13 ∷ []) ++ ((10 ∷ []))))) 4 (codes "error line 1: bad byte" ++ ((10 ∷ [])))
    × IsTextOf (codes "find a" ++ (0 ∷ [])) 4 (codes "error line 1: bad byte" ++ ((10 ∷ [])))

abbrev pub RefusesNoExpression : Type 0
RefusesNoExpression = IsRefusedAlone (codes "find") (codes "bad expression") × IsRefusedAlone (codes "after 3 hi exists") (codes "bad expression")

-- an input as it is read, and its canonical text
abbrev pub WritesCanonically : Type 0
WritesCanonically = (input : Input) × Accepts (joined (codes "DOC 04 B  a" ∷ codes "after 7 mid find ((a|b) c)" ∷ codes "LO top 03 a" ∷ codes "cancel 007" ∷ codes "tick 010" ∷ codes "hi count a b c" ∷ codes "count a (b c)" ∷ codes "count (a|b)|c|(d|e)" ∷ codes "exists !(a b)|!(a|b)|!!a" ∷ codes "find (((a b)))|c (d) !(e)" ∷ [])) 4 input × (canonical_text input ≡ joined (codes "doc 4 b a" ∷ codes "after 7 find (a | b) c" ∷ codes "lo top 3 a" ∷ codes "cancel 7" ∷ codes "tick 10" ∷ codes "hi count a b c" ∷ codes "count a (b c)" ∷ codes "count a | b | c | (d | e)" ∷ codes "exists !(a b) | !(a | b) | !!a" ∷ codes "find a b | c d !e" ∷ []))
    × Accepts (canonical_text input) 4 input

-- the canonical text of a generated input
abbrev pub GeneratesLines : Type 0
GeneratesLines = canonical_text (generated_input 0 1 20) ≡ joined (codes "doc 1 w424 w437 w236 w125 w391 w184 w475 w264 w139 w3 w482 w382 w145 w480 w22 w245 w478 w431 w483 w134 w69 w187 w138 w113 w383 w341 w351 w11 w142 w417 w276 w150 w384 w489 w263 w274 w499 w364 w454 w16 w379 w57 w317 w41 w332 w407 w167 w424" ∷ codes "lo find w291 w65" ∷ codes "lo find w475 !w370" ∷ codes "find w359 | w44" ∷ codes "hi exists w406 w185" ∷ codes "hi find w159 | w436" ∷ codes "hi find w198 w44" ∷ codes "lo count w144" ∷ codes "top 6 w75 w8" ∷ codes "hi find w226 w261" ∷ codes "after 657 lo count w473" ∷ codes "tick 286" ∷ codes "lo top 6 w65 w110" ∷ codes "lo find w65 w345" ∷ codes "exists w280 w58" ∷ codes "after 564 lo count w245" ∷ codes "hi exists w75 w398" ∷ codes "lo find w366 !w488" ∷ codes "exists w313 w305" ∷ codes "top 7 w208 w288" ∷ codes "after 915 lo count w498" ∷ codes "lo find w255 | w144" ∷ codes "tick 214" ∷ [])

-- the summary lines of small generated inputs
abbrev pub SumsUp : Type 0
SumsUp =
    (summary_line 5 0 0 ≡ codes "documents 0 queries 0 lines 0 bytes 0 sum 0" ++ (10 ∷ []))
    × (summary_line 0 1 20 ≡ codes "documents 1 queries 20 lines 20 bytes 224 sum 16040" ++ (10 ∷ []))
    × (summary_line 18446744073709551615 3 12 ≡ codes "documents 3 queries 12 lines 12 bytes 125 sum 8527" ++ (10 ∷ []))
