-- What is written for an input.
use Rattle.std.specs.Prelude.{ℕ, ◌≡◌, ◌⊎◌, List, [], ◌∷◌, ◌++◌, Bool, true, false, codes, length}
use Rattle.std.specs.Fmt.{decimal}
use Rattle.std.specs.List.{flat_map}
use Rattle.query_model.specs.declared.line.Input.{Input}
use Rattle.query_model.specs.declared.fault.BadKind.{BadKind}
use Rattle.query_model.specs.declared.fault.BadKind.TheVariants as bad
use Rattle.query_model.specs.declared.fault.Limit.{Limit}
use Rattle.query_model.specs.declared.fault.Limit.TheVariants as limit
use Rattle.query_model.specs.declared.fault.BadInput.{BadInput}
use Rattle.query_model.specs.declared.reply.Reply.{Reply}
use Rattle.query_model.specs.declared.reply.Reply.TheVariants as reply
use Rattle.query_model.specs.Pieces.{Bytes, line_feed, space}
use Rattle.query_model.specs.Reading.{Accepts, Refuses}
use Rattle.query_model.specs.Order.{replies_of}

-- each id behind a space
abbrev pub ids_text : List ℕ → Bytes
ids_text ids = flat_map (λ id. space ∷ decimal id) ids

-- each id with its score behind a space
abbrev pub scores_text : List (ℕ × ℕ) → Bytes
scores_text scores = flat_map (λ pair. space ∷ (decimal pair.0 ++ (codes "=" ++ decimal pair.1))) scores

abbrev pub presence_text : Bool → Bytes
presence_text true = codes "yes"
presence_text false = codes "no"

-- the line of a reply to the query with this number
abbrev pub reply_text : ℕ → Reply → Bytes
reply_text n (reply.Find hits) =
    decimal n ++ (codes " find " ++ (decimal hits.total ++ (codes ":" ++ (ids_text hits.ids ++ line_feed ∷ []))))
reply_text n (reply.Count total) = decimal n ++ (codes " count " ++ (decimal total ++ line_feed ∷ []))
reply_text n (reply.Present present) = decimal n ++ (codes " exists " ++ (presence_text present ++ line_feed ∷ []))
reply_text n (reply.Top scores) =
    decimal n ++ (codes " top " ++ (decimal (length scores) ++ (codes ":" ++ (scores_text scores ++ line_feed ∷ []))))
reply_text n reply.Cancelled = decimal n ++ (codes " cancelled" ++ line_feed ∷ [])

-- what is written for an accepted input: the lines of the replies, in the order of answers
unfoldable pub output : Input → Bytes
output input = flat_map (λ r. reply_text r.0 r.1) (replies_of input.lines)

abbrev pub limit_text : Limit → Bytes
limit_text limit.Words = codes "too many words"
limit_text limit.Documents = codes "too many documents"
limit_text limit.Queries = codes "too many queries"
limit_text limit.Tasks = codes "too many tasks"
limit_text limit.Ticks = codes "too many ticks"
limit_text limit.Depth = codes "expression too deep"
limit_text limit.Tokens = codes "expression too long"

abbrev pub kind_text : BadKind → Bytes
kind_text bad.BadByte = codes "bad byte"
kind_text bad.UnknownCommand = codes "unknown command"
kind_text bad.BadNumber = codes "bad number"
kind_text bad.BadWord = codes "bad word"
kind_text bad.DuplicateDoc = codes "duplicate document"
kind_text (bad.BadExpr _) = codes "bad expression"
kind_text bad.MissingField = codes "missing field"
kind_text bad.ExtraField = codes "extra field"
kind_text (bad.Limit most) = limit_text most

-- what is written for a refusal
abbrev pub error_text : BadInput → Bytes
error_text bad = codes "error line " ++ (decimal bad.line ++ (codes ": " ++ (kind_text bad.kind ++ line_feed ∷ [])))

-- what is to be written for these bytes: the output of the input as which they are accepted, or the error line of their refusal
abbrev pub IsTextOf : Bytes → ℕ → Bytes → Type 0
IsTextOf bytes shards text =
    ((input : Input) × Accepts bytes shards input × (text ≡ output input))
    ⊎ ((bad : BadInput) × Refuses bytes shards bad × (text ≡ error_text bad))
