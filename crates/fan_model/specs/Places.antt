-- The replies of an input by their places in the order of answers.
use Rattle.std.specs.Prelude.{◌≡◌, ℕ, List, drop, slice_get, Some}
use Rattle.std.specs.List.{flat_map}
use Rattle.query_model.specs.declared.line.Line.{Line}
use Rattle.query_model.specs.declared.reply.Reply.{Reply}
use Rattle.query_model.specs.Pieces.{Bytes}
use Rattle.query_model.specs.Order.{replies_of}
use Rattle.query_model.specs.Output.{reply_text}

-- the reply at this place, from 0, is this one to the query with this number
pub record IsReplyAt (lines : List Line) (place number : ℕ) (reply : Reply) : Type 0 where
  pub at : slice_get (replies_of lines) place ≡ Some (number, reply)

-- what is still to be written from a place on
unfoldable pub owed_from : List Line → ℕ → Bytes
owed_from lines place = flat_map (λ r. reply_text r.0 r.1) (drop place (replies_of lines))
