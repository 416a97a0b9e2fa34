-- What is still to be written, place by place.
use Rattle.std.proofs.Common.{◌≡◌, ℕ, suc, ◌+◌, List, [], ◌∷◌, ◌++◌, length, Some, refl, ap, ◌∙◌, arith}
use Rattle.std.specs.Prelude.{drop, slice_get}
use Rattle.std.specs.List.{flat_map}
use Rattle.std.proofs.Math.Seq.{drop-length}
use Rattle.query_model.specs.declared.line.Input.{Input}
use Rattle.query_model.specs.declared.line.Line.{Line}
use Rattle.query_model.specs.declared.reply.Reply.{Reply}
use Rattle.query_model.specs.Order.{replies_of}
use Rattle.query_model.specs.Output.{output, reply_text}
use Rattle.query_model.specs.Pieces.{Bytes}
use Rattle.query_model.proofs.ListFacts.{drop_one_more}
use Rattle.fan_model.specs.Places.{IsReplyAt, owed_from}

abbrev text : ℕ × Reply → Bytes
text r = reply_text r.0 r.1

drop_at_place : {A : Type 0} (xs : List A) (place : ℕ) (x : A) → slice_get xs place ≡ Some x → drop place xs ≡ x ∷ drop (place + 1) xs
drop_at_place {A = A} xs place x at =
    let next : suc place ≡ place + 1 = omega arith in drop_one_more xs place x at ∙ ap (λ (n : ℕ). x ∷ drop n xs) next

pub owed_all : (input : Input) → owed_from input.lines 0 ≡ output input
unfolding owed_from output
owed_all input = refl

pub owed_next : (lines : List Line) (place number : ℕ) (reply : Reply) → IsReplyAt lines place number reply → owed_from lines place ≡ reply_text number reply ++ owed_from lines (place + 1)
unfolding owed_from
owed_next lines place number reply is = ap (flat_map text) (drop_at_place (replies_of lines) place (number, reply) is.at)

pub owed_last : (lines : List Line) → owed_from lines (length (replies_of lines)) ≡ []
unfolding owed_from
owed_last lines = ap (flat_map text) (drop-length (replies_of lines))
