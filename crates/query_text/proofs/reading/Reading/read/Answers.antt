use Rattle.std.proofs.Common.{rules, ◌≡◌, [], length, arith, ap, sym, subst, Err}
use Rattle.query_model.specs.Pieces.{pieces}
use Rattle.query_model.specs.declared.fault.InputFault.TheVariants as fault
use Rattle.query_text.specs.Progress.{HasRead}
use Rattle.query_text.proofs.ReadLemmas.{read_none, read_more, read_all, read_bad, number_within}
use Rattle.query_text.proofs.reading.Reading.read.Goals as goal

pub pieces-init : goal.pieces-init
pieces-init c =
    rw c.new-pieces.ensures (subst (λ now. HasRead c.args.shards (pieces c.args.bytes.now) (pieces c.args.bytes.now) c.args.self now) (sym c.self.view_is) (read_none c.args.shards (pieces c.args.bytes.now) c.args.self))

pub overflow_add-number : goal.overflow_add-number
overflow_add-number c =
    let within = number_within c.args.bytes.now c.args.shards c.pieces.pieces c.args.self (record { lines = c.pieces.lines; number = c.pieces.number }) c.pieces.invariant in
    omega (arith, within, ap length c.in-Some.ensures.steps, c.requires)

pub returns-in-Err-clause-refused : goal.returns-in-Err-clause-refused
returns-in-Err-clause-refused c = λ bad is text rest ends read on.
    read_bad text c.args.bytes.now rest c.args.shards c.pieces.pieces c.next.new.self c.args.self c.pieces.lines c.pieces.number c.in-Some.piece.now bad ends read on c.pieces.invariant c.in-Some.ensures.steps
    (let same : c.in-Err.fault ≡ fault.Bad bad = cc in c.in-Err.ensures.refused bad (ap (λ f. Err f) same))

pub pieces-preserved : goal.pieces-preserved
pieces-preserved c =
    let m = c.in-Ok.ensures.ok in
    read_more c.args.shards (pieces c.args.bytes.now) c.pieces.pieces c.next.new.self c.args.self c.pieces.lines c.in-Ok.more c.pieces.number c.in-Some.piece.now m.0
    (λ ps marks piece mark s is. c.one_piece_more.ensures.more c.args.shards ps marks piece mark s is) c.pieces.invariant c.in-Some.ensures.steps m.1 m.2

pub returns-clause-more : goal.returns-clause-more
returns-clause-more c = λ text ends read.
    let nothing : c.pieces.pieces ≡ [] = search rules in
    read_all text c.args.bytes.now c.args.shards c.pieces.pieces c.args.self (record { lines = c.pieces.lines; number = c.pieces.number }) ends read c.pieces.invariant nothing

pub returns-clause-number : goal.returns-clause-number
returns-clause-number c =
    let within = number_within c.args.bytes.now c.args.shards c.pieces.pieces c.args.self (record { lines = c.pieces.lines; number = c.pieces.number }) c.pieces.invariant in
    omega (arith, within)
