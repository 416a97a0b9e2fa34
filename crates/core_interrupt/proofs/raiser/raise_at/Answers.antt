use Rattle.std.proofs.Common.{◌≡◌, refl}
use Rattle.core_interrupt.proofs.Answering.{stands_so, answers_as, answers_call, answers_late, answers_after_call, answers_gone}
use Rattle.core_interrupt.proofs.raiser.raise_at.Goals as goal

pub take_called-handler-requires-clause-calling : goal.take_called-handler-requires-clause-calling
take_called-handler-requires-clause-calling g c =
    let tried = c.in-HasHandler.ensures.tried c.args.object refl in
    (tried.0, record { of_home = c.try_call.ensures.of_home; stands = stands_so _ _ _ _ tried.1 })

pub returns-in-Empty : goal.returns-in-Empty
returns-in-Empty g c =
    let out : c.args.object ≡ c.object_in.result = cc in
    answers_as _ _ _ c.args.object c.object_in.result _ _ (c.in-Empty.ensures.tried c.args.object refl) out c.raise_first.ensures

pub returns-in-HasHandler : goal.returns-in-HasHandler
returns-in-HasHandler g c =
    let tried = c.in-HasHandler.ensures.tried c.args.object refl in
    let out : c.args.object ≡ c.object_in-in-HasHandler.result = cc in
    answers_call _ _ _ c.args.object c.object_in-in-HasHandler.result c.take_called-handler.result tried.0 _ tried.1 c.take_called-handler.ensures.had out c.take_called-handler.ensures.sits

pub returns-in-HasObject : goal.returns-in-HasObject
returns-in-HasObject g c =
    let out : c.args.object ≡ c.object_in-in-HasObject.result = cc in
    answers_late _ _ _ c.args.object c.object_in-in-HasObject.result c.try_call.ensures.of_home (c.in-HasObject.ensures.tried c.args.object refl) out

pub returns-in-Called : goal.returns-in-Called
returns-in-Called g c =
    let out : c.args.object ≡ c.object_in-in-Called.result = cc in
    answers_after_call _ _ _ c.args.object c.object_in-in-Called.result c.try_call.ensures.of_home (c.in-Called.ensures.tried c.args.object refl) out

pub returns-in-Ended : goal.returns-in-Ended
returns-in-Ended g c =
    let out : c.args.object ≡ c.object_in-in-Ended.result = cc in
    answers_gone _ _ _ c.args.object c.object_in-in-Ended.result c.try_call.ensures.of_home (c.in-Ended.ensures.tried c.args.object refl) out
