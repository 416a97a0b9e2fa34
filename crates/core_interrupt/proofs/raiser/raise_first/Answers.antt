use Rattle.std.proofs.Common.{◌≡◌, refl}
use Rattle.core_interrupt.proofs.Answering.{stands_so, answers_second_call, answers_second_gone}
use Rattle.core_interrupt.proofs.raiser.raise_first.Goals as goal

pub take_back-requires : goal.take_back-requires
take_back-requires g c =
    let sits = c.if-place.ensures.aware in
    record { aware = (c.args.object, record { of_home = sits.of_home; stands = stands_so _ _ _ _ sits.stands }) }

pub returns-then-try_again : goal.returns-then-try_again
returns-then-try_again g c =
    let tried = c.if-try_again.ensures.called c.take_back.result refl in
    let out : c.take_back.result ≡ c.object_in.result = cc in
    answers_second_call _ c.args.object c.take_back.result _ _ c.if-place.ensures.aware.stands c.take_back.ensures.had c.take_back.ensures.sits.stands _ _ c.object_in.result c.take_called-handler.result tried.0 _ tried.1 c.take_called-handler.ensures.had out
    c.take_called-handler.ensures.sits

pub returns : goal.returns
returns g c =
    let tried = c.if-try_again.ensures.gone c.take_back.result refl in
    let out : c.take_back.result ≡ c.object_in-2.result = cc in
    answers_second_gone _ c.args.object c.take_back.result _ _ c.if-place.ensures.aware.stands c.take_back.ensures.had c.take_back.ensures.sits.stands _ _ c.object_in-2.result c.try_again.ensures.of_home tried out
