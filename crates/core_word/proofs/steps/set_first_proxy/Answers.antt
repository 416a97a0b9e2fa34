use Rattle.std.proofs.Common.{◌∙◌, arith}
use Rattle.core_word.proofs.Owing.{filled}
use Rattle.core_word.proofs.Setting.{looks_before_proxy, sets_proxy_first, made_aware}
use Rattle.core_word.proofs.steps.set_first_proxy.Goals as goal

pub load-seen-requires : goal.load-seen-requires
load-seen-requires g c =
    let home = c.requires.home in (
      c.put.ensures.of_home,
      omega (arith, home.words),
      looks_before_proxy _ _ _ _ _ _ (filled _ _ _ _ _ _ c.put.ensures.stands c.requires.holding.stands),
    )

pub returns-in-Some-clause-aware : goal.returns-in-Some-clause-aware
returns-in-Some-clause-aware g c inline is =
    let found = c.waiting_in.ensures.waiting inline (c.in-Some.is ∙ is) in
    let before = filled _ _ _ _ _ _ c.put.ensures.stands c.requires.holding.stands in
    record { of_home = c.load-seen.ensures.0 ∙ c.put.ensures.of_home; stands = made_aware _ _ _ _ _ _ _ (c.load-seen.ensures.2.1 inline found) before }

pub compare_exchange-found-requires : goal.compare_exchange-found-requires
compare_exchange-found-requires g c =
    let home = c.requires.home in
    let still = c.load-seen.ensures.2.0 (c.waiting_in.ensures.start c.in_default.is) in (
      c.load-seen.ensures.0 ∙ c.put.ensures.of_home,
      omega (arith, home.words),
      sets_proxy_first _ _ _ _ _ _ _ _ c.code-start.ensures c.code-proxy.ensures (still ∙ filled _ _ _ _ _ _ c.put.ensures.stands c.requires.holding.stands),
    )

pub returns-clause-aware : goal.returns-clause-aware
returns-clause-aware g c inline is =
    let found = c.waiting_in-2.ensures.waiting inline is in
    let still = c.load-seen.ensures.2.0 (c.waiting_in.ensures.start c.in_default.is) in
    let before = still ∙ filled _ _ _ _ _ _ c.put.ensures.stands c.requires.holding.stands in
    record { of_home = c.compare_exchange-found.ensures.0 ∙ c.load-seen.ensures.0 ∙ c.put.ensures.of_home; stands = made_aware _ _ _ _ _ _ _ (c.compare_exchange-found.ensures.2.0.1 inline found) before }
