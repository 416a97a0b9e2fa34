use Rattle.std.proofs.Common.{◌≡◌, Some, cond, length, refl, ap, sym, ◌∙◌, arith}
use Rattle.std.specs.Ordering.{nat_cmp}
use Rattle.std.specs.Cmp.Lexicographic.{slice_cmp}
use Rattle.std.specs.BTreeMap.{get, is_at}
use Rattle.word_table.proofs.NumberLemmas.{knows-back, knows-push, none-found, number-added, number-back}
use Rattle.word_table.proofs.dictionary.Dictionary.add.Goals as goal

pub returns-in_ok-insert-in-Some-clause-number : goal.returns-in_ok-insert-in-Some-clause-number
returns-in_ok-insert-in-Some-clause-number c = λ words knows. number-back words c.args.word.now c.in-Some.known (sym (knows.numbered c.args.word.now) ∙ (sym c.in_ok-old.ensures.old ∙ c.in-Some.is))

pub returns-in_ok-insert-in-Some-clause-knows : goal.returns-in_ok-insert-in-Some-clause-knows
returns-in_ok-insert-in-Some-clause-knows c = λ words knows.
    knows-back c.args.self.now (record { words = c.args.self.now.words; keys = c.args.self.now.keys; numbers = c.insert-in-Some.new.self; hints = c.args.self.now.hints }) words c.args.word.now c.len-number.result c.in-Some.known
    knows (sym (knows.numbered c.args.word.now) ∙ (sym c.in_ok-old.ensures.old ∙ c.in-Some.is)) refl refl
    (λ w. c.in_ok-insert-in-Some.ensures.updates.0 w ∙ ap (λ o. cond (is_at (slice_cmp nat_cmp c.args.word.now) w) (Some c.in-Some.known) o) (c.in_ok-old.ensures.updates.0 w))

pub returns-in_ok-put_behind-in-None-clause-number : goal.returns-in_ok-put_behind-in-None-clause-number
returns-in_ok-put_behind-in-None-clause-number c = λ words knows.
    let none = none-found words c.args.word.now (sym (knows.numbered c.args.word.now) ∙ (sym c.in_ok-old.ensures.old ∙ c.in-None.is)) in
    let last : c.len-number.result ≡ length words = omega (arith, c.len-number.ensures, c.args.self.now.words.ok, ap length knows.words_are) in
    number-added words c.args.word.now c.len-number.result last (omega (arith, none))

pub returns-in_ok-put_behind-in-None-clause-knows : goal.returns-in_ok-put_behind-in-None-clause-knows
returns-in_ok-put_behind-in-None-clause-knows c = λ words knows.
    let none = none-found words c.args.word.now (sym (knows.numbered c.args.word.now) ∙ (sym c.in_ok-old.ensures.old ∙ c.in-None.is)) in
    let last : c.len-number.result ≡ length words = omega (arith, c.len-number.ensures, c.args.self.now.words.ok, ap length knows.words_are) in
    knows-push c.args.self.now c.put_behind.new.self words c.args.word.now c.len-number.result knows (omega (arith, none)) last c.in_ok-put_behind-in-None.ensures.words c.in_ok-put_behind-in-None.ensures.keys
    (λ w. ap (λ m. get (slice_cmp nat_cmp) m w) c.put_behind.ensures.numbers ∙ c.in_ok-old.ensures.updates.0 w)
