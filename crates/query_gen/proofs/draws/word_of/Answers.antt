use Rattle.std.proofs.Common.{◌∙◌, ap, sym, arith, [], ◌∷◌, ℕ, List}
use Rattle.query_gen.proofs.DigitLemmas.{one_digit, two_digits, three_digits}
use Rattle.query_gen.proofs.draws.word_of.Goals as goal

pub returns-then-number-lt10 : goal.returns-then-number-lt10
returns-then-number-lt10 c =
    c.word.ensures ∙ ((λ i. 119 ∷ c.digit-units.ensures i ∷ [])
    ∙ ap (λ (ds : List ℕ). 119 ∷ ds) (sym (one_digit c.args.number (omega (arith, c.if-number-lt10.true)))))

pub returns-then-number-lt100 : goal.returns-then-number-lt100
returns-then-number-lt100 c =
    c.word-then-number-lt100.ensures ∙ ((λ i. 119 ∷ c.digit-tens.ensures i ∷ c.digit-units.ensures i ∷ [])
    ∙ ap (λ (ds : List ℕ). 119 ∷ ds) (sym (two_digits c.args.number (omega (arith, c.if-number-lt10.false)) (omega (arith, c.if-number-lt100.true)))))

pub returns-else-number-lt100 : goal.returns-else-number-lt100
returns-else-number-lt100 c =
    c.word-else-number-lt100.ensures ∙ ((λ i. 119 ∷ c.digit-hundreds.ensures i ∷ c.digit-tens.ensures i ∷ c.digit-units.ensures i ∷ [])
    ∙ ap (λ (ds : List ℕ). 119 ∷ ds) (sym (three_digits c.args.number (omega (arith, c.if-number-lt100.false)) (omega (arith, c.requires)))))
