use Rattle.std.proofs.Common.{◌≡◌, ℕ, ◌+◌, Bool, eqb, not, take, drop, sym, ap, ◌∙◌, arith, add_assoc}
use Rattle.std.proofs.lemmas.Bool.{cond-true, eq-eqb}
use Rattle.std.specs.List.{position_or_len}
use Rattle.query_text.proofs.FirstLemmas.{by_group}
use Rattle.query_text.proofs.cut.before.Goals as goal

pub groups-preserved : goal.groups-preserved
groups-preserved c =
    let bytes = c.args.bytes.now in
    let p : ℕ → Bool = λ byte. eqb byte c.args.at in
    let whole : c.lanes_before-passed.result ≡ 16 = c.if-passed-ne-LANES.false in
    let all : position_or_len p (take 16 (drop c.groups.from bytes)) ≡ 16 = sym c.lanes_before-passed.ensures ∙ whole in
    let more : position_or_len p (drop c.groups.from bytes) ≡ 16 + position_or_len p (drop (c.groups.from + 16) bytes) =
    by_group (λ byte. not (p byte)) bytes c.groups.from 16 (omega arith) ∙ cond-true _ _ _ (eq-eqb _ _ all) in
    record {
      within = omega arith;
      passed = c.groups.invariant.passed ∙ (ap (λ n. c.groups.from + n) more ∙ sym (add_assoc c.groups.from 16 _));
    }
