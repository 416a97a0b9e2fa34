-- The keys, one turn further.
use Rattle.std.proofs.Common.{◌≡◌, ℕ, suc, ◌+◌, ◌<◌, List, ◌∷◌, Bool, true, cond, length, ap, ◌∙◌, arith}
use Rattle.std.proofs.lemmas.List.Sums.{sum_by-cons}
use Rattle.query_model.specs.Order.{Asked}
use Rattle.fan_model.specs.Answered.{is_top, tops_in}
use Rattle.fan_model.specs.Comings.{Coming}
use Rattle.run_plan.specs.Turns.{begun_in}
use Rattle.run_desks.specs.declared.keys.DeskKeys.{DeskKeys}
use Rattle.run_desks.specs.Keys.{HasKeysFor}

tops_more : (all rest : List Asked) (query : Asked) → all ≡ query ∷ rest → tops_in all ≡ cond (is_top query.query.ask) 1 0 + tops_in rest
tops_more all rest query is = ap tops_in is ∙ sum_by-cons (λ (a : Asked). cond (is_top a.query.ask) 1 0) query rest

module _ {N : Type 0} where
  pub some_reply : (here behind : List Coming) (query : Asked) (keys : DeskKeys N) → begun_in here ≡ query ∷ begun_in behind → HasKeysFor here keys → 0 < length keys.replies.items
  some_reply here behind query keys begun has = let more : length (begun_in here) ≡ suc (length (begun_in behind)) = ap length begun in omega (arith, has.replies, more)

  pub some_inner : (here behind : List Coming) (query : Asked) (keys : DeskKeys N) → begun_in here ≡ query ∷ begun_in behind → HasKeysFor here keys
      → is_top query.query.ask ≡ true → 0 < length keys.inners.items
  some_inner here behind query keys begun has top =
      let more : tops_in (begun_in here) ≡ cond (is_top query.query.ask) 1 0 + tops_in (begun_in behind) = tops_more (begun_in here) (begun_in behind) query begun in
      let f : Bool → ℕ = λ b. cond b 1 0 in
      let one : f (is_top query.query.ask) ≡ f true = ap f top in
      omega (arith, has.inners, more, one)

  -- a key fewer, and for a query that ranks an inner key fewer
  pub keys_behind : (here behind : List Coming) (query : Asked) (old new : DeskKeys N) → begun_in here ≡ query ∷ begun_in behind → HasKeysFor here old
      → length old.replies.items ≡ suc (length new.replies.items)
      → length old.inners.items ≡ cond (is_top query.query.ask) 1 0 + length new.inners.items → HasKeysFor behind new
  keys_behind here behind query old new begun has replies inners =
      let more : length (begun_in here) ≡ suc (length (begun_in behind)) = ap length begun in
      let tops : tops_in (begun_in here) ≡ cond (is_top query.query.ask) 1 0 + tops_in (begun_in behind) = tops_more (begun_in here) (begun_in behind) query begun in
      record {
        replies = omega (arith, has.replies, more, replies);
        inners = omega (arith, has.inners, tops, inners);
      }

  pub keys_same : (here behind : List Coming) (keys : DeskKeys N) → begun_in here ≡ begun_in behind → HasKeysFor here keys → HasKeysFor behind keys
  keys_same here behind keys begun has =
      let more : length (begun_in here) ≡ length (begun_in behind) = ap length begun in
      let tops : tops_in (begun_in here) ≡ tops_in (begun_in behind) = ap tops_in begun in
      record {
        replies = omega (arith, has.replies, more);
        inners = omega (arith, has.inners, tops);
      }
