-- What the calls of a hook leave, all together.
use Rattle.std.specs.Prelude.{◌≡◌, ℕ, ◌+◌, List, ◌++◌, Bool, true, false, nat_lt, Option, Some, None}
use Rattle.query_model.specs.Order.{Asked}
use Rattle.fan_model.specs.Comings.{Coming}

-- whether a query before which so many were answered is early
abbrev pub is_early : Option ℕ → ℕ → Bool
is_early None answered = true
is_early (Some stop_at) answered = nat_lt answered stop_at

module _ {W X : Type 0} (does : ℕ → Coming → W → Bool → W → Type 0) (answered : W → ℕ) (kept : W → List X) (gives : Asked → List X) where
  -- Each query that is begun counts as answered. An early one gives something to the list, a late one or a cancelled one nothing.
  pub record KeepsEarly (stop_at : Option ℕ) : Type 0 where
    pub counts : (place : ℕ) (asked : Asked) (w v : W) → does place (Coming.begins asked) w true v → answered v ≡ answered w + 1
    pub early : (place : ℕ) (asked : Asked) (w v : W) → does place (Coming.begins asked) w true v → is_early stop_at (answered w) ≡ true → kept v ≡ kept w ++ gives asked
    pub late : (place : ℕ) (asked : Asked) (w v : W) → does place (Coming.begins asked) w true v → is_early stop_at (answered w) ≡ false → kept v ≡ kept w
    pub cancelled : (place : ℕ) (asked : Asked) (w v : W) → does place (Coming.cancels asked) w true v → (answered v ≡ answered w) × (kept v ≡ kept w)

  -- the same of a list to which the late ones give
  pub record KeepsLate (stop_at : Option ℕ) : Type 0 where
    pub counts : (place : ℕ) (asked : Asked) (w v : W) → does place (Coming.begins asked) w true v → answered v ≡ answered w + 1
    pub early : (place : ℕ) (asked : Asked) (w v : W) → does place (Coming.begins asked) w true v → is_early stop_at (answered w) ≡ true → kept v ≡ kept w
    pub late : (place : ℕ) (asked : Asked) (w v : W) → does place (Coming.begins asked) w true v → is_early stop_at (answered w) ≡ false → kept v ≡ kept w ++ gives asked
    pub cancelled : (place : ℕ) (asked : Asked) (w v : W) → does place (Coming.cancels asked) w true v → (answered v ≡ answered w) × (kept v ≡ kept w)

-- a relation that holds of a world and itself, goes through a world between, and holds across each call of the hook
pub record IsKeptByTurns {W : Type 0} (does : ℕ → Coming → W → Bool → W → Type 0) (relates : W → W → Type 0) : Type 0 where
  pub same : (w : W) → relates w w
  pub joined : (w m v : W) → relates w m → relates m v → relates w v
  pub each : (place : ℕ) (coming : Coming) (w : W) (sufficed : Bool) (v : W) → does place coming w sufficed v → relates w v
