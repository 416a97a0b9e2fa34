-- What was done as one query after another came.
use Rattle.std.specs.Prelude.{◌≡◌, ℕ, ◌+◌, ◌⊎◌, Bool, true, false, List, [], ◌∷◌, ◌++◌, length}
use Rattle.fan_model.specs.Comings.{Coming}

module _ {W : Type 0} (does : ℕ → Coming → W → Bool → W → Type 0) where
  -- through a world between each two of them
  abbrev pub ComesThrough : ℕ → W → List Coming → W → Type 0
  ComesThrough place w [] v = w ≡ v
  ComesThrough place w (c ∷ comings) v = (m : W) × does place c w true m × ComesThrough (place + 1) m comings v

  -- these came from this place on, each at its own, in this order, and memory sufficed
  pub record Came (place : ℕ) (w : W) (comings : List Coming) (v : W) : Type 0 where
    pub through : ComesThrough place w comings v

  -- nothing more came, or the next one found no memory
  abbrev pub EndsAt : ℕ → List Coming → W → W → Type 0
  EndsAt place [] w v = v ≡ w
  EndsAt place (c ∷ comings) w v = (v ≡ w) ⊎ does place c w false v

  -- of these only some came, from this place on
  pub record IsCut (place : ℕ) (w : W) (comings : List Coming) (v : W) : Type 0 where
    pub before : List Coming
    pub after : List Coming
    pub all : comings ≡ before ++ after
    pub last : W
    pub came : Came place w before last
    pub ends : EndsAt (place + length before) after last v
