-- What came, put together.
use Rattle.std.proofs.Common.{ℕ, ◌+◌, inl, inr, Bool, true, false, List, [], ◌∷◌, ◌++◌, length, refl, sym, ap, ◌∙◌, subst, arith, append_assoc, length-append}
use Rattle.fan_model.specs.Comings.{Coming}
use Rattle.front_walk.specs.Coming.{Came, ComesThrough, EndsAt, IsCut}

module _ {W : Type 0} (does : ℕ → Coming → W → Bool → W → Type 0) where
  pub came_none : (place : ℕ) (w : W) → Came does place w [] w
  came_none place w = record { through = refl }

  pub came_one : (place : ℕ) (c : Coming) (w v : W) → does place c w true v → Came does place w (c ∷ []) v
  came_one place c w v h = record { through = (v, h, refl) }

  through-append : (place : ℕ) (w m v : W) (xs ys : List Coming) → ComesThrough does place w xs m → ComesThrough does (place + length xs) m ys v → ComesThrough does place w (xs ++ ys) v
  through-append place w m v [] ys first second =
      subst (λ (u : W). ComesThrough does place u ys v) (sym first) (subst (λ (p : ℕ). ComesThrough does p m ys v) (omega arith) second)
  through-append place w m v (x ∷ xs) ys first second =
      (first.0, first.1, through-append (place + 1) first.0 m v xs ys first.2 (subst (λ (p : ℕ). ComesThrough does p m ys v) (omega arith) second))

  pub came-append : (place : ℕ) (w m v : W) (xs ys : List Coming) → Came does place w xs m → Came does (place + length xs) m ys v → Came does place w (xs ++ ys) v
  came-append place w m v xs ys first second = record { through = through-append place w m v xs ys first.through second.through }

  ends_here : (place : ℕ) (comings : List Coming) (w : W) → EndsAt does place comings w w
  ends_here place [] w = refl
  ends_here place (c ∷ comings) w = inl refl

  -- nothing came
  pub cut_none : (place : ℕ) (w : W) (comings : List Coming) → IsCut does place w comings w
  cut_none place w comings = record {
    before = [];
    after = comings;
    all = refl;
    last = w;
    came = came_none place w;
    ends = ends_here (place + 0) comings w;
  }

  -- the first found no memory
  pub cut_first : (place : ℕ) (w v : W) (c : Coming) (comings : List Coming) → does place c w false v → IsCut does place w (c ∷ comings) v
  cut_first place w v c comings h = record {
    before = [];
    after = c ∷ comings;
    all = refl;
    last = w;
    came = came_none place w;
    ends = subst (λ (p : ℕ). EndsAt does p (c ∷ comings) w v) (omega arith) (inr h);
  }

  -- some came, and of others only some
  pub cut_behind : (place : ℕ) (w m v : W) (first comings : List Coming) → Came does place w first m → IsCut does (place + length first) m comings v → IsCut does place w (first ++ comings) v
  cut_behind place w m v first comings came cut = record {
    before = first ++ cut.before;
    after = cut.after;
    all = ap (λ (l : List Coming). first ++ l) cut.all ∙ sym (append_assoc first cut.before cut.after);
    last = cut.last;
    came = came-append place w m cut.last first cut.before came cut.came;
    ends = subst (λ (p : ℕ). EndsAt does p cut.after cut.last v) (omega (arith, length-append first cut.before)) cut.ends;
  }

  ends_longer : (place : ℕ) (comings more : List Coming) (w v : W) → EndsAt does place comings w v → EndsAt does place (comings ++ more) w v
  ends_longer place [] [] w v h = h
  ends_longer place [] (c ∷ more) w v h = inl h
  ends_longer place (c ∷ comings) more w v h = h

  -- more would have come
  pub cut_longer : (place : ℕ) (w v : W) (comings more : List Coming) → IsCut does place w comings v → IsCut does place w (comings ++ more) v
  cut_longer place w v comings more cut = record {
    before = cut.before;
    after = cut.after ++ more;
    all = ap (λ (l : List Coming). l ++ more) cut.all ∙ append_assoc cut.before cut.after more;
    last = cut.last;
    came = cut.came;
    ends = ends_longer (place + length cut.before) cut.after more cut.last v cut.ends;
  }
