-- Which worker each parker and each waker is for.
use Rattle.std.specs.Prelude.{ℕ, zero, suc, ◌+◌, ◌^◌, List, [], ◌∷◌, map}
use Rattle.prio_pool.specs.declared.sleepers.OwnParker.{OwnParker}
use Rattle.prio_pool.specs.declared.sleepers.OwnWaker.{OwnWaker}
use Rattle.prio_pool.specs.Takers.{TakersSeen}

-- the bits of so many workers, whose numbers begin with the first
abbrev pub bits_from : ℕ → ℕ → List ℕ
bits_from first zero = []
bits_from first (suc n) = 2 ^ first ∷ bits_from (first + 1) n

-- the bits of the workers that sleep on these
abbrev pub parkers_of : List OwnParker → List ℕ
parkers_of parkers = map (λ p. p.bit) parkers

-- the bits of the workers that these wake
abbrev pub wakers_of : List OwnWaker → List ℕ
wakers_of wakers = map (λ w. w.bit) wakers

-- the bits of these workers
abbrev pub bits_of : List TakersSeen → List ℕ
bits_of takers = map (λ t. 2 ^ t.number) takers
