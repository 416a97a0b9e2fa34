-- What a home hands out when it is closed.
use Rattle.std.specs.Prelude.{◌≡◌, ℕ, List, [], ◌∷◌, Option, Some, None}
use mathlib.Core.Option as maybe
use lib.ListN.{get_elem?}
use Rattle.atomic_table.specs.Table.{Final}
use Rattle.core_interrupt.specs.declared.state.State.{State}
use Rattle.core_interrupt.specs.declared.state.State.TheVariants as state
use Rattle.core_interrupt.specs.declared.close.Remains.{Remains}
use Rattle.core_interrupt.specs.declared.view.Item.TheVariants as item
use Rattle.core_interrupt.specs.State.{code_of}
use Rattle.core_interrupt.specs.Views.{Held}
use Rattle.core_interrupt.specs.Rule.{InterruptHolds}

module _ {H I : Type 0} where
  -- the handler among what two slots hold, and the object: each comes from its own slot, where that holds one of its kind
  abbrev pub handler_among : Held H I → Held H I → Option H
  handler_among (Some (item.Handler h)) second = Some h
  handler_among None None = None
  handler_among None (Some (item.Handler h)) = Some h
  handler_among None (Some (item.Object i)) = None
  handler_among (Some (item.Object i)) None = None
  handler_among (Some (item.Object i)) (Some (item.Handler h)) = Some h
  handler_among (Some (item.Object i)) (Some (item.Object j)) = None

  abbrev pub object_among : Held H I → Held H I → Option I
  object_among first (Some (item.Object i)) = Some i
  object_among None None = None
  object_among None (Some (item.Handler h)) = None
  object_among (Some (item.Handler h)) None = None
  object_among (Some (item.Handler h)) (Some (item.Handler j)) = None
  object_among (Some (item.Object i)) None = Some i
  object_among (Some (item.Object i)) (Some (item.Handler h)) = Some i

  -- an end of a home by the interrupt rule: the state, and what the slots hold, of which those at home are as the rule says
  pub record IsEnd (s : State) (first second : Held H I) : Type 0 where
    pub final : Final InterruptHolds (code_of s ∷ []) (first ∷ second ∷ [])

  -- what the two slots held, no more and no less
  pub record HandsOut (remains : Remains H I) : Type 0 where
    pub first : Held H I
    pub second : Held H I
    pub end : IsEnd remains.state first second
    pub handler : remains.handler ≡ handler_among first second
    pub object : remains.object ≡ object_among first second

  -- nothing was begun: the word is that of Empty, and the slots are empty
  abbrev pub AreUntouched : List ℕ → List (Held H I) → Type 0
  AreUntouched words slots = (words ≡ 0 ∷ []) × (slots ≡ None ∷ None ∷ [])

  -- what a home hands out whose pair was never taken
  abbrev pub IsUntouched : Remains H I → Type 0
  IsUntouched remains = remains ≡ record { handler = None; object = None; state = state.Empty }
