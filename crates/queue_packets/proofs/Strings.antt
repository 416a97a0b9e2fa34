-- Blocks in the other order.
use Rattle.std.proofs.Common.{◌≡◌, ◌++◌, ◌∷◌, [], List, Option, Some, None, reverse, refl, ap, sym, ◌∙◌}
use Rattle.std.specs.Prelude.{option_to_list}
use Rattle.std.proofs.lemmas.List.{reverse-append}
use Rattle.std.proofs.lemmas.Grind.{flat_map-append}
use Rattle.queue_packets.specs.Blocks.{items_in}

module _ {X : Type 0} where
  one_turned : (block : Option X) → items_in (block ∷ []) ≡ reverse (option_to_list block)
  one_turned None = refl
  one_turned (Some item) = refl

  pub items-reverse : (blocks : List (Option X)) → items_in (reverse blocks) ≡ reverse (items_in blocks)
  items-reverse [] = refl
  items-reverse (block ∷ blocks) =
      ap items_in (reverse-append (block ∷ []) blocks)
      ∙ flat_map-append option_to_list (reverse blocks) (block ∷ [])
      ∙ ap (λ l. l ++ items_in (block ∷ [])) (items-reverse blocks)
      ∙ ap (λ l. reverse (items_in blocks) ++ l) (one_turned block)
      ∙ sym (reverse-append (option_to_list block) (items_in blocks))
