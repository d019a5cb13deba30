-- The items of one of P9's cycles, computed from the definitions.
use Rattle.std.specs.Prelude.{◌≡◌, refl, [], ◌∷◌}
use Rattle.cycle.specs.Cycle.{pst, gives_own, after, carried_into, value}
use Rattle.cycle.specs.CycleItems.{items_at}
use Rattle.cycle.specs.CycleExamples.{p9}

-- "6 9 4660" and then "6 1 0": a value comes before its last nibble's cycle's own item
pub value_before_own : items_at p9 6 (carried_into p9 6) (pst p9 6)
    ≡ record { cycle = 6; code = 9; value = 4660 } ∷ record { cycle = 6; code = 1; value = 0 } ∷ []
unfolding gives_own after carried_into value items_at
value_before_own = refl
