-- Recorded cycles (01): the items that one cycle gives, in their order.
use Rattle.std.specs.Prelude.{ℕ, cond, List, [], ◌∷◌, ◌++◌, eqb}
use Rattle.cycle.specs.declared.Carried.{Carried}
use Rattle.cycle.specs.declared.Item.{Item}
use Rattle.cycle.specs.Cycle.{gives_own, value_ending}

-- "A value is an item of its marker's code at its last nibble's cycle"
abbrev pub of_value : List ℕ → ℕ → ℕ → Item
of_value trace i m = record { cycle = i; code = m; value = value_ending trace i m }

-- where the one nibble due is the last
abbrev pub value_item : List ℕ → ℕ → Carried → List Item
value_item trace i c = cond (eqb c.due 1) (of_value trace i c.marker ∷ []) []

-- a cycle's own item has its PST for a code, and no value
abbrev pub of_cycle : ℕ → ℕ → Item
of_cycle i p = record { cycle = i; code = p; value = 0 }

abbrev pub own_item : ℕ → ℕ → ℕ → List Item
own_item i run p = cond (gives_own run p) (of_cycle i p ∷ []) []

-- "before that cycle's own item": the items of cycle i, which finds c under way and has the PST p
unfoldable pub items_at : List ℕ → ℕ → Carried → ℕ → List Item
items_at trace i c p = value_item trace i c ++ own_item i c.run p
