-- Recorded cycles (01): the items of a trace, in their order, and the words of each.
use Rattle.std.specs.Prelude.{ℕ, zero, suc, ◌+◌, ◌-◌, ◌*◌, List, [], ◌∷◌, ◌++◌, length}
use Rattle.cycle.specs.declared.Carried.{Carried}
use Rattle.cycle.specs.declared.Item.{Item}
use Rattle.cycle.specs.Cycle.{pst, after, carried_into}
use Rattle.cycle.specs.CycleItems.{items_at}

-- the items of the cycles before cycle i
unfoldable pub items_before : List ℕ → ℕ → List Item
items_before trace zero = []
items_before trace (suc i) = items_before trace i ++ items_at trace i (carried_into trace i) (pst trace i)

unfoldable pub items : List ℕ → List Item
items trace = items_before trace (length trace)

-- the items of n cycles from cycle i on, which finds c under way
unfoldable pub items_from : List ℕ → ℕ → Carried → ℕ → List Item
items_from trace i c zero = []
items_from trace i c (suc n) = items_at trace i c (pst trace i) ++ items_from trace (i + 1) (after c (pst trace i)) n

-- those of all the cycles from cycle i on: none beyond the trace's end
abbrev pub items_to_end : List ℕ → ℕ → Carried → List Item
items_to_end trace i c = items_from trace i c (length trace - i)

-- "Each item is two 32-bit words: cycle times 16 plus code; value or 0."
abbrev pub words : List Item → List ℕ
words [] = []
words (x ∷ xs) = (x.cycle * 16 + x.code) ∷ x.value ∷ words xs
