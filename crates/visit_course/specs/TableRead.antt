-- A gateway's visit (docs/gateway.md): what the longwords of a table come to.
use Rattle.std.specs.Prelude.{ℕ, zero, suc, ◌+◌, ◌-◌, ◌*◌, ◌/◌, min, cond, List, [], ◌∷◌, ltb}
use Rattle.memory.specs.declared.Size.TheVariants.{Long}
use Rattle.memory.specs.Memory.{present, value_at}
use Rattle.readings.specs.declared.Outcome.{Outcome}
use Rattle.readings.specs.declared.Outcome.TheVariants.{Value, BusError}

-- so many longwords from number k on: those that are there, then bus error at the first that is not, and nothing after it
unfoldable pub table_from : ℕ → ℕ → ℕ → List ℕ → List Outcome
table_from zero address k memory = []
table_from (suc left) address k memory =
    cond (present memory Long (address + 4 * k)) (Value (value_at memory Long (address + 4 * k)) ∷ table_from left address (suc k) memory) (BusError ∷ [])

-- the whole table
abbrev pub table_read : ℕ → ℕ → List ℕ → List Outcome
table_read address longwords memory = table_from longwords address 0 memory

-- how many of them are there, in a memory of so many bytes
abbrev pub longwords_there : ℕ → ℕ → ℕ → ℕ
longwords_there address longwords size = min longwords ((size - address) / 4)

-- how many are asked for: one that is missing too
abbrev pub longwords_asked : ℕ → ℕ → ℕ
longwords_asked there longwords = cond (ltb there longwords) (suc there) there
