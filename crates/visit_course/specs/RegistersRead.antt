-- A gateway's visit (docs/gateway.md): what its registers come to, and what reading them leaves of the board.
use Rattle.std.specs.Prelude.{ℕ, zero, suc, cond, List, [], ◌∷◌, ◌++◌, get_or, replicate}
use Rattle.board.specs.declared.Board.{Board}
use Rattle.board.specs.Setters.{with_status}
use Rattle.csr.specs.Csr.{csr_value, after_csr_read}
use Rattle.readings.specs.declared.Outcome.{Outcome}
use Rattle.readings.specs.declared.Outcome.TheVariants.{Value, Illegal}

-- so many registers from number i on
abbrev pub values_from : ℕ → ℕ → List ℕ → List Outcome
values_from zero i registers = []
values_from (suc n) i registers = Value (get_or registers i 0) ∷ values_from n (suc i) registers

-- "RDREG 0 to 15: D0 to D7, A0 to A7", and the ten control registers; "a running processor has no RDREG and no RCREG"
abbrev pub processor_read : Board → List Outcome
processor_read b =
    cond b.status.halted (values_from 16 0 b.registers.general ++ values_from 10 0 b.registers.control) (replicate 26 Illegal)

-- "CSR, the last of the registers"
unfoldable pub registers_read : Board → List Outcome
registers_read b = processor_read b ++ (Value (csr_value b) ∷ [])

-- ".. since reading it clears flags"
abbrev pub csr_cleared : Board → Board
csr_cleared b = with_status b (after_csr_read b.status)
