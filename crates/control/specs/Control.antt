-- Packets (01): the control and general registers.
use Rattle.std.specs.Prelude.{ℕ, suc, ◌%◌, Bool, cond, List, [], ◌∷◌, eqb, ltb, get_or, set, None, Option, Some}
use Rattle.board.specs.declared.Board.{Board}
use Rattle.board.specs.Setters.{with_registers, with_general, with_control}

-- "Control registers: .."
abbrev pub control_numbers : List ℕ
control_numbers = 0x002 ∷ 0x004 ∷ 0x005 ∷ 0x801 ∷ 0x804 ∷ 0x805 ∷ 0x806 ∷ 0x80E ∷ 0x80F ∷ 0xC04 ∷ []

-- how many of the list stand before the number: all of them where it is not listed
abbrev pub index_in : List ℕ → ℕ → ℕ
index_in [] n = 0
index_in (k ∷ ks) n = cond (eqb n k) 0 (suc (index_in ks n))

unfoldable pub control_index : ℕ → ℕ
control_index n = index_in control_numbers n

-- "A first operand word not zero, or a second not listed, is a bus error": the two words are one number
abbrev pub control_listed : ℕ → Bool
control_listed n = ltb (control_index n) 10

unfoldable pub control_fetched : Board → ℕ → Option ℕ
control_fetched b n = cond (control_listed n) (Some (get_or b.registers.control (control_index n) 0)) None

unfoldable pub control_written : Board → ℕ → ℕ → Board
control_written b n v = cond (control_listed n) (with_registers b (with_control b.registers (set b.registers.control (control_index n) v))) b

abbrev pub general_written : Board → ℕ → ℕ → Board
general_written b n v = with_registers b (with_general b.registers (set b.registers.general (n % 16) v))
