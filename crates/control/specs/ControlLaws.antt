-- A law of the control registers: a write changes the registers alone.
use Rattle.std.specs.Prelude.{ℕ, ◌≡◌, refl, Bool, true, false, cond, set}
use Rattle.board.specs.declared.Board.{Board}
use Rattle.board.specs.Setters.{with_registers, with_control}
use Rattle.control.specs.Control.{control_listed, control_index, control_written}

pub control_changes_registers_alone : (b : Board) (n v : ℕ) → control_written b n v ≡ with_registers b (control_written b n v).registers
unfolding control_written
control_changes_registers_alone b n v = by (control_listed n)
  where
    stored : Board
    stored = with_registers b (with_control b.registers (set b.registers.control (control_index n) v))

    by : (t : Bool) → cond t stored b ≡ with_registers b (cond t stored b).registers
    by true = refl
    by false = refl
