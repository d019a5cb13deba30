-- Events and firing (01): the breakpoint input.
use Rattle.std.specs.Prelude.{Bool, not, ◌&&◌, ◌||◌}
use Rattle.board.specs.declared.Status.{Status}
use Rattle.board.specs.declared.Debug.{Debug}
use Rattle.board.specs.Setters.{with_halted, with_bkpt}
use Rattle.board.specs.RegisterBits.{bit}
use Rattle.firing.specs.declared.Pressed.{Pressed}

-- "BKD 18"
abbrev pub bkd : Debug → Bool
bkd d = bit 18 d.csr

-- "while running, halts .. or with BKD asks a debug interrupt; while halted it does nothing"
unfoldable pub pressed : Status → Debug → Pressed
pressed s d = record { halted = not s.halted && not (bkd d); interrupt = not s.halted && bkd d }

-- "halts and sets BKPT"
unfoldable pub status_pressed : Status → Pressed → Status
status_pressed s p = with_bkpt (with_halted s (s.halted || p.halted)) (s.bkpt || p.halted)
