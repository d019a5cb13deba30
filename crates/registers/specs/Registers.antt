-- Packets (01): the debug registers, and what each command's work leaves of the board.
use Rattle.std.specs.Prelude.{ℕ, ◌%◌, ◌^◌, Bool, true, cond, ◌||◌, eqb, get_or, Option, Some}
use Rattle.command.specs.declared.DebugRegister.{DebugRegister}
use Rattle.command.specs.declared.DebugRegister.TheVariants.{Csr, Baar, Aatr, Tdr, Pbr, Pbmr, Abhr, Ablr, Dbr, Dbmr}
use Rattle.command.specs.declared.Command.{Command}
use Rattle.command.specs.declared.Command.TheVariants.{Unknown, Nop, Load, Store, Show, Change}
use Rattle.command.specs.declared.Source.{Source}
use Rattle.command.specs.declared.Source.TheVariants as source
use Rattle.command.specs.declared.Target.{Target}
use Rattle.command.specs.declared.Target.TheVariants as target
use Rattle.command.specs.Command.{debug_number}
use Rattle.board.specs.declared.Board.{Board}
use Rattle.board.specs.declared.Status.{Status}
use Rattle.board.specs.declared.Debug.{Debug}
use Rattle.board.specs.Setters.{with_status, with_debug, with_bstat}
use Rattle.board.specs.RegisterBits.{ebl_of}
use Rattle.csr.specs.Csr.{flag, csr_written, csr_value, after_csr_read, after_go, after_sync_pc}
use Rattle.control.specs.Control.{control_listed, control_fetched, control_written, general_written}

-- a register is known by its number
abbrev pub is : ℕ → DebugRegister → Bool
is n r = eqb n (debug_number r)

-- "AATR keeps the low 16 bits, BAAR the low 8. Writing AATR also loads BAAR with its low byte."
unfoldable pub debug_loaded : ℕ → ℕ → Debug → Debug
debug_loaded n v d = record {
  csr = cond (is n Csr) (csr_written v) d.csr;
  baar = cond (is n Baar || is n Aatr) (v % 2 ^ 8) d.baar;
  aatr = cond (is n Aatr) (v % 2 ^ 16) d.aatr;
  tdr = cond (is n Tdr) v d.tdr;
  pbr = cond (is n Pbr) v d.pbr;
  pbmr = cond (is n Pbmr) v d.pbmr;
  abhr = cond (is n Abhr) v d.abhr;
  ablr = cond (is n Ablr) v d.ablr;
  dbr = cond (is n Dbr) v d.dbr;
  dbmr = cond (is n Dbmr) v d.dbmr;
}

-- "A TDR write sets BSTAT to 1 if level 1's EBL is set, else 0."
abbrev pub armed : Status → ℕ → Status
armed s v = with_bstat s (flag (ebl_of v))

unfoldable pub debug_written : Board → DebugRegister → ℕ → Board
debug_written b r v =
    with_status (with_debug b (debug_loaded (debug_number r) v b.debug)) (cond (is (debug_number r) Tdr) (armed b.status v) b.status)

-- what a command shows: a longword, or nothing where the register is not listed
abbrev pub shown : Source → Board → ℕ → Option ℕ
shown (source.General n) b address = Some (get_or b.registers.general (n % 16) 0)
shown source.Control b address = control_fetched b address
shown source.Csr b address = Some (csr_value b)

-- "Reading clears FOF, TRG, HALT, BKPT, and BSTAT if 2 or 6"; other registers are shown and stay
abbrev pub after_show : Source → Board → Board
after_show (source.General n) b = b
after_show source.Control b = b
after_show source.Csr b = with_status b (after_csr_read b.status)

-- what a command changes is there, but for a control register that is not listed
abbrev pub reached : Target → ℕ → Bool
reached (target.General n) address = true
reached target.Control address = control_listed address
reached (target.Debug r) address = true
reached target.Run address = true
reached target.Sync address = true

abbrev pub changed : Target → Board → ℕ → ℕ → Board
changed (target.General n) b address value = general_written b n value
changed target.Control b address value = control_written b address value
changed (target.Debug r) b address value = debug_written b r value
changed target.Run b address value = with_status b (after_go b.status)
changed target.Sync b address value = with_status b (after_sync_pc b.status)

-- the board after a command's work; memory commands leave it alone
abbrev pub board_after : Command → Board → ℕ → ℕ → Board
board_after Unknown b address value = b
board_after Nop b address value = b
board_after (Load s base) b address value = b
board_after (Store s base) b address value = b
board_after (Show source) b address value = after_show source b
board_after (Change target) b address value = changed target b address value
