-- Laws of arming: a TDR write reads level 1's EBL as the level itself does when an event tries it.
use Rattle.std.specs.Prelude.{ℕ, ◌≡◌, refl, Bool, true, false}
use Rattle.command.specs.declared.DebugRegister.TheVariants.{Tdr}
use Rattle.command.specs.Command.{wdmreg}
use Rattle.board.specs.declared.Board.{Board}
use Rattle.csr.specs.Csr.{flag}
use Rattle.registers.specs.Registers.{debug_loaded, debug_written, board_after}
use Rattle.trigger.specs.Levels.{level_of, level_one}

flag_is_one : (x : Bool) → flag x ≡ 1 → x ≡ true
flag_is_one true e = refl
flag_is_one false e = cc

-- "A TDR write sets BSTAT to 1 if level 1's EBL is set, else 0."
pub record Arms (value : ℕ) (after : Board) : Type 0 where
  pub tdr : after.debug.tdr ≡ value
  pub one : (level_one value).ebl ≡ true → after.status.bstat ≡ 1
  pub zero : (level_one value).ebl ≡ false → after.status.bstat ≡ 0
  pub only : after.status.bstat ≡ 1 → (level_one value).ebl ≡ true

-- the work of WDMREG 0x07 on any board; it has no address
pub tdr_write_arms : (b : Board) (address value : ℕ) → Arms value (board_after (wdmreg Tdr) b address value)
unfolding debug_written debug_loaded level_of
tdr_write_arms b address value =
    let ebl = (level_one value).ebl in record { tdr = refl; one = λ e. rw e; zero = λ e. rw e; only = flag_is_one ebl }
