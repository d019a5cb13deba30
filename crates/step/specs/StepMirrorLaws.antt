-- Laws: a command that leaves the board alone does.
use Rattle.std.specs.Prelude.{ℕ, ◌≡◌, refl, true}
use Rattle.command.specs.declared.Command.{Command}
use Rattle.command.specs.declared.Command.TheVariants.{Unknown, Nop, Load, Store, Show, Change}
use Rattle.command.specs.declared.Source.TheVariants as source
use Rattle.board.specs.declared.Board.{Board}
use Rattle.registers.specs.Registers.{board_after}
use Rattle.step.specs.StepMirror.{leaves_board}

pub board_left : (c : Command) (b : Board) (address value : ℕ) → leaves_board c ≡ true → b ≡ board_after c b address value
board_left Unknown b address value e = refl
board_left Nop b address value e = refl
board_left (Load s base) b address value e = refl
board_left (Store s base) b address value e = refl
board_left (Show (source.General n)) b address value e = refl
board_left (Show source.Control) b address value e = refl
board_left (Show source.Csr) b address value e = cc
board_left (Change target) b address value e = cc
