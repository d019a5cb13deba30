-- Laws: what holds of each change that a command may make to the board holds of the work of every command.
use Rattle.std.specs.Prelude.{ℕ}
use Rattle.command.specs.declared.DebugRegister.{DebugRegister}
use Rattle.command.specs.declared.Command.{Command}
use Rattle.command.specs.declared.Command.TheVariants.{Unknown, Nop, Load, Store, Show, Change}
use Rattle.command.specs.declared.Source.TheVariants as source
use Rattle.command.specs.declared.Target.TheVariants as target
use Rattle.board.specs.declared.Board.{Board}
use Rattle.csr.specs.Csr.{after_csr_read, after_go, after_sync_pc}
use Rattle.board.specs.Setters.{with_status}
use Rattle.control.specs.Control.{general_written, control_written}
use Rattle.registers.specs.Registers.{debug_written, board_after}

pub record EachChange (P : (Board → Board) → Type 0) (address value : ℕ) : Type 0 where
  pub none : P (λ b. b)
  pub csr_read : P (λ b. with_status b (after_csr_read b.status))
  pub general : (n : ℕ) → P (λ b. general_written b n value)
  pub control : P (λ b. control_written b address value)
  pub debug : (r : DebugRegister) → P (λ b. debug_written b r value)
  pub go : P (λ b. with_status b (after_go b.status))
  pub sync_pc : P (λ b. with_status b (after_sync_pc b.status))

pub each_change : (P : (Board → Board) → Type 0) (address value : ℕ) → EachChange P address value → (c : Command) → P (λ b. board_after c b address value)
each_change P address value each Unknown = each.none
each_change P address value each Nop = each.none
each_change P address value each (Load s base) = each.none
each_change P address value each (Store s base) = each.none
each_change P address value each (Show (source.General n)) = each.none
each_change P address value each (Show source.Control) = each.none
each_change P address value each (Show source.Csr) = each.csr_read
each_change P address value each (Change (target.General n)) = each.general n
each_change P address value each (Change target.Control) = each.control
each_change P address value each (Change (target.Debug r)) = each.debug r
each_change P address value each (Change target.Run) = each.go
each_change P address value each (Change target.Sync) = each.sync_pc
