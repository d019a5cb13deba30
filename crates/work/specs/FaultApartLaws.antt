-- [4] Laws: no rule but its own reads the number that the board keeps, and none but its own changes it.
use Rattle.std.specs.Prelude.{ℕ, ◌≡◌, Bool, true, false, cond, set, Option}
use Rattle.std.proofs.Math.Path.{refl}
use Rattle.command.specs.declared.Command.{Command}
use Rattle.command.specs.declared.Command.TheVariants.{Unknown, Nop, Load, Store, Show, Change}
use Rattle.command.specs.declared.Source.TheVariants as source
use Rattle.board.specs.declared.Board.{Board}
use Rattle.board.specs.Setters.{with_registers, with_control, with_fault}
use Rattle.csr.specs.Csr.{csr_value}
use Rattle.control.specs.Control.{control_index, control_listed, control_fetched, control_written}
use Rattle.registers.specs.Registers.{debug_written, board_after}
use Rattle.registers.specs.ChangeLaws.{each_change}
use Rattle.access.specs.declared.Access.{Access}
use Rattle.work.specs.Work.{ending_of}

module _ (b : Board) (f : Option ℕ) where
  -- a command ends in the same
  pub same_ending : (c : Command) (address : ℕ) (access : Access) → ending_of c (with_fault b f) address access ≡ ending_of c b address access
  unfolding csr_value control_fetched
  same_ending Unknown address _ = refl
  same_ending Nop address _ = refl
  same_ending (Load s base) address _ = refl
  same_ending (Store s base) address _ = refl
  same_ending (Show (source.General n)) address _ = refl
  same_ending (Show source.Control) address _ = refl
  same_ending (Show source.Csr) address _ = refl
  same_ending (Change target) address _ = refl

  control_apart : (n v : ℕ) → control_written (with_fault b f) n v ≡ with_fault (control_written b n v) f
  unfolding control_written
  control_apart n v = by (control_listed n)
    where
      put : Board → Board
      put x = with_registers x (with_control x.registers (set x.registers.control (control_index n) v))

      by : (t : Bool) → cond t (put (with_fault b f)) (with_fault b f) ≡ with_fault (cond t (put b) b) f
      by true = refl
      by false = refl

  -- and leaves the same of the board
  pub same_work : (c : Command) (address value : ℕ) → board_after c (with_fault b f) address value ≡ with_fault (board_after c b address value) f
  unfolding debug_written
  same_work c address value =
      each_change (λ change. change (with_fault b f) ≡ with_fault (change b) f) address value
      (record {
        none = refl;
        csr_read = refl;
        general = λ n. refl;
        control = control_apart address value;
        debug = λ r. refl;
        go = refl;
        sync_pc = refl;
      })
      c
