-- Packets (01): "RDREG/RAREG 0x2180 to 0x218F", "WDREG/WAREG 0x2080 to 0x208F": the register number that a command under way holds.
use Rattle.std.specs.Prelude.{ℕ}
use Rattle.command.specs.declared.Command.{Command}
use Rattle.command.specs.declared.Command.TheVariants.{Unknown, Nop, Load, Store, Show, Change}
use Rattle.command.specs.declared.Source.{Source}
use Rattle.command.specs.declared.Source.TheVariants as source
use Rattle.command.specs.declared.Target.{Target}
use Rattle.command.specs.declared.Target.TheVariants as target
use Rattle.board.specs.declared.Phase.{Phase}
use Rattle.board.specs.declared.Phase.TheVariants.{Rest, Due, Waiting, Upper}

abbrev pub register_shown : Source → ℕ
register_shown (source.General n) = n
register_shown source.Control = 0
register_shown source.Csr = 0

abbrev pub register_changed : Target → ℕ
register_changed (target.General n) = n
register_changed target.Control = 0
register_changed (target.Debug r) = 0
register_changed target.Run = 0
register_changed target.Sync = 0

-- 0 of a command that has none
abbrev pub register_of : Command → ℕ
register_of Unknown = 0
register_of Nop = 0
register_of (Load s base) = 0
register_of (Store s base) = 0
register_of (Show source) = register_shown source
register_of (Change target) = register_changed target

-- 0 where no command is under way
abbrev pub register_held : Phase → ℕ
register_held Rest = 0
register_held (Due c left taken) = register_of c
register_held (Waiting c left address value) = register_of c
register_held (Upper low) = 0
