-- What the code tells apart: commands whose work leaves the board alone, so that it is not copied, and packets for which no command works.
use Rattle.std.specs.Prelude.{Bool, true, false}
use Rattle.command.specs.declared.Command.{Command}
use Rattle.command.specs.declared.Command.TheVariants.{Unknown, Nop, Load, Store, Show, Change}
use Rattle.command.specs.declared.Source.TheVariants as source
use Rattle.board.specs.declared.Place.{Place}
use Rattle.plan.specs.declared.Plan.{Plan}
use Rattle.plan.specs.declared.Plan.TheVariants.{Hold, Reject, Release, Work}
use Rattle.step.specs.Step.{holding, rejected, released}

abbrev pub leaves_board : Command → Bool
leaves_board Unknown = true
leaves_board Nop = true
leaves_board (Load s base) = true
leaves_board (Store s base) = true
leaves_board (Show (source.General n)) = true
leaves_board (Show source.Control) = true
leaves_board (Show source.Csr) = false
leaves_board (Change target) = false

-- the place after a packet for which no command works
abbrev pub without_work : Plan → Place → Place
without_work (Hold phase) p = holding p phase
without_work Reject p = rejected p
without_work (Release low) p = released p low
without_work (Work c address value) p = p
