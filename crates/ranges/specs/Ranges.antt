-- Refusal numbers (01): the ranges for ground 12.
use Rattle.std.specs.Prelude.{ℕ, Bool, true, ◌&&◌, ◌||◌, eqb, leb}
use Rattle.command.specs.Command.{operand_words, waits}
use Rattle.board.specs.declared.Board.{Board}
use Rattle.board.specs.declared.Place.{Place}
use Rattle.board.specs.declared.Phase.{Phase}
use Rattle.board.specs.declared.Phase.TheVariants.{Rest, Due, Waiting, Upper}

-- "while waiting, waits left 1 to W and a command that waits; operands left at least 1 and no more than the command has"
abbrev pub phase_in_range : ℕ → Phase → Bool
phase_in_range w Rest = true
phase_in_range w (Due c left taken) = leb 1 left && leb left (operand_words c)
phase_in_range w (Waiting c left a d) = leb 1 left && leb left w && waits c
phase_in_range w (Upper low) = true

-- "BSTAT one of 0, 1, 2, 5, 6"
unfoldable pub bstat_in_range : ℕ → Bool
bstat_in_range s = eqb s 0 || eqb s 1 || eqb s 2 || eqb s 5 || eqb s 6

-- what the board must meet: "W at most 15", BSTAT
abbrev pub board_in_range : Board → Bool
board_in_range b = leb b.w 15 && bstat_in_range b.status.bstat

-- what a place must meet at a board of that W: the phase, "next reply at most 0x1FFFF", "dump pointer at most 65,536"
abbrev pub place_in_range : ℕ → Place → Bool
place_in_range w p = phase_in_range w p.phase && leb p.next 0x1FFFF && leb p.pointer 65536

unfoldable pub in_range : Board → Place → Bool
in_range b p = board_in_range b && place_in_range b.w p
