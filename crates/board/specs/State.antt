-- Packets (01): all that a packet finds and may change, and what a command word is judged by.
use Rattle.std.specs.Prelude.{ℕ, List}
use Rattle.board.specs.declared.Board.{Board}
use Rattle.board.specs.declared.Place.{Place}
use Rattle.board.specs.declared.Standing.{Standing}

pub record State : Type 0 where
  pub board : Board
  pub place : Place
  pub memory : List ℕ

abbrev pub state_of : Board → Place → List ℕ → State
state_of b p m = record { board = b; place = p; memory = m }

-- "halted and the chain as they stand where these rules judge them"
abbrev pub standing_of : Board → Place → Standing
standing_of b p = record { halted = b.status.halted; chain = p.chain }
