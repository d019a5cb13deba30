-- What a line leaves of the bench (the desk's language, `stand_in`): the board, the place, how many bytes are lent, and memory.
use Rattle.std.specs.Prelude.{ℕ, ◌%◌, List, ◌++◌, take, drop, None, Option, Some}
use Rattle.halting.specs.declared.Privilege.{Privilege}
use Rattle.std.proofs.lemmas.List.Edits.{sets}
use Rattle.board.specs.declared.Board.{Board}
use Rattle.board.specs.declared.Place.{Place}
use Rattle.board.specs.Board.{fresh_board, fresh_place, making_verdict}
use Rattle.grounds.specs.Grounds.{if_accepted}
use Rattle.board.specs.State.{State as PortState, state_of}
use Rattle.step.specs.Step as port
use Rattle.port.specs.Packet.{packet_verdict}
use Rattle.trigger.specs.declared.Event.{Event}
use Rattle.bus.specs.Events.{board_after_event, board_after_breakpoint}
use Rattle.lent.specs.Lent.{zeros, bytes_put}
use Rattle.board_lines.specs.declared.BoardLine.{BoardLine}
use Rattle.board_lines.specs.declared.BoardLine.TheVariants.{Nothing, Make, Memory, Bytes, Packet, Event as EventLine}
use Rattle.board_lines.specs.declared.BoardLine.TheVariants.{EventWithAccess, Breakpoint, Peek, State, Unclear}
use Rattle.answers.specs.declared.Bench.{Bench}

abbrev pub bench_of : Board → Place → ℕ → Bench
bench_of b p lent = record { board = b; place = p; lent = lent }

-- the bench after a line, and memory
pub record Left : Type 0 where
  pub bench : Bench
  pub memory : List ℕ

abbrev pub left : Bench → List ℕ → Left
left bench m = record { bench = bench; memory = m }

-- the port sees and alters the bytes lent, of those that there are, and no others
abbrev pub over_lent : (Bench → List ℕ → Left) → Bench → List ℕ → Left
over_lent step bench m =
    left (step bench (take bench.lent m)).bench ((step bench (take bench.lent m)).memory ++ drop bench.lent m)

-- the port's state at the bench over what it is lent, and the bench with another
abbrev pub port_state : Bench → List ℕ → PortState
port_state bench m = state_of bench.board bench.place m

abbrev pub with_state : Bench → PortState → Left
with_state bench s = left (bench_of s.board s.place bench.lent) s.memory

-- a packet's step on what the port is lent; all as it was where the packet is refused
abbrev pub stepped : ℕ → Bench → List ℕ → Left
stepped word bench m =
    with_state bench (if_accepted (packet_verdict (port_state bench m) word) (port.stepped (port_state bench m) word) (port_state bench m))

-- "`event PC` or `event PC ADDRESS ATTRIBUTE DATA`", and the mark of [6]
abbrev pub start : ℕ → Option Privilege → Event
start pc mark = record { pc = pc; bus = None; mark = mark }

abbrev pub access : ℕ → ℕ → ℕ → ℕ → Option Privilege → Event
access pc address attribute lanes mark =
    record { pc = pc; bus = Some (record { address = address; attribute = attribute % 256; lanes = lanes }); mark = mark }

abbrev pub seen : Event → Bench → Bench
seen event bench = bench_of (board_after_event bench.board bench.place event) bench.place bench.lent

-- what a line leaves; `make`: "`made`, a fresh board, memory kept; or `refused 2 at 0`, the old board kept";
-- `memory`: "N zero bytes are lent from now on"
unfoldable pub leaves : List ℕ → BoardLine → Bench → List ℕ → Left
leaves line Nothing bench m = left bench m
leaves line (Make w) bench m = left (if_accepted (making_verdict w) (bench_of (fresh_board w) fresh_place bench.lent) bench) m
leaves line (Memory n) bench m = left (bench_of bench.board bench.place n) (sets m 0 (zeros n))
leaves line (Bytes address from count) bench m = left bench (bytes_put line from count address bench.lent m)
leaves line (Packet word) bench m = over_lent (stepped word) bench m
leaves line (EventLine pc mark) bench m = left (seen (start pc mark) bench) m
leaves line (EventWithAccess pc address attribute lanes mark) bench m = left (seen (access pc address attribute lanes mark) bench) m
leaves line Breakpoint bench m = left (bench_of (board_after_breakpoint bench.board bench.place) bench.place bench.lent) m
leaves line (Peek address count) bench m = left bench m
leaves line State bench m = left bench m
leaves line Unclear bench m = left bench m
