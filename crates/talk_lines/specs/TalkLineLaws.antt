-- A law of `talk`: it has no packet.
use Rattle.std.specs.Prelude.{ℕ, ◌≡◌, refl, Bool, true, false, List}
use Rattle.board_lines.specs.declared.BoardLine.{BoardLine}
use Rattle.board_lines.specs.declared.BoardLine.TheVariants.{Nothing, Make, Memory, Bytes, Packet, Event, EventWithAccess, Breakpoint, Peek, State, Unclear}
use Rattle.talk_lines.specs.declared.TalkLine.{TalkLine}
use Rattle.talk_lines.specs.declared.TalkLine.TheVariants.{Board, Ask}
use Rattle.talk_lines.specs.TalkLines.{without_packet, talk_of, either_line, talk_line}

-- `packet` is no line of `talk`
abbrev pub is_packet : TalkLine → Bool
is_packet (Board Nothing) = false
is_packet (Board (Make w)) = false
is_packet (Board (Memory n)) = false
is_packet (Board (Bytes a start count)) = false
is_packet (Board (Packet x)) = true
is_packet (Board (Event pc mark)) = false
is_packet (Board (EventWithAccess pc address attribute lanes mark)) = false
is_packet (Board Breakpoint) = false
is_packet (Board (Peek a n)) = false
is_packet (Board State) = false
is_packet (Board Unclear) = false
is_packet (Ask request) = false

no_packet_left : (b : BoardLine) → is_packet (Board (without_packet b)) ≡ false
no_packet_left Nothing = refl
no_packet_left (Make w) = refl
no_packet_left (Memory n) = refl
no_packet_left (Bytes a start count) = refl
no_packet_left (Packet x) = refl
no_packet_left (Event pc mark) = refl
no_packet_left (EventWithAccess pc address attribute lanes mark) = refl
no_packet_left Breakpoint = refl
no_packet_left (Peek a n) = refl
no_packet_left State = refl
no_packet_left Unclear = refl

either_no_packet : (line : TalkLine) → is_packet (talk_of line) ≡ false
either_no_packet (Board line) = no_packet_left line
either_no_packet (Ask request) = refl

pub talk_has_no_packet : (line : List ℕ) → is_packet (talk_line line) ≡ false
talk_has_no_packet line = either_no_packet (either_line line)
