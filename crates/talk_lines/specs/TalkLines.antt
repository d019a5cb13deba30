-- The desk's language: the lines of `talk`.
use Rattle.std.specs.Prelude.{ℕ, List, None, Option, Some}
use Rattle.requests.specs.declared.Request.{Request}
use Rattle.words.specs.declared.LineKind.{LineKind}
use Rattle.words.specs.declared.LineKind.TheVariants.{Silent, Clear, TooLong}
use Rattle.words.specs.LineWords.{kind_of, words, last_end}
use Rattle.board_lines.specs.declared.BoardLine.{BoardLine}
use Rattle.board_lines.specs.declared.BoardLine.TheVariants.{Nothing, Make, Memory, Bytes, Packet, Event, EventWithAccess, Breakpoint, Peek, State, Unclear}
use Rattle.talk_lines.specs.declared.TalkLine.{TalkLine}
use Rattle.talk_lines.specs.declared.TalkLine.TheVariants.{Board, Ask}
use Rattle.board_lines.specs.BoardLines.{board_words}
use Rattle.request_lines.specs.RequestLines.{request_of}

-- "`make`, `memory`, `bytes`, `event`, `breakpoint`, `peek` and `state` as in `stand_in`": all of its lines but `packet`
abbrev pub without_packet : BoardLine → BoardLine
without_packet Nothing = Nothing
without_packet (Make w) = Make w
without_packet (Memory n) = Memory n
without_packet (Bytes a start count) = Bytes a start count
without_packet (Packet x) = Unclear
without_packet (Event pc mark) = Event pc mark
without_packet (EventWithAccess pc address attribute lanes mark) = EventWithAccess pc address attribute lanes mark
without_packet Breakpoint = Breakpoint
without_packet (Peek a n) = Peek a n
without_packet State = State
without_packet Unclear = Unclear

-- "A REQUEST alone on its line", or else a line of `stand_in`
abbrev pub asked_or : Option Request → BoardLine → TalkLine
asked_or (Some request) line = Ask request
asked_or None line = Board line

abbrev pub either_at : LineKind → List ℕ → TalkLine
either_at Silent line = Board Nothing
either_at Clear line = asked_or (request_of (words line)) (board_words (last_end line) (words line))
either_at TooLong line = Board Unclear

unfoldable pub either_line : List ℕ → TalkLine
either_line line = either_at (kind_of line) line

abbrev pub talk_of : TalkLine → TalkLine
talk_of (Board line) = Board (without_packet line)
talk_of (Ask request) = Ask request

abbrev pub talk_line : List ℕ → TalkLine
talk_line line = talk_of (either_line line)
