-- What is said to a line of the board's (the desk's language, `stand_in`), and the promise of a line: what it leaves, and each byte of its answer.
use Rattle.std.specs.Prelude.{ℕ, List, [], take}
use Rattle.board.specs.Board.{making_verdict}
use Rattle.bus.specs.Events.{event_outcome, breakpoint_outcome}
use Rattle.lent.specs.Lent.{fits}
use Rattle.refusal_text.specs.RefusalText.{unclear_text}
use Rattle.replies.specs.ReplyText.{packet_text, event_text, breakpoint_text}
use Rattle.state_line.specs.StateText.{state_text}
use Rattle.board_lines.specs.declared.BoardLine.{BoardLine}
use Rattle.board_lines.specs.declared.BoardLine.TheVariants.{Nothing, Make, Memory, Bytes, Packet, Event as EventLine}
use Rattle.board_lines.specs.declared.BoardLine.TheVariants.{EventWithAccess, Breakpoint, Peek, State, Unclear}
use Rattle.answers.specs.declared.Bench.{Bench}
use Rattle.answers.specs.declared.Answered.{Answered}
use Rattle.answers.specs.Bench.{start, access, leaves}
use Rattle.answers.specs.Said.{made_text, memory_text, bytes_put_text, peeked_text, packet_outcome, Answers}

-- "An empty line and a line that begins with `#` get no answer": no text
unfoldable pub said : List ℕ → BoardLine → Bench → List ℕ → List ℕ
said line Nothing bench m = []
said line (Make w) bench m = made_text (making_verdict w)
said line (Memory n) bench m = memory_text n
said line (Bytes address from count) bench m = bytes_put_text (fits address count bench.lent) count
said line (Packet word) bench m = packet_text (packet_outcome word bench (take bench.lent m))
said line (EventLine pc mark) bench m = event_text (event_outcome bench.board bench.place (start pc mark))
said line (EventWithAccess pc address attribute lanes mark) bench m =
    event_text (event_outcome bench.board bench.place (access pc address attribute lanes mark))
said line Breakpoint bench m = breakpoint_text (breakpoint_outcome bench.board bench.place)
said line (Peek address count) bench m = peeked_text (fits address count bench.lent) m address count
said line State bench m = state_text bench.board bench.place
said line Unclear bench m = unclear_text

abbrev pub LineMeets : List ℕ → BoardLine → Bench → List ℕ → List ℕ → Answered → List ℕ → List ℕ → Type 0
LineMeets line asked bench m buffer r after told = Answers (leaves line asked bench m) (said line asked bench m) buffer r after told
