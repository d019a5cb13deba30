-- The file that `waits` is given (docs/waits.md): its lines, which of them it takes, what they leave and what is shown of them.
use Rattle.std.specs.Prelude.{ℕ, suc, ◌+◌, min, ◌≡◌, Bool, true, false, cond, ◌&&◌, ◌||◌, not, List, [], ◌∷◌, ◌++◌, eqb, length, take, Err, Ok, Result}
use Rattle.readings.specs.declared.Outcome.{Outcome}
use Rattle.grounds.specs.declared.Ground.{Ground}
use Rattle.words.specs.LineWords.{joined}
use Rattle.console.specs.InputLines.{is_line_end}
use Rattle.text.specs.Text.{Puts, ascii}
use Rattle.requests.specs.declared.Request.{Request}
use Rattle.board_lines.specs.declared.BoardLine.{BoardLine}
use Rattle.board_lines.specs.declared.BoardLine.TheVariants.{Nothing, Make, Memory, Bytes, Packet, Event, EventWithAccess, Breakpoint, Peek, State, Unclear}
use Rattle.talk_lines.specs.declared.TalkLine.{TalkLine}
use Rattle.talk_lines.specs.declared.TalkLine.TheVariants.{Board, Ask}
use Rattle.talk_lines.specs.TalkLines.{talk_line}
use Rattle.lent.specs.Lent.{fits}
use Rattle.refusal_text.specs.RefusalText.{refused_text}
use Rattle.request_text.specs.RequestText.{outcome_text}
use Rattle.answers.specs.Bench.{Left, left, over_lent, leaves}
use Rattle.asking.specs.Asking.{exchanged, exchange_outcome}
use Rattle.waits_lines.specs.declared.Gone.{Gone}

-- ---- the lines of the file
-- what lies before each line end, and behind the last one if anything does
abbrev pub file_lines : List ℕ → List (List ℕ)
file_lines [] = []
file_lines (byte ∷ bytes) = cond (is_line_end byte) ([] ∷ file_lines bytes) (joined byte (file_lines bytes))

-- the bytes of the first line
abbrev pub line_length : List ℕ → ℕ
line_length [] = 0
line_length (byte ∷ bytes) = cond (is_line_end byte) 0 (suc (line_length bytes))

-- "Here a line ends with LF, with CR or with CR LF": a line end, but for LF behind CR
abbrev pub ends_one : Bool → ℕ → Bool
ends_one afterCr byte = eqb byte 13 || (eqb byte 10 && not afterCr)

-- "lines counted from 1": the number of the line that comes behind such bytes
abbrev pub numbered : ℕ → Bool → List ℕ → ℕ
numbered n afterCr [] = n
numbered n afterCr (byte ∷ bytes) = numbered (cond (ends_one afterCr byte) (suc n) n) (eqb byte 13) bytes

abbrev pub line_number : List ℕ → ℕ
line_number before = numbered 1 false before

-- ---- which are taken
-- "`memory N` and `bytes A HEX` ..; an empty line and a comment. Any other line is none for it ..; so also `bytes` that do not fit"
abbrev pub prepares : BoardLine → ℕ → Bool
prepares Nothing lent = true
prepares (Make w) lent = false
prepares (Memory n) lent = true
prepares (Bytes address from count) lent = fits address count lent
prepares (Packet word) lent = false
prepares (Event pc mark) lent = false
prepares (EventWithAccess pc address attribute lanes mark) lent = false
prepares Breakpoint lent = false
prepares (Peek address count) lent = false
prepares State lent = false
prepares Unclear lent = false

-- "a REQUEST alone on its line"
abbrev pub is_taken : TalkLine → ℕ → Bool
is_taken (Board asked) lent = prepares asked lent
is_taken (Ask request) lent = true

-- ---- a line that is taken
abbrev pub left_as : List ℕ → TalkLine → Left → Left
left_as line (Board asked) l = leaves line asked l.bench l.memory
left_as line (Ask request) l = over_lent (exchanged request) l.bench l.memory

-- what the exchange answers
abbrev pub answer_in : Request → Left → Result (Outcome × ℕ) Ground
answer_in request l = exchange_outcome request l.bench (take l.bench.lent l.memory)

-- "what `talk` answers, without ` packets N`"
abbrev pub result_text : Result (Outcome × ℕ) Ground → List ℕ
result_text (Ok (outcome, packets)) = outcome_text outcome
result_text (Err why) = refused_text why

-- a refusal sends none
abbrev pub packets_in : Result (Outcome × ℕ) Ground → ℕ
packets_in (Ok (outcome, packets)) = packets
packets_in (Err why) = 0

-- "the request's line, byte by byte as it stands in the file without its line end, then `: ` and what `talk` answers"
abbrev pub row_text : List ℕ → Result (Outcome × ℕ) Ground → List ℕ
row_text line answer = line ++ ascii ": " ++ result_text answer ++ ascii "\n"

abbrev pub row_as : List ℕ → TalkLine → Left → List ℕ
row_as line (Board asked) l = []
row_as line (Ask request) l = row_text line (answer_in request l)

abbrev pub packets_as : TalkLine → Left → ℕ
packets_as (Board asked) l = 0
packets_as (Ask request) l = packets_in (answer_in request l)

-- ---- one line after another, up to the first that is not taken
abbrev pub taken_in : List ℕ → Left → Bool
taken_in line l = is_taken (talk_line line) l.bench.lent

abbrev pub left_by : List ℕ → Left → Left
left_by line l = left_as line (talk_line line) l

unfoldable pub all_taken : List (List ℕ) → Left → Bool
all_taken [] l = true
all_taken (line ∷ lines) l = cond (taken_in line l) (all_taken lines (left_by line l)) false

unfoldable pub lines_leave : List (List ℕ) → Left → Left
lines_leave [] l = l
lines_leave (line ∷ lines) l = cond (taken_in line l) (lines_leave lines (left_by line l)) l

unfoldable pub rows : List (List ℕ) → Left → List ℕ
rows [] l = []
rows (line ∷ lines) l = cond (taken_in line l) (row_as line (talk_line line) l ++ rows lines (left_by line l)) []

unfoldable pub packets : List (List ℕ) → Left → ℕ
packets [] l = 0
packets (line ∷ lines) l = cond (taken_in line l) (packets_as (talk_line line) l + packets lines (left_by line l)) 0

-- a sum, as far as a number of 64 bits goes
abbrev pub capped : ℕ → ℕ
capped n = min n 0xFFFFFFFFFFFFFFFF

-- the bytes of the file before the first line that is not taken; where all are, those of all lines with a line end each
unfoldable pub bytes_before : List (List ℕ) → Left → ℕ
bytes_before [] l = 0
bytes_before (line ∷ lines) l = cond (taken_in line l) (length line + 1 + bytes_before lines (left_by line l)) 0

-- ---- the promise of a file's lines, taken from the first on
pub record LinesTaken (lines : List (List ℕ)) (l : Left) (text : List ℕ) (r : Gone) (text' memory' : List ℕ) : Type 0 where
  -- the bench and memory
  pub stands : left r.bench memory' ≡ lines_leave lines l
  -- the rows of its requests, at the front of the text, and the packets
  pub rows : Puts text 0 (rows lines l) text' r.end
  pub packets : r.packets ≡ capped (packets lines l)
  -- whether all were taken, and where the first begins that was not
  pub taken : r.taken ≡ all_taken lines l
  pub stray : r.stray ≡ bytes_before lines l
