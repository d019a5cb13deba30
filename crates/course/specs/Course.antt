-- The course of a conversation: line after line, each answered before the next is read.
use Rattle.std.specs.Prelude.{ℕ, ◌≡◌, cond, List, [], ◌∷◌, ◌++◌}
use Rattle.board.specs.Board.{fresh_board, fresh_place}
use Rattle.answers.specs.declared.Bench.{Bench}
use Rattle.answers.specs.Bench.{Left, left, bench_of}
use Rattle.console.specs.InputLines.{lines_served}
use Rattle.console.specs.LineWriting.{line_end, laid}
use Rattle.languages.specs.declared.Language.{Language}
use Rattle.course.specs.declared.Served.{Served}
use Rattle.common_lines.specs.CommonLines.{quits}
use Rattle.languages.specs.Heard.{heard, after, said_to}

-- "Starts as `make 0` with no memory."
abbrev pub opening : Bench
opening = bench_of (fresh_board 0) fresh_place 0

-- what a line of a language leaves
abbrev pub told : Language → List ℕ → Bench → List ℕ → Left
told language line bench m = after line (heard language line) bench m

-- what lines leave, one after the other: `quit` "ends the program", and so does the end of the input
abbrev pub course : Language → List (List ℕ) → Bench → List ℕ → Left
course language [] bench m = left bench m
course language (line ∷ lines) bench m =
    cond (quits line) (left bench m) (course language lines (told language line bench m).bench (told language line bench m).memory)

-- what is said to a line of a language
abbrev pub told_text : Language → List ℕ → Bench → List ℕ → List ℕ
told_text language line bench m = said_to line (heard language line) bench m

-- "One answer line": with its line end, and none where nothing is said
abbrev pub answer_line : List ℕ → List (List ℕ)
answer_line [] = []
answer_line (byte ∷ text) = (byte ∷ text ++ line_end) ∷ []

-- "One answer line for each input line": what is said to lines, in their order, each on what the lines before it left, up to `quit`
abbrev pub answer_lines : Language → List (List ℕ) → Bench → List ℕ → List (List ℕ)
answer_lines language [] bench m = []
answer_lines language (line ∷ lines) bench m =
    answer_line (told_text language line bench m)
    ++ cond (quits line) [] (answer_lines language lines (told language line bench m).bench (told language line bench m).memory)

-- the promise of one line: what it leaves, and its answer at the front of the text
pub record ServedMeets (language : Language) (line : List ℕ) (bench : Bench) (m buffer : List ℕ) (r : Served) (after text : List ℕ) : Type 0 where
  pub board : r.bench ≡ (told language line bench m).bench
  pub memory : after ≡ (told language line bench m).memory
  pub over : r.over ≡ quits line
  pub said : text ≡ laid buffer (answer_line (told_text language line bench m))

-- the promise of a conversation: the lines of what was unread and of some bytes, which reads have brought, were served in their order, and their answers
-- were put at the front of the text in that order
pub record CourseMeets (language : Language) (unread : List ℕ) (bench : Bench) (m buffer : List ℕ) (r : Bench) (after text : List ℕ) : Type 0 where
  pub brought : List ℕ
  pub board : r ≡ (course language (lines_served unread brought) bench m).bench
  pub memory : after ≡ (course language (lines_served unread brought) bench m).memory
  pub said : text ≡ laid buffer (answer_lines language (lines_served unread brought) bench m)
