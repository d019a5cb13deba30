-- What a line is taken for in each of the desk's languages, what it leaves of the bench and of memory, and what is said to it.
use Rattle.std.specs.Prelude.{ℕ, List, take}
use Rattle.common_lines.specs.declared.CommonLine.{CommonLine}
use Rattle.common_lines.specs.declared.CommonLine.TheVariants.{Help, Quit, Other}
use Rattle.common_lines.specs.CommonLines.{common_line}
use Rattle.board_lines.specs.BoardLines.{board_line}
use Rattle.talk_lines.specs.declared.TalkLine.TheVariants.{Board as BoardAsked, Ask}
use Rattle.talk_lines.specs.TalkLines.{either_line, talk_line}
use Rattle.answers.specs.declared.Bench.{Bench}
use Rattle.answers.specs.Bench.{Left, left, over_lent, leaves}
use Rattle.answers.specs.declared.Answered.{Answered}
use Rattle.answers.specs.Said.{Answers}
use Rattle.line_answers.specs.LineSaid.{said}
use Rattle.asking.specs.Asking.{exchanged, exchange_said}
use Rattle.pod_answers.specs.PodSaid.{pod_said}
use Rattle.languages.specs.HelpText.{help_text, bye_text}
use Rattle.languages.specs.declared.Language.{Language}
use Rattle.languages.specs.declared.Language.TheVariants.{StandIn, Talk, Both, Pod}
use Rattle.languages.specs.declared.Heard.{Heard}
use Rattle.languages.specs.declared.Heard.TheVariants.{OfBench, OfPod, ForHelp, ToQuit}

-- the program's own lines; the morning's are stand_in's and talk's
unfoldable pub heard_own : Language → List ℕ → Heard
heard_own StandIn line = OfBench (BoardAsked (board_line line))
heard_own Talk line = OfBench (talk_line line)
heard_own Both line = OfBench (either_line line)
heard_own Pod line = OfPod

-- `help` and `quit` are lines of every program
abbrev pub heard_as : CommonLine → Language → List ℕ → Heard
heard_as Help language line = ForHelp language
heard_as Quit language line = ToQuit
heard_as Other language line = heard_own language line

unfoldable pub heard : Language → List ℕ → Heard
heard language line = heard_as (common_line line) language line

-- what a line leaves; one of the pod's, `help` and `quit` leave all as it was
unfoldable pub after : List ℕ → Heard → Bench → List ℕ → Left
after line (OfBench (BoardAsked asked)) bench m = leaves line asked bench m
after line (OfBench (Ask request)) bench m = over_lent (exchanged request) bench m
after line OfPod bench m = left bench m
after line (ForHelp language) bench m = left bench m
after line ToQuit bench m = left bench m

-- what is said to it
unfoldable pub said_to : List ℕ → Heard → Bench → List ℕ → List ℕ
said_to line (OfBench (BoardAsked asked)) bench m = said line asked bench m
said_to line (OfBench (Ask request)) bench m = exchange_said request bench (take bench.lent m)
said_to line OfPod bench m = pod_said line
said_to line (ForHelp language) bench m = help_text language
said_to line ToQuit bench m = bye_text

-- the promise of a line: what it leaves, and each byte of its answer
abbrev pub HeardMeets : List ℕ → Heard → Bench → List ℕ → List ℕ → Answered → List ℕ → List ℕ → Type 0
HeardMeets line heard bench m buffer r rest told = Answers (after line heard bench m) (said_to line heard bench m) buffer r rest told
