-- The desk's language: `event` lines, with the mark that [6] adds to them.
use Rattle.std.specs.Prelude.{ℕ, cond, List, [], ◌∷◌, leb, None, Option, Some}
use Rattle.halting.specs.declared.Privilege.{Privilege}
use Rattle.words.specs.LineWords.{ascii, same}
use Rattle.words.specs.NameTable.{row, found}
use Rattle.numbers.specs.declared.Numbers.{Numbers}
use Rattle.numbers.specs.declared.Numbers.TheVariants.{Zero, One, Two, Three, Four, NotNumbers}
use Rattle.numbers.specs.Numbers.{numeral, more}
use Rattle.halting.specs.declared.Privilege.TheVariants.{User, Supervisor}
use Rattle.board_lines.specs.declared.BoardLine.{BoardLine}
use Rattle.board_lines.specs.declared.BoardLine.TheVariants.{Event, EventWithAccess, Unclear}

-- "ATTRIBUTE one of 8" bits
abbrev pub access_line : ℕ → ℕ → ℕ → ℕ → Option Privilege → BoardLine
access_line pc address attribute lanes mark = cond (leb attribute 0xFF) (EventWithAccess pc address attribute lanes mark) Unclear

-- "`event PC` or `event PC ADDRESS ATTRIBUTE DATA`", and its mark
abbrev pub event_form : Numbers → Option Privilege → BoardLine
event_form Zero mark = Unclear
event_form (One pc) mark = Event pc mark
event_form (Two a b) mark = Unclear
event_form (Three a b c) mark = Unclear
event_form (Four pc address attribute lanes) mark = access_line pc address attribute lanes mark
event_form NotNumbers mark = Unclear

-- "`event PC .. halt user` or `.. halt supervisor`"
unfoldable pub halt_form : Numbers → List ℕ → BoardLine
halt_form before privilege =
    found Unclear privilege (row (ascii "user") (event_form before (Some User))
    ∷ row (ascii "supervisor") (event_form before (Some Supervisor))
    ∷ [])

-- "at the end of an event line": the words behind `halt`
abbrev pub halt_line : Numbers → List (List ℕ) → BoardLine
halt_line before [] = Unclear
halt_line before (privilege ∷ []) = halt_form before privilege
halt_line before (privilege ∷ word ∷ words) = Unclear

-- numbers up to `halt` or up to the end of the line
abbrev pub event_from : Numbers → List (List ℕ) → BoardLine
event_from before [] = event_form before None
event_from before (word ∷ words) = cond (same word (ascii "halt")) (halt_line before words) (event_from (more before (numeral word)) words)

-- the words behind `event`
unfoldable pub event_line : List (List ℕ) → BoardLine
event_line words = event_from Zero words
