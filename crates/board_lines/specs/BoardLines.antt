-- The desk's language: the lines of `stand_in`.
use Rattle.std.specs.Prelude.{ℕ, ◌-◌, ◌/◌, ◌%◌, Bool, cond, ◌&&◌, List, [], ◌∷◌, leb, eqb, length, None, Option, Some}
use Rattle.words.specs.declared.LineKind.{LineKind}
use Rattle.words.specs.declared.LineKind.TheVariants.{Silent, Clear, TooLong}
use Rattle.numbers.specs.declared.Numbers.{Numbers}
use Rattle.numbers.specs.declared.Numbers.TheVariants.{Zero, One, Two, Three, Four, NotNumbers}
use Rattle.words.specs.LineWords.{ascii, kind_of, words, last_end}
use Rattle.numbers.specs.Numbers.{all_digits, numeral, numbers}
use Rattle.board_lines.specs.declared.BoardLine.{BoardLine}
use Rattle.board_lines.specs.declared.BoardLine.TheVariants.{Nothing, Make, Memory, Bytes, Packet}
use Rattle.board_lines.specs.declared.BoardLine.TheVariants.{Breakpoint, Peek, State, Unclear}
use Rattle.words.specs.NameTable.{row, found}
use Rattle.board_lines.specs.EventLines.{event_line}

-- "N up to 10010"
abbrev pub memory_line : ℕ → BoardLine
memory_line n = cond (leb n 0x10010) (Memory n) Unclear

-- "N from 1 to 400"
abbrev pub peek_line : ℕ → ℕ → BoardLine
peek_line a n = cond (leb 1 n && leb n 0x400) (Peek a n) Unclear

-- `breakpoint`, `state`
unfoldable pub board_of_none : List ℕ → BoardLine
board_of_none name = found Unclear name (row (ascii "breakpoint") Breakpoint ∷ row (ascii "state") State ∷ [])

-- `make W`, `memory N`, `packet X`
unfoldable pub board_of_one : List ℕ → ℕ → BoardLine
board_of_one name n =
    found Unclear name (row (ascii "make") (Make n)
    ∷ row (ascii "memory") (memory_line n)
    ∷ row (ascii "packet") (Packet n)
    ∷ [])

-- `peek A N`
unfoldable pub board_of_two : List ℕ → ℕ → ℕ → BoardLine
board_of_two name a n = found Unclear name (row (ascii "peek") (peek_line a n) ∷ [])

abbrev pub board_form : List ℕ → Numbers → BoardLine
board_form name Zero = board_of_none name
board_form name (One n) = board_of_one name n
board_form name (Two a n) = board_of_two name a n
board_form name (Three a b c) = Unclear
board_form name (Four a b c d) = Unclear
board_form name NotNumbers = Unclear

-- "the N bytes HEX (two digits each)": whole bytes, and at least one
abbrev pub is_hex : List ℕ → Bool
is_hex hex = leb 2 (length hex) && (eqb (length hex % 2) 0 && all_digits hex)

-- the digits are the last word; "In HEX of `bytes` there is no `0x`": its `x` is no digit
unfoldable pub hex_line : ℕ → Option ℕ → List ℕ → BoardLine
hex_line close (Some a) hex = cond (is_hex hex) (Bytes a (close - length hex) (length hex / 2)) Unclear
hex_line close None hex = Unclear

-- `bytes A HEX`, in a line whose last word ends there
abbrev pub bytes_line : ℕ → List (List ℕ) → BoardLine
bytes_line close [] = Unclear
bytes_line close (a ∷ []) = Unclear
bytes_line close (a ∷ hex ∷ []) = hex_line close (numeral a) hex
bytes_line close (a ∷ hex ∷ b ∷ more) = Unclear

-- behind `bytes` and `event` stand words of their own, behind any other name numbers
unfoldable pub board_words : ℕ → List (List ℕ) → BoardLine
board_words close [] = Unclear
board_words close (name ∷ rest) =
    found (board_form name (numbers rest)) name (row (ascii "bytes") (bytes_line close rest) ∷ row (ascii "event") (event_line rest) ∷ [])

abbrev pub board_at : LineKind → List ℕ → BoardLine
board_at Silent line = Nothing
board_at Clear line = board_words (last_end line) (words line)
board_at TooLong line = Unclear

unfoldable pub board_line : List ℕ → BoardLine
board_line line = board_at (kind_of line) line
