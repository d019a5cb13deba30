-- The desk's language: the lines of an input, which is the list of its bytes.
use Rattle.std.specs.Prelude.{ℕ, ◌-◌, ◌^◌, Bool, true, false, cond, ◌||◌, List, [], ◌∷◌, ◌++◌, eqb, take}
use Rattle.words.specs.LineWords.{joined}

-- "A line ends with LF or with CR."
unfoldable pub is_line_end : ℕ → Bool
is_line_end byte = eqb byte 10 || eqb byte 13

-- what lies between line ends; "The end of the input ends the program, with or without a line end before it": what lies behind the last is a line too,
-- an empty one where nothing does
abbrev pub lines_of : List ℕ → List (List ℕ)
lines_of [] = [] ∷ []
lines_of (byte ∷ bytes) = cond (is_line_end byte) ([] ∷ lines_of bytes) (joined byte (lines_of bytes))

-- of bytes that have come, those of the first line, whether it has ended, and those that are left
abbrev pub first_line : List ℕ → List ℕ
first_line [] = []
first_line (byte ∷ bytes) = cond (is_line_end byte) [] (byte ∷ first_line bytes)

abbrev pub has_ended : List ℕ → Bool
has_ended [] = false
has_ended (byte ∷ bytes) = cond (is_line_end byte) true (has_ended bytes)

abbrev pub left_over : List ℕ → List ℕ
left_over [] = []
left_over (byte ∷ bytes) = cond (is_line_end byte) bytes (left_over bytes)

-- a program has a budget of lines, which no input uses up
unfoldable pub most_lines : ℕ
most_lines = 2 ^ 64 - 1

-- the lines that it serves, of what was unread and what reads have brought since
abbrev pub lines_served : List ℕ → List ℕ → List (List ℕ)
lines_served unread brought = take most_lines (lines_of (unread ++ brought))
