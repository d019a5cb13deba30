-- The desk's language: the lines that every program has, `help` and `quit`.
use Rattle.std.specs.Prelude.{ℕ, Bool, true, false, List, [], ◌∷◌}
use Rattle.words.specs.declared.LineKind.{LineKind}
use Rattle.words.specs.declared.LineKind.TheVariants.{Silent, Clear, TooLong}
use Rattle.words.specs.LineWords.{ascii, kind_of, words}
use Rattle.words.specs.NameTable.{row, found}
use Rattle.common_lines.specs.declared.CommonLine.{CommonLine}
use Rattle.common_lines.specs.declared.CommonLine.TheVariants.{Help, Quit, Other}

-- `help`, `quit`
unfoldable pub common_name : List ℕ → CommonLine
common_name name = found Other name (row (ascii "help") Help ∷ row (ascii "quit") Quit ∷ [])

-- "Neither takes a number."
abbrev pub common_words : List (List ℕ) → CommonLine
common_words [] = Other
common_words (name ∷ []) = common_name name
common_words (name ∷ word ∷ more) = Other

abbrev pub common_at : LineKind → List ℕ → CommonLine
common_at Silent line = Other
common_at Clear line = common_words (words line)
common_at TooLong line = Other

unfoldable pub common_line : List ℕ → CommonLine
common_line line = common_at (kind_of line) line

-- "`quit` gets `bye` and ends the program"
abbrev pub is_quit : CommonLine → Bool
is_quit Help = false
is_quit Quit = true
is_quit Other = false

abbrev pub quits : List ℕ → Bool
quits line = is_quit (common_line line)
