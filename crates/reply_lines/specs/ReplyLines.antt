-- The desk's language, `gateway`: the answers that it reads, and the words behind the program's name.
use Rattle.std.specs.Prelude.{ℕ, List, [], ◌∷◌, None, Option, Some}
use Rattle.words.specs.declared.LineKind.{LineKind}
use Rattle.words.specs.declared.LineKind.TheVariants.{Silent, Clear, TooLong}
use Rattle.numbers.specs.declared.Numbers.{Numbers}
use Rattle.numbers.specs.declared.Numbers.TheVariants.{Zero, One, Two, Three, Four, NotNumbers}
use Rattle.words.specs.LineWords.{ascii, kind_of, words}
use Rattle.words.specs.NameTable.{row, found}
use Rattle.numbers.specs.Numbers.{numbers}
use Rattle.reply_lines.specs.declared.ReplyLine.{ReplyLine}
use Rattle.reply_lines.specs.declared.ReplyLine.TheVariants.{Nothing, Reply, NoReply}

-- `reply X`
unfoldable pub reply_of_one : List ℕ → ℕ → ReplyLine
reply_of_one name n = found NoReply name (row (ascii "reply") (Reply n) ∷ [])

abbrev pub reply_form : List ℕ → Numbers → ReplyLine
reply_form name Zero = NoReply
reply_form name (One n) = reply_of_one name n
reply_form name (Two a b) = NoReply
reply_form name (Three a b c) = NoReply
reply_form name (Four a b c d) = NoReply
reply_form name NotNumbers = NoReply

unfoldable pub reply_words : List (List ℕ) → ReplyLine
reply_words [] = NoReply
reply_words (name ∷ rest) = reply_form name (numbers rest)

-- an empty line and a comment are no answers: the next line is read
abbrev pub reply_at : LineKind → List ℕ → ReplyLine
reply_at Silent line = Nothing
reply_at Clear line = reply_words (words line)
reply_at TooLong line = NoReply

unfoldable pub reply_line : List ℕ → ReplyLine
reply_line line = reply_at (kind_of line) line

-- "Arguments: none, or ADDRESS LONGWORDS (hexadecimal ..)"
abbrev pub table_of : Option ℕ → Option ℕ → Option (ℕ × ℕ)
table_of (Some address) (Some longwords) = Some (address, longwords)
table_of (Some address) None = None
table_of None longwords = None
