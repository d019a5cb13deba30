-- The desk's language: a line, as the list of its bytes without the line end, and its words.
use Rattle.std.specs.Prelude.{ℕ, suc, ◌+◌, Bool, true, false, cond, ◌&&◌, ◌||◌, List, [], ◌∷◌, leb, eqb, length, drop}
pub use Rattle.laws.specs.Ascii.{ascii}
use Rattle.words.specs.declared.LineKind.{LineKind}
use Rattle.words.specs.declared.LineKind.TheVariants.{Silent, Clear, TooLong}

-- "Words are parted by one or more spaces or tabs"
unfoldable pub is_gap : ℕ → Bool
is_gap byte = eqb byte 32 || eqb byte 9

-- "A line of nothing else is an empty line, and a line whose first other character is `#` is a comment"
abbrev pub is_silent : List ℕ → Bool
is_silent [] = true
is_silent (byte ∷ bytes) = cond (is_gap byte) (is_silent bytes) (eqb byte 35)

-- ".. get no answer and change nothing. Any other line that .. is longer than 4,096 bytes gets `unclear`"
unfoldable pub kind_of : List ℕ → LineKind
kind_of line = cond (is_silent line) Silent (cond (leb (length line) 4096) Clear TooLong)

-- a byte that goes on with the first part of those that follow it
abbrev pub joined : ℕ → List (List ℕ) → List (List ℕ)
joined byte [] = (byte ∷ []) ∷ []
joined byte (part ∷ parts) = (byte ∷ part) ∷ parts

-- every space and tab parts, so two together leave an empty part between them ..
abbrev pub parts : List ℕ → List (List ℕ)
parts [] = [] ∷ []
parts (byte ∷ bytes) = cond (is_gap byte) ([] ∷ parts bytes) (joined byte (parts bytes))

-- .. "those before the first word and after the last do not count": an empty part is no word
abbrev pub full : List (List ℕ) → List (List ℕ)
full [] = []
full ([] ∷ more) = full more
full ((byte ∷ part) ∷ more) = (byte ∷ part) ∷ full more

abbrev pub words : List ℕ → List (List ℕ)
words line = full (parts line)

-- the words from a place of the line on
abbrev pub words_from : List ℕ → ℕ → List (List ℕ)
words_from line at = words (drop at line)

-- the spaces and tabs before the first word
abbrev pub gap_length : List ℕ → ℕ
gap_length [] = 0
gap_length (byte ∷ bytes) = cond (is_gap byte) (suc (gap_length bytes)) 0

-- the bytes of the word that begins here
abbrev pub word_length : List ℕ → ℕ
word_length [] = 0
word_length (byte ∷ bytes) = cond (is_gap byte) 0 (suc (word_length bytes))

-- the bytes up to the end of the last word
abbrev pub last_end : List ℕ → ℕ
last_end [] = 0
last_end (byte ∷ bytes) = cond (is_gap byte && eqb (last_end bytes) 0) 0 (suc (last_end bytes))

-- a letter as a small letter
unfoldable pub lower : ℕ → ℕ
lower byte = cond (leb 65 byte && leb byte 90) (byte + 32) byte

-- "Case does not matter": a word is a name, which has no capitals
abbrev pub same : List ℕ → List ℕ → Bool
same [] [] = true
same [] (b ∷ name) = false
same (a ∷ word) [] = false
same (a ∷ word) (b ∷ name) = eqb (lower a) b && same word name
