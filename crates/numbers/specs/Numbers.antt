-- The desk's language: numbers, and the numbers of a line.
use Rattle.std.specs.Prelude.{ℕ, ◌+◌, ◌-◌, ◌*◌, ◌%◌, Bool, cond, ◌&&◌, List, [], ◌∷◌, leb, length, get_or, take, drop, None, Option, Some}
use Rattle.std.specs.List.{list_all}
use Rattle.words.specs.LineWords.{ascii, same}
use Rattle.numbers.specs.declared.Numbers.{Numbers}
use Rattle.numbers.specs.declared.Numbers.TheVariants.{Zero, One, Two, Three, Four, NotNumbers}

-- "Numbers are .. hexadecimal", "Case does not matter, in words as in digits": 0 to 9, A to F and a to f; 16 stands for any other byte
unfoldable pub digit : ℕ → ℕ
digit byte =
    cond (leb 48 byte && leb byte 57) (byte - 48)
    (cond (leb 65 byte && leb byte 70) (byte - 55)
    (cond (leb 97 byte && leb byte 102) (byte - 87) 16))

abbrev pub is_digit : ℕ → Bool
is_digit byte = leb (digit byte) 15

abbrev pub all_digits : List ℕ → Bool
all_digits = list_all is_digit

-- the number that digits make after those that made the number before them
abbrev pub value_from : ℕ → List ℕ → ℕ
value_from before [] = before
value_from before (byte ∷ bytes) = value_from (before * 16 + digit byte) bytes

-- "A number may have `0x` before it"
unfoldable pub prefix_length : List ℕ → ℕ
prefix_length word = cond (same (take 2 word) (ascii "0x")) 2 0

abbrev pub digits_of : List ℕ → List ℕ
digits_of word = drop (prefix_length word) word

abbrev pub value : List ℕ → ℕ
value word = value_from 0 (digits_of word)

-- "at least one digit must follow"; "input may have leading zeros", "Each number has a place of 32 bits": it is the value that fits
abbrev pub is_numeral : List ℕ → Bool
is_numeral word = leb 1 (length (digits_of word)) && (all_digits (digits_of word) && leb (value word) 0xFFFFFFFF)

unfoldable pub numeral : List ℕ → Option ℕ
numeral word = cond (is_numeral word) (Some (value word)) None

-- one number more, up to four
abbrev pub more : Numbers → Option ℕ → Numbers
more before None = NotNumbers
more Zero (Some a) = One a
more (One a) (Some b) = Two a b
more (Two a b) (Some c) = Three a b c
more (Three a b c) (Some d) = Four a b c d
more (Four a b c d) (Some e) = NotNumbers
more NotNumbers (Some a) = NotNumbers

abbrev pub gathered : Numbers → List (List ℕ) → Numbers
gathered before [] = before
gathered before (word ∷ words) = gathered (more before (numeral word)) words

-- the words as numbers, in their order
abbrev pub numbers : List (List ℕ) → Numbers
numbers words = gathered Zero words

-- the byte of two digits at a place; what is no digit counts as 0
abbrev pub byte_at : List ℕ → ℕ → ℕ
byte_at line at = digit (get_or line at 0) % 16 * 16 + digit (get_or line (at + 1) 0) % 16
