-- Laws of numbers: reading digit by digit, behind `0x` or without it.
use Rattle.std.specs.Prelude.{ℕ, ◌+◌, ◌*◌, ◌%◌, ◌<◌, ◌≤◌, ◌≡◌, refl, Bool, true, false, cond, ◌&&◌, List, [], ◌∷◌, leb, length, get_or, take, drop, None}
use Rattle.std.specs.Prelude.{Option, Some}
use Rattle.std.proofs.Common.{arith, ap, sym, ◌∙◌, length-take, length-drop, drop_of_length-le, le-leb}
use Rattle.std.proofs.Math.Bool.{and-false}
use Rattle.std.proofs.Math.ListN.{get_or-eq_default}
use Rattle.std.proofs.lemmas.Bool.{lt-leb}
use Rattle.numbers.specs.Numbers.{digit, all_digits, value_from, prefix_length, value, numeral, is_numeral, more, gathered, byte_at}
use Rattle.numbers.specs.declared.Numbers.{Numbers}
use Rattle.words.specs.LineWords.{ascii}
use Rattle.words.specs.LineWordLaws.{from_here, same_length}

-- a byte within a range, below it and above it
pub within : (low high byte : ℕ) → low ≤ byte → byte ≤ high → leb low byte && leb byte high ≡ true
within low high byte l h = rw (le-leb low byte l, le-leb byte high h)

pub below : (low high byte : ℕ) → byte < low → leb low byte && leb byte high ≡ false
below low high byte l = rw (lt-leb low byte l)

pub above : (low high byte : ℕ) → high < byte → leb low byte && leb byte high ≡ false
above low high byte h = rw (lt-leb byte high h, and-false)

pub ruleset by_range = (within, below, above)

-- digits checked one by one
pub digits_go_on : (word : List ℕ) (i : ℕ) → i < length word → digit (get_or word i 0) ≤ 15 → all_digits (drop i word) ≡ all_digits (drop (i + 1) word)
digits_go_on word i h e = rw (from_here word i h, le-leb _ _ e)

pub digits_stop : (word : List ℕ) (i : ℕ) → i < length word → 15 < digit (get_or word i 0) → all_digits (drop i word) ≡ false
digits_stop word i h e = rw (from_here word i h, lt-leb _ _ e)

pub digits_end : (word : List ℕ) (i : ℕ) → length word ≤ i → all_digits (drop i word) ≡ true
digits_end word i h = rw (drop_of_length-le word h)

-- the number that the rest of a word makes after the number before it
abbrev pub numeral_from : ℕ → List ℕ → Option ℕ
numeral_from before rest = cond (all_digits rest && leb (value_from before rest) 0xFFFFFFFF) (Some (value_from before rest)) None

value_grows : (before : ℕ) (rest : List ℕ) → before ≤ value_from before rest
value_grows before [] = omega arith
value_grows before (byte ∷ rest) = omega (arith, value_grows (before * 16 + digit byte) rest)

pub number_goes_on : (word : List ℕ) (i before : ℕ) → i < length word → digit (get_or word i 0) ≤ 15
    → numeral_from before (drop i word) ≡ numeral_from (before * 16 + digit (get_or word i 0)) (drop (i + 1) word)
number_goes_on word i before h e = rw (from_here word i h, le-leb _ _ e)

pub number_bad : (word : List ℕ) (i before : ℕ) → i < length word → 15 < digit (get_or word i 0) → numeral_from before (drop i word) ≡ None
number_bad word i before h e = rw (from_here word i h, lt-leb _ _ e)

-- seven digits on, a number of more than 28 bits is too wide
pub number_wide : (word : List ℕ) (i before : ℕ) → i < length word → 0x0FFFFFFF < before → numeral_from before (drop i word) ≡ None
number_wide word i before h w =
    let grown = value_grows (before * 16 + digit (get_or word i 0)) (drop (i + 1) word) in
    rw (from_here word i h, lt-leb (value_from (before * 16 + digit (get_or word i 0)) (drop (i + 1) word)) 0xFFFFFFFF (omega arith), and-false)

pub number_ends : (word : List ℕ) (i before : ℕ) → length word ≤ i → before ≤ 0xFFFFFFFF → numeral_from before (drop i word) ≡ Some before
number_ends word i before h e = rw (drop_of_length-le word h, le-leb before 0xFFFFFFFF e)

-- where the digits start: behind `0x`, or where the word does
pub no_prefix : (word : List ℕ) → length word < 2 → prefix_length word ≡ 0
unfolding prefix_length
no_prefix word h =
    let short : length (take 2 word) ≡ length (ascii "0x") → ⊥ = λ e. omega (arith, length-take 2 word, h, e) in
    rw (same_length (take 2 word) (ascii "0x") short)

pub number_empty : (word : List ℕ) (start : ℕ) → start ≡ prefix_length word → length word ≤ start → numeral word ≡ None
unfolding numeral
number_empty word start p h = rw (lt-leb 1 (length (drop (prefix_length word) word)) (omega (arith, length-drop (prefix_length word) word)))

pub number_begins : (word : List ℕ) (start : ℕ) → start ≡ prefix_length word → start < length word → numeral word ≡ numeral_from 0 (drop start word)
unfolding numeral
number_begins word start p h = rw (p, le-leb 1 (length (drop (prefix_length word) word)) (omega (arith, length-drop (prefix_length word) word)))

-- a byte whose digits are not both there
pub byte_out : (line : List ℕ) (at : ℕ) → length line ≤ at → byte_at line at ≡ 0
unfolding digit
byte_out line at h =
    let h' : length line ≤ at + 1 = omega arith in
    rw (get_or-eq_default line 0 h, get_or-eq_default line 0 h')

pub byte_half : (line : List ℕ) (at : ℕ) → length line ≤ at + 1 → byte_at line at ≡ digit (get_or line at 0) % 16 * 16
unfolding digit
byte_half line at h = rw (get_or-eq_default line 0 h) (omega arith)

-- a word is a number or is none
pub numeral_value : (word : List ℕ) (n : ℕ) → numeral word ≡ Some n → (is_numeral word ≡ true) × (value word ≡ n)
unfolding numeral
numeral_value word n e = by_test (is_numeral word) e
  where
    by_test : (t : Bool) → cond t (Some (value word)) None ≡ Some n → (t ≡ true) × (value word ≡ n)
    by_test true e = (refl, cc)
    by_test false e = (cc, cc)

pub numeral_none : (word : List ℕ) → numeral word ≡ None → is_numeral word ≡ false
unfolding numeral
numeral_none word e = by_test (is_numeral word) e
  where
    by_test : (t : Bool) → cond t (Some (value word)) None ≡ None → t ≡ false
    by_test true e = cc
    by_test false e = refl

pub gather_goes_on : (before after : Numbers) (n : Option ℕ) (word : List ℕ) (words : List (List ℕ)) → n ≡ numeral word → after ≡ more before n
    → gathered before (word ∷ words) ≡ gathered after words
gather_goes_on before after n word words p q = ap (λ (x : Numbers). gathered x words) (sym (q ∙ ap (more before) p))
