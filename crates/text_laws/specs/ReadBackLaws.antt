-- Laws of reading numbers back: what was written is read again, in hexadecimal at its width and without one, and in decimal.
use Rattle.std.specs.Prelude.{ℕ, zero, suc, ◌+◌, ◌-◌, ◌*◌, ◌/◌, ◌%◌, ◌^◌, ◌≤◌, ◌<◌, ◌≡◌, refl, Bool, true, false, cond, List, [], ◌∷◌, ltb, leb, length, Some}
use Rattle.std.proofs.Common.{◌∙◌, arith, mod-lt, mod-eq_of_lt, pow-suc, ltb-true, ltb-false, le-leb}
use Rattle.std.proofs.Math.Nat.{div-div-eq-div-mul, div-add-mod, mod-one, pow-zero}
use Rattle.numbers.specs.Numbers.{digit, all_digits, value_from, prefix_length, value, numeral}
use Rattle.numbers.specs.NumberLaws.{within, above}
use Rattle.numbers.specs.NumeralLaws.{digits_have_no_prefix}
use Rattle.text.specs.NumberText.{digit_text, digits_text, width_from, width, hex_text, number_text, decimal_text}
use Rattle.text.proofs.NumberTextLaws.{digits_length, width_holds}

-- digits read one by one, each by what it is worth, after those that made the number before them
abbrev pub read_from : (ℕ → ℕ) → ℕ → ℕ → List ℕ → ℕ
read_from worth base before [] = before
read_from worth base before (byte ∷ bytes) = read_from worth base (before * base + worth byte) bytes

-- the number that decimal digits make
abbrev pub decimal_worth : ℕ → ℕ
decimal_worth byte = byte - 48

abbrev pub decimal_value : List ℕ → ℕ
decimal_value word = read_from decimal_worth 10 0 word

-- the lowest digits of a number are one of them and those below it
mod_step : (base n p : ℕ) → n % (p * base) ≡ n / p % base * p + n % p
mod_step base n p =
    let whole = div-add-mod n p in
    let high = div-add-mod (n / p) base in
    let all = rw (← div-div-eq-div-mul n p base) at (div-add-mod n (p * base)) in
    let parts : p * (base * (n / p / base) + n / p % base) + n % p ≡ n = rw high whole in
    omega (arith, all, parts)

-- so many digits written are the number read, as far as so many hold it
read_digits : (worth : ℕ → ℕ) (base : ℕ) → 0 < base → ((d : ℕ) → d < base → worth (digit_text d) ≡ d) → (before k n : ℕ)
    → read_from worth base before (digits_text base k n) ≡ before * base ^ k + n % base ^ k
unfolding digits_text
read_digits worth base pos back before zero n = rw (pow-zero, mod-one) (omega arith)
read_digits worth base pos back before (suc k) n =
    read_digits worth base pos back (before * base + worth (digit_text (n / base ^ k % base))) k n
    ∙ rw (back (n / base ^ k % base) (mod-lt (n / base ^ k) pos), pow-suc, mod_step base n (base ^ k)) (omega arith)

digits_back : (worth : ℕ → ℕ) (base : ℕ) → 0 < base → ((d : ℕ) → d < base → worth (digit_text d) ≡ d) → (k n : ℕ) → n < base ^ k
    → read_from worth base 0 (digits_text base k n) ≡ n
digits_back worth base pos back k n h = read_digits worth base pos back 0 k n ∙ rw (mod-eq_of_lt h) (omega arith)

-- a digit written is the digit read, by those who read the desk's numbers
hex_worth : (d : ℕ) → d < 16 → digit (digit_text d) ≡ d
unfolding digit digit_text
hex_worth d h = by_test (ltb d 10) refl
  where
    by_test : (t : Bool) → ltb d 10 ≡ t → digit (cond t (48 + d) (55 + d)) ≡ d
    by_test true e =
        let low : d < 10 = ltb-true d 10 e in
        rw (within 48 57 (48 + d) (omega arith) (omega arith)) (omega arith)
    by_test false e =
        let high : 10 ≤ d = ltb-false d 10 e in
        rw (above 48 57 (55 + d) (omega arith), within 65 70 (55 + d) (omega arith) (omega arith)) (omega arith)

decimal_worth_lem : (d : ℕ) → d < 10 → decimal_worth (digit_text d) ≡ d
unfolding digit_text
decimal_worth_lem d h = by_test (ltb d 10) refl
  where
    by_test : (t : Bool) → ltb d 10 ≡ t → cond t (48 + d) (55 + d) - 48 ≡ d
    by_test true e = omega arith
    by_test false e = absurd (omega (arith, ltb-false d 10 e))

value_read : (before : ℕ) (word : List ℕ) → value_from before word ≡ read_from digit 16 before word
value_read before [] = refl
value_read before (byte ∷ word) = value_read (before * 16 + digit byte) word

all_digits_lem : (k n : ℕ) → all_digits (hex_text k n) ≡ true
unfolding digits_text
all_digits_lem zero n = refl
all_digits_lem (suc k) n =
    let d = n / 16 ^ k % 16 in
    let small : d < 16 = mod-lt (n / 16 ^ k) (omega arith) in
    let e : leb (digit (digit_text d)) 15 ≡ true = rw (hex_worth d small) (le-leb d 15 (omega arith)) in
    rw (e) (all_digits_lem k n)

-- what is written has no prefix
plain : (k n : ℕ) → prefix_length (hex_text k n) ≡ 0
plain k n = digits_have_no_prefix (hex_text k n) (all_digits_lem k n)

-- at its width
pub hex_back : (k n : ℕ) → n < 16 ^ k → value (hex_text k n) ≡ n
hex_back k n h = rw (plain k n) (value_read 0 (hex_text k n) ∙ digits_back digit 16 (omega arith) hex_worth k n h)

-- without one: 20 digits hold every number of 64 bits
pub number_back : (n : ℕ) → n < 16 ^ 20 → value (number_text n) ≡ n
number_back n h = hex_back (width 16 n) n (width_holds 16 n 19 1 h)

pub decimal_back : (n : ℕ) → n < 10 ^ 20 → decimal_value (decimal_text n) ≡ n
decimal_back n h = digits_back decimal_worth 10 (omega arith) decimal_worth_lem (width 10 n) n (width_holds 10 n 19 1 h)

-- and as a line's number is read, where it has a place of 32 bits
pub hex_numeral : (k n : ℕ) → 0 < k → n < 16 ^ k → n ≤ 0xFFFFFFFF → numeral (hex_text k n) ≡ Some n
unfolding numeral
hex_numeral k n some h fits =
    let one : 1 ≤ length (hex_text k n) = omega (arith, digits_length 16 k n) in
    rw (hex_back k n h, plain k n, le-leb 1 (length (hex_text k n)) one, all_digits_lem k n, le-leb n 0xFFFFFFFF fits)

width_some : (base n more k : ℕ) → 0 < k → 0 < width_from base n more k
unfolding width_from
width_some base n zero k h = h
width_some base n (suc more) k h = by_test (ltb n (base ^ k)) (width_some base n more (suc k) (omega arith))
  where
    by_test : (t : Bool) → 0 < width_from base n more (suc k) → 0 < cond t k (width_from base n more (suc k))
    by_test true next = h
    by_test false next = next

pub number_numeral : (n : ℕ) → n ≤ 0xFFFFFFFF → numeral (number_text n) ≡ Some n
number_numeral n fits =
    let wide : n < 16 ^ 20 = omega arith in
    hex_numeral (width 16 n) n (width_some 16 n 19 1 (omega arith)) (width_holds 16 n 19 1 wide) fits
