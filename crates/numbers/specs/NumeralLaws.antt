-- Laws of numbers that a reader may expect: neither `0x`, leading zeros nor the case of digits matter.
use Rattle.std.specs.Prelude.{ℕ, zero, suc, ◌+◌, ◌*◌, ◌≤◌, ◌<◌, ◌≡◌, refl, Bool, true, false, List, [], ◌∷◌, ◌++◌, map, leb, eqb, length, take, drop}
use Rattle.std.proofs.Common.{arith, ap, ◌∙◌, le-leb, leb-true, leb-false, eqb-true}
use Rattle.std.proofs.Math.Bool.{and-false}
use Rattle.std.proofs.lemmas.List.{length-map}
use Rattle.laws.specs.TestLaws.{both_hold}
use Rattle.words.specs.LineWords.{ascii, lower}
use Rattle.words.specs.CaseLaws.{by_case, same_lower}
use Rattle.numbers.specs.Numbers.{digit, is_digit, all_digits, value_from, prefix_length, numeral}
use Rattle.numbers.specs.NumberLaws.{within, below, above}

-- "Case does not matter": A to F for a to f, and no other letter is a digit
digit_capital : (byte : ℕ) → 65 ≤ byte → byte ≤ 90 → digit (byte + 32) ≡ digit byte
unfolding digit
digit_capital byte l h = by_test (leb byte 70) refl
  where
    by_test : (t : Bool) → leb byte 70 ≡ t → digit (byte + 32) ≡ digit byte
    by_test true e =
        let high : byte ≤ 70 = leb-true byte 70 e in
        let no_digit = above 48 57 (byte + 32) (omega arith) in
        let no-capital = above 65 70 (byte + 32) (omega arith) in
        rw (above 48 57 byte (omega arith), within 65 70 byte l high, no_digit, no-capital, within 97 102 (byte + 32) (omega arith) (omega arith)) (omega arith)
    by_test false e =
        let high : 70 < byte = leb-false byte 70 e in
        let no_digit = above 48 57 (byte + 32) (omega arith) in
        let no-capital = above 65 70 (byte + 32) (omega arith) in
        let no_letter = above 97 102 (byte + 32) (omega arith) in
        rw (above 48 57 byte (omega arith), above 65 70 byte high, below 97 102 byte (omega arith), no_digit, no-capital, no_letter)

pub lower_digit : (byte : ℕ) → digit (lower byte) ≡ digit byte
lower_digit byte = by_case (λ b. digit b ≡ digit byte) byte (digit_capital byte) (λ h. refl, λ h. refl)

pub lower_digits : (word : List ℕ) → all_digits (map lower word) ≡ all_digits word
lower_digits [] = refl
lower_digits (byte ∷ word) = rw (lower_digit byte, lower_digits word)

lower_value : (before : ℕ) (word : List ℕ) → value_from before (map lower word) ≡ value_from before word
lower_value before [] = refl
lower_value before (byte ∷ word) = lower_value (before * 16 + digit (lower byte)) word ∙ ap (λ (d : ℕ). value_from (before * 16 + d) word) (lower_digit byte)

lower_take : (n : ℕ) (word : List ℕ) → take n (map lower word) ≡ map lower (take n word)
lower_take zero word = refl
lower_take (suc n) [] = refl
lower_take (suc n) (byte ∷ word) = ap (λ (bytes : List ℕ). lower byte ∷ bytes) (lower_take n word)

lower_drop : (n : ℕ) (word : List ℕ) → drop n (map lower word) ≡ map lower (drop n word)
lower_drop zero word = refl
lower_drop (suc n) [] = refl
lower_drop (suc n) (byte ∷ word) = lower_drop n word

lower_prefix : (word : List ℕ) → prefix_length (map lower word) ≡ prefix_length word
unfolding prefix_length
lower_prefix word = rw (lower_take 2 word, same_lower (take 2 word) (ascii "0x"))

pub lower_numeral : (word : List ℕ) → numeral (map lower word) ≡ numeral word
unfolding numeral
lower_numeral word =
    let digits = drop (prefix_length word) word in
    rw (lower_prefix word, lower_drop (prefix_length word) word, length-map digits lower, lower_digits digits, lower_value 0 digits)

-- "A number may have `0x` before it", once
pub with_prefix : (word : List ℕ) → prefix_length word ≡ 0 → numeral (ascii "0x" ++ word) ≡ numeral word
unfolding numeral prefix_length lower
with_prefix word e = rw e

-- "input may have leading zeros"; `00x` is none
digit_is_no_x : (byte : ℕ) → is_digit byte ≡ true → eqb (lower byte) 120 ≡ false
unfolding digit
digit_is_no_x byte e = by_test (eqb (lower byte) 120) refl
  where
    by_test : (t : Bool) → eqb (lower byte) 120 ≡ t → t ≡ false
    by_test true x = absurd (omega (arith, leb-true (digit byte) 15 e, lower_digit byte, ap digit (eqb-true (lower byte) 120 x)))
    by_test false x = refl

-- digits alone have no prefix
pub digits_have_no_prefix : (word : List ℕ) → all_digits word ≡ true → prefix_length word ≡ 0
unfolding prefix_length
digits_have_no_prefix [] h = refl
digits_have_no_prefix (byte ∷ []) h = rw and-false
digits_have_no_prefix (byte ∷ other ∷ word) h =
    let rest = (both_hold (is_digit byte) (all_digits (other ∷ word)) h).1 in
    rw (digit_is_no_x other (both_hold (is_digit other) (all_digits word) rest).0, and-false)

zero_is_no_prefix : (byte : ℕ) (word : List ℕ) → is_digit byte ≡ true → prefix_length (48 ∷ byte ∷ word) ≡ 0
unfolding prefix_length
zero_is_no_prefix byte word d = rw (digit_is_no_x byte d, and-false)

pub leading_zero : (byte : ℕ) (word : List ℕ) → is_digit byte ≡ true → prefix_length (byte ∷ word) ≡ 0 → numeral (48 ∷ byte ∷ word) ≡ numeral (byte ∷ word)
unfolding numeral digit
leading_zero byte word d e =
    rw (zero_is_no_prefix byte word d, e, le-leb 1 (suc (suc (length word))) (omega arith), le-leb 1 (suc (length word)) (omega arith))
