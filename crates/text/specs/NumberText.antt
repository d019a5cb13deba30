-- Numbers as text (the desk's language): "upper-case hexadecimal without a prefix .. unless said", and then decimal.
use Rattle.std.specs.Prelude.{ℕ, zero, suc, ◌+◌, ◌/◌, ◌%◌, ◌^◌, cond, List, [], ◌∷◌, ltb}

-- `0` to `9`, then `A` to `F`
unfoldable pub digit_text : ℕ → ℕ
digit_text d = cond (ltb d 10) (48 + d) (55 + d)

-- the last so many digits of a number in a base, the highest first
unfoldable pub digits_text : ℕ → ℕ → ℕ → List ℕ
digits_text base zero n = []
digits_text base (suc k) n = digit_text (n / base ^ k % base) ∷ digits_text base k n

-- the fewest digits that hold a number, from so many on, and at most so many more
unfoldable pub width_from : ℕ → ℕ → ℕ → ℕ → ℕ
width_from base n zero k = k
width_from base n (suc more) k = cond (ltb n (base ^ k)) k (width_from base n more (suc k))

-- 0 has one digit; 20 digits hold every number of 64 bits
abbrev pub width : ℕ → ℕ → ℕ
width base n = width_from base n 19 1

-- "X with five digits", "P eight digits" ..: with leading zeros
abbrev pub hex_text : ℕ → ℕ → List ℕ
hex_text digits n = digits_text 16 digits n

-- without leading zeros
abbrev pub number_text : ℕ → List ℕ
number_text n = digits_text 16 (width 16 n) n

-- "N decimal": without leading zeros
abbrev pub decimal_text : ℕ → List ℕ
decimal_text n = digits_text 10 (width 10 n) n
