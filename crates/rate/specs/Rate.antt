-- The rate (02, [2]): cycles by instruction starts, as a double and to two places.
use Rattle.std.specs.Prelude.{ℕ, ◌+◌, ◌*◌, ◌/◌, cond, eqb, pos, Float, None, Option, Some}
use Rattle.std.specs.Float.{binary64}
use Rattle.std.specs.Float.Ieee.{of_int, div, is_nan, to_bits}

-- "one division of the two counts in double precision, rounded once"
abbrev pub quotient : ℕ → ℕ → Float
quotient cycles starts = div binary64 (of_int binary64 (pos cycles)) (of_int binary64 (pos starts))

-- "and there is no rate where nothing started"
abbrev pub rate_of : ℕ → ℕ → Option Float
rate_of cycles starts = cond (eqb starts 0) None (Some (quotient cycles starts))

-- "bit for bit": the bits of a double, 0 for a NaN, which no rate is
abbrev pub pattern : Float → ℕ
pattern value = cond (is_nan value) 0 (to_bits binary64 value)

-- the paper's value for each case of a rate: its bits, or 0, which no rate has, where there is none
abbrev pub rate_bits : Option Float → ℕ
rate_bits None = 0
rate_bits (Some value) = pattern value

-- "cycles over starts to two places, half rounded up, from the two counts themselves", in hundredths
abbrev pub hundredths : ℕ → ℕ → ℕ
hundredths cycles starts = cond (eqb starts 0) 0 ((cycles * 200 + starts) / (starts * 2))
