-- P9's rate ("[2]" of the desk's language), computed from the definition.
use Rattle.std.specs.Prelude.{◌≡◌, refl}
use Rattle.std.specs.Float.{binary64}
use Rattle.std.specs.Float.Ieee.{round, of_int, div, to_bits}
use Rattle.rate.specs.Rate.{quotient}

-- P9's nine cycles and three starts: "rate 3.00 bits 4008000000000000"
pub p9_bits : to_bits binary64 (quotient 9 3) ≡ 0x4008000000000000
unfolding to_bits div of_int round
p9_bits = refl
