-- What is computed from the masked comparison: the drawing of docs/lanes.md, and the same with one bit more on the bus.
use Rattle.std.specs.Prelude.{◌≡◌, refl, true, false}
use Rattle.comparators.specs.Masks.{agree}

pub drawn_agrees : agree 0x00FF000F 0x12345678 0x12AA5670 ≡ true
unfolding agree
drawn_agrees = refl

pub one_bit_differs : agree 0x00FF000F 0x12345778 0x12AA5670 ≡ false
unfolding agree
one_bit_differs = refl
