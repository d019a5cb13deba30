-- Events and firing (01): a bit of a register, and EBL among the bits of a level.
use Rattle.std.specs.Prelude.{ℕ, ◌/◌, ◌%◌, ◌^◌, Bool, eqb}

-- bit k is set
abbrev pub bit : ℕ → ℕ → Bool
bit k n = eqb (n / 2 ^ k % 2) 1

-- "TDR level 1, from bit 13 to 0: EBL, .. Level 2 is the same from bit 29 to 16": of TDR itself it is level 1's, of TDR without its low 16 bits level 2's
abbrev pub ebl_of : ℕ → Bool
ebl_of bits = bit 13 bits
