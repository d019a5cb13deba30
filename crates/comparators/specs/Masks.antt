-- Events and firing (01): the masked comparison.
use Rattle.std.specs.Prelude.{ℕ, Bool, not, cond, eqb}
use Rattle.std.specs.Int.Bits.{bit_or}

-- "the bits .. where PBMR is 0 agree": a bit that the mask sets is set on both sides before they are compared
unfoldable pub agree : ℕ → ℕ → ℕ → Bool
agree mask a b = eqb (bit_or a mask) (bit_or b mask)

-- "turns the comparison round"
abbrev pub turned : Bool → Bool → Bool
turned invert agreed = cond invert (not agreed) agreed
