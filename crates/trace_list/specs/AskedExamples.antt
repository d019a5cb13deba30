-- What FROM's word comes to, computed from the definition: bytes are ASCII, '0' is 0x30.
use Rattle.std.specs.Prelude.{◌≡◌, refl, [], ◌∷◌}
use Rattle.trace_list.specs.declared.asked.Asked.TheVariants.{From, Unclear}
use Rattle.trace_list.specs.Asked.{decimal, from_of}

pub record Shown : Type 0 where
  -- "0", "256", "00256" and the greatest multiple of 32 bits, "4294967040"
  pub first : from_of (0x30 ∷ []) ≡ From 0
  pub second : from_of (0x32 ∷ 0x35 ∷ 0x36 ∷ []) ≡ From 256
  pub zeros : from_of (0x30 ∷ 0x30 ∷ 0x32 ∷ 0x35 ∷ 0x36 ∷ []) ≡ From 256
  pub greatest : from_of (0x34 ∷ 0x32 ∷ 0x39 ∷ 0x34 ∷ 0x39 ∷ 0x36 ∷ 0x37 ∷ 0x30 ∷ 0x34 ∷ 0x30 ∷ []) ≡ From 4294967040
  -- "4294967296" is too wide
  pub too_wide : from_of (0x34 ∷ 0x32 ∷ 0x39 ∷ 0x34 ∷ 0x39 ∷ 0x36 ∷ 0x37 ∷ 0x32 ∷ 0x39 ∷ 0x36 ∷ []) ≡ Unclear
  -- "128" and "255" are no multiples of 256
  pub half : from_of (0x31 ∷ 0x32 ∷ 0x38 ∷ []) ≡ Unclear
  pub odd : from_of (0x32 ∷ 0x35 ∷ 0x35 ∷ []) ≡ Unclear
  -- no byte, and the bytes beside the digits, where "127:" and "128/" could be taken for 1280
  pub none : from_of [] ≡ Unclear
  pub colon : from_of (0x31 ∷ 0x32 ∷ 0x37 ∷ 0x3A ∷ []) ≡ Unclear
  pub slash : from_of (0x31 ∷ 0x32 ∷ 0x38 ∷ 0x2F ∷ []) ≡ Unclear

pub shown : Shown
unfolding decimal from_of
shown =
    record {
      first = refl;
      second = refl;
      zeros = refl;
      greatest = refl;
      too_wide = refl;
      half = refl;
      odd = refl;
      none = refl;
      colon = refl;
      slash = refl;
    }
