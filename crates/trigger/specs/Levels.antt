-- Events and firing (01): the two levels of TDR.
use Rattle.std.specs.Prelude.{ℕ, ◌/◌, ◌^◌, Bool}
use Rattle.board.specs.RegisterBits.{bit, ebl_of}
use Rattle.comparators.specs.declared.Level.{Level}

-- "from bit 13 to 0: EBL, EDLW, EDWL, EDWU, EDLL, EDLM, EDUM, EDUU, DI, EAI, EAR, EAL, EPC, PCI"
unfoldable pub level_of : ℕ → Bool → Level
level_of bits t = record {
  t = t;
  ebl = ebl_of bits;
  edlw = bit 12 bits;
  edwl = bit 11 bits;
  edwu = bit 10 bits;
  edll = bit 9 bits;
  edlm = bit 8 bits;
  edum = bit 7 bits;
  eduu = bit 6 bits;
  di = bit 5 bits;
  eai = bit 4 bits;
  ear = bit 3 bits;
  eal = bit 2 bits;
  epc = bit 1 bits;
  pci = bit 0 bits;
}

-- "bit 14 level 1's" T
abbrev pub level_one : ℕ → Level
level_one tdr = level_of tdr (bit 14 tdr)

-- "Level 2 is the same from bit 29 to 16. Bit 15 is level 2's T"
abbrev pub level_two : ℕ → Level
level_two tdr = level_of (tdr / 2 ^ 16) (bit 15 tdr)
