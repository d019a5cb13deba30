-- P9 (01, "What the desk checks by eye").
use Rattle.std.specs.Prelude.{ℕ, ◌+◌, ◌*◌, List, [], ◌∷◌}

-- "P9: cycles 10 50 90 04 03 02 11 F0 F0."
abbrev pub p9 : List ℕ
p9 = 0x10 ∷ 0x50 ∷ 0x90 ∷ 0x04 ∷ 0x03 ∷ 0x02 ∷ 0x11 ∷ 0xF0 ∷ 0xF0 ∷ []

-- its five items: cycle times 16 plus code, then the value
abbrev pub p9_words : List ℕ
p9_words = (0 * 16 + 1) ∷ 0 ∷ (1 * 16 + 5) ∷ 0 ∷ (6 * 16 + 9) ∷ 4660 ∷ (6 * 16 + 1) ∷ 0 ∷ (7 * 16 + 15) ∷ 0 ∷ []
