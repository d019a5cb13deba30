-- The desk's language: what is held of a line in a buffer of so many bytes.
use Rattle.std.specs.Prelude.{ℕ, ◌-◌, cond, List, [], ◌∷◌, ◌++◌, ltb, length, get_or, set}
use Rattle.words.specs.LineWords.{is_gap}

-- one byte more: where the buffer is full, only its last place takes one, while it has a space or tab. So what is held of a line too long tells
-- whether it is silent, however many of them come before its first word
unfoldable pub held : ℕ → List ℕ → ℕ → List ℕ
held room before byte =
    cond (ltb (length before) room) (before ++ byte ∷ [])
    (cond (is_gap (get_or before (length before - 1) 0)) (set before (length before - 1) byte) before)

abbrev pub held_on : ℕ → List ℕ → List ℕ → List ℕ
held_on room before [] = before
held_on room before (byte ∷ bytes) = held_on room (held room before byte) bytes

-- of a whole line: all of it where the buffer has room
abbrev pub held_of : ℕ → List ℕ → List ℕ
held_of room line = held_on room [] line
