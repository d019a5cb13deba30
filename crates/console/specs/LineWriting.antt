-- The desk's language, "one answer line": what stands in a buffer in which texts are put together and from which they are written, one after the other.
use Rattle.std.specs.Prelude.{ℕ, List, [], ◌∷◌}
use Rattle.text.specs.Text.{ascii, written}

-- what ends a line that is written
abbrev pub line_end : List ℕ
line_end = ascii "\n"

-- the buffer after texts, each of them put at its front when the one before it was written
abbrev pub laid : List ℕ → List (List ℕ) → List ℕ
laid buffer [] = buffer
laid buffer (text ∷ texts) = laid (written buffer 0 text) texts
