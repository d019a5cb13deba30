-- The index of a trace (02, [2]): which cycles have an entry, and the words of all.
use Rattle.std.specs.Prelude.{ℕ, zero, suc, ◌+◌, ◌*◌, ◌/◌, ◌<◌, List, [], ◌∷◌, ◌++◌, length, get_or}
use Rattle.index.specs.Entry.{entry_at, entry_word}

-- "an index of cycles 0, 256, 512 and so on": so many of them are below a number of cycles
abbrev pub entry_count : ℕ → ℕ
entry_count cycles = (cycles + 255) / 256

-- the words of the first n entries
unfoldable pub first_entries : List ℕ → ℕ → List ℕ
first_entries trace zero = []
first_entries trace (suc n) = first_entries trace n ++ (entry_word (entry_at trace (256 * n)) ∷ [])

unfoldable pub index_words : List ℕ → List ℕ
index_words trace = first_entries trace (entry_count (length trace))

-- a trace of bytes, as a `&[u8]` always is: of another one an entry need not be read back
abbrev pub Bytes : List ℕ → Type 0
Bytes trace = (k : ℕ) → get_or trace k 0 < 256
