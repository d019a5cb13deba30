-- Text put into a lent buffer (the desk's language): what stands in the buffer afterwards, and the place after the text.
use Rattle.std.specs.Prelude.{ℕ, ◌+◌, min, max, ◌≡◌, Bool, cond, List, length}
use Rattle.std.proofs.lemmas.List.Edits.{sets}
pub use Rattle.laws.specs.Ascii.{ascii}

-- the buffer with a text from a place on; what lies beyond the buffer's end is left out, and all other bytes stay
abbrev pub written : List ℕ → ℕ → List ℕ → List ℕ
written buffer at text = sets buffer at text

-- the place after so many bytes: no further than the room, and never back
abbrev pub end_of : ℕ → ℕ → ℕ → ℕ
end_of at count room = max at (min (at + count) room)

-- a text put at a place of a buffer: the buffer afterwards, and the place after the text
pub record Puts (before : List ℕ) (at : ℕ) (text after : List ℕ) (end : ℕ) : Type 0 where
  pub bytes : after ≡ written before at text
  pub place : end ≡ end_of at (length text) (length before)

-- "flags 0 or 1"
abbrev pub flag_text : Bool → List ℕ
flag_text flag = cond flag (ascii "1") (ascii "0")
