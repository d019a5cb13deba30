-- Laws of the list as text: line by line.
use Rattle.std.specs.Prelude.{◌≡◌, ℕ, ◌+◌, ◌<◌, List, ◌++◌, length, get_or, drop}
use Rattle.laws.specs.PlaceLaws.{from_here}
use Rattle.mend_text.specs.MendText.{change_line, change_lines}

-- the lines from a word on: that word's, and then those behind it
pub lines_next : (words : List ℕ) (k : ℕ) → k < length words → change_lines (drop k words) ≡ change_line (get_or words k 0) ++ change_lines (drop (k + 1) words)
lines_next words k h = rw (from_here words k h)
